-- `put_join` meets its contract: ten writes, one after the other (`put_then`).
use Rattle.listing_rules.specs.Bytes.{text, crlf}
use Rattle.listing_rules.specs.Joining.{joined_text}
use Rattle.octets.proofs.Puts.{put_then}
use Rattle.command_writer.proofs.put_join.Goals as goal

pub returns : goal.returns
unfolding text crlf joined_text
returns c =
    put_then c.put_all-tagged.ensures (put_then c.put_all-word.ensures (put_then c.put_selection-selection.ensures
    (put_then c.put_all-closed.ensures (put_then c.put_string-base.ensures (put_then c.put_all-open.ensures
    (put_then c.put_patterns-listed.ensures (put_then c.put-shut.ensures
    (put_then c.put_return-returned.ensures c.put_all.ensures))))))))
