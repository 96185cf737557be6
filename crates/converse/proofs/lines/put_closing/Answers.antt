-- `converse::put_closing` meets its contract: six writes, one after the other.
use Rattle.octets.proofs.Puts.{put_then}
use Rattle.listing_rules.proofs.Keys.{open_bytes}
use Rattle.conversation.proofs.TalkKeys.{open_texts}
use Rattle.converse.proofs.lines.put_closing.Goals as goal

pub returns : goal.returns
unfolding open_bytes open_texts
returns c =
    (put_then c.put_tag-a.ensures (put_then c.put-b.ensures
    (put_then c.put_all-c.ensures (put_then c.put-d.ensures
    (put_then c.put_all-e.ensures c.put_all.ensures)))))
