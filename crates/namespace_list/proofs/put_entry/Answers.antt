-- `put_entry` meets its contract: five writes, one behind the other.
use Rattle.listing_rules.specs.Bytes.{text}
use Rattle.listing_rules.specs.Server.{entry_text}
use Rattle.octets.proofs.Puts.{put_then}
use Rattle.namespace_list.proofs.put_entry.Goals as goal

pub returns : goal.returns
unfolding text entry_text
returns c =
    put_then c.put-open.ensures (put_then c.put_quoted-name.ensures (put_then c.put-space.ensures (put_then c.put_delimiter-sign.ensures c.put.ensures)))
