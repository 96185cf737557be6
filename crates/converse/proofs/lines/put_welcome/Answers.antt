-- `converse::put_welcome` meets its contract: three writes, one after the other.
use Rattle.octets.proofs.Puts.{put_then}
use Rattle.listing_rules.proofs.Keys.{open_bytes}
use Rattle.conversation.proofs.TalkKeys.{open_texts}
use Rattle.converse.proofs.lines.put_welcome.Goals as goal

pub returns : goal.returns
unfolding open_bytes open_texts
returns c =
    (put_then c.put_all-a.ensures (put_then c.put_number-b.ensures c.put_all.ensures))
