-- `converse::put_reason` meets its contract: four writes, one after the other.
use Rattle.octets.proofs.Puts.{put_then}
use Rattle.listing_rules.proofs.Keys.{open_bytes}
use Rattle.conversation.proofs.TalkKeys.{open_texts}
use Rattle.converse.proofs.refusals.put_reason.Goals as goal

pub returns : goal.returns
unfolding open_bytes open_texts
returns c =
    (put_then c.put_all-a.ensures (put_then c.put_number-b.ensures
    (put_then c.put_all-c.ensures c.put_meaning.ensures)))
