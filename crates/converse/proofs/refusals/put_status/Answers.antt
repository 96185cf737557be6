-- `converse::put_status` meets its contract: BAD for 3 to 8, else NO.
use Rattle.listing_rules.proofs.Keys.{open_bytes}
use Rattle.conversation.proofs.TalkKeys.{open_texts}
use Rattle.converse.proofs.refusals.put_status.Goals as goal

pub returns-then-k : goal.returns-then-k
unfolding open_bytes open_texts
returns-then-k c =
    rw c.if-k.true c.put_all.ensures

pub returns : goal.returns
unfolding open_bytes open_texts
returns c =
    rw c.if-k.false c.put_all-2.ensures
