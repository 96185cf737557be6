-- `session::finish` meets its contract: nothing was gathered, or 13. Rests on FeedLaws.
use Rattle.kept_table.proofs.LentLaws.{says_none, says_refusal}
use Rattle.session.proofs.FeedLaws.{finishes}
use Rattle.session.proofs.finish.Goals as goal

pub returns-then-is_empty : goal.returns-then-is_empty
returns-then-is_empty c = finishes _ _ _ _ _ c.is_empty.ensures (rw c.if-is_empty.true (says_none _))

pub returns : goal.returns
returns c =
    finishes _ _ _ _ _ c.is_empty.ensures (rw c.if-is_empty.false (says_refusal 13 (rw c.number.ensures at c.put_refusal.ensures)))
