-- `list_answer::marks::asked_match` meets its contract, by that of `matches_any`.
use Rattle.list_answer.proofs.marks.asked_match.Goals as goal

pub returns-then-not-asked : goal.returns-then-not-asked
returns-then-not-asked c =
    rw c.if-not-asked.true

pub returns : goal.returns
returns c =
    rw c.if-not-asked.false c.matches_any.ensures
