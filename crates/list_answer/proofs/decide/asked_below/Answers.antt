-- `list_answer::decide::asked_below` meets its contract, by that of `some_below`.
use Rattle.list_answer.proofs.decide.asked_below.Goals as goal

pub returns-then-not-asked : goal.returns-then-not-asked
returns-then-not-asked c =
    λ from_row. rw c.if-not-asked.true

pub returns : goal.returns
returns c =
    λ from_row. rw c.if-not-asked.false (c.some_below.ensures from_row)
