-- `list_answer::answer::first_length` meets its contract, way by way.
use Rattle.list_answer.proofs.answer.first_length.Goals as goal

pub returns : goal.returns
returns c = rw c.if-deep.false c.saturating_sub.ensures
