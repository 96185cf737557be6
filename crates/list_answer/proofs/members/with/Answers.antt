-- `list_answer::members::with` meets its contract, by that of `union`.
use Rattle.list_answer.proofs.members.with.Goals as goal

pub returns-then-holds : goal.returns-then-holds
returns-then-holds g c = rw c.if-holds.true c.union.ensures

pub returns : goal.returns
returns g c = rw c.if-holds.false
