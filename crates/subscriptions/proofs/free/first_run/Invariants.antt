-- What holds at each turn of a loop of `first_run`, and what falls.
use Rattle.subscriptions.proofs.RunLaws.{Passed}
use Rattle.subscriptions.proofs.free.first_run.Given as goal

abbrev pub invariant-loop-i : goal.invariant-loop-i
invariant-loop-i l = Passed l.len l.marks l.from l.i
