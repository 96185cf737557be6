-- What holds at each turn of a loop of `unmark_names`, and what falls.
use Rattle.subscriptions.proofs.MapLaws.{Left}
use Rattle.subscriptions.proofs.free.unmark_names.Given as goal

abbrev pub invariant-loop-w : goal.invariant-loop-w
invariant-loop-w l = Left l.words l.initial.marks l.marks l.w-index
