-- What holds at each turn of a loop of `run_steps`, and what falls.
use Rattle.pattern.specs.Steps.{front_at}
use Rattle.pattern.proofs.Stepping.{due_at}
use Rattle.pattern.proofs.Running.{Turn}
use Rattle.pattern.proofs.run.run_steps.Given as goal

abbrev pub invariant-loop : goal.invariant-loop
invariant-loop l = Turn l.fold l.pattern l.name (front_at l.front.i l.front.steps)

abbrev pub decreases-loop : goal.decreases-loop
decreases-loop l = due_at l.fold l.pattern l.name (front_at l.front.i l.front.steps)

abbrev pub invariant-loop-2 : goal.invariant-loop-2
invariant-loop-2 l = Turn l.fold l.pattern l.name l.at

abbrev pub decreases-loop-2 : goal.decreases-loop-2
decreases-loop-2 l = due_at l.fold l.pattern l.name l.at
