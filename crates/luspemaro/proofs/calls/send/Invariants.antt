-- What holds at each turn of a loop of `send`, and what falls.
use Rattle.luspemaro.specs.Calling.{Leaves}
use Rattle.listing_rules.proofs.Prelude.{length, take}
use Rattle.luspemaro.proofs.calls.send.Given as goal

abbrev pub invariant-loop-rest : goal.invariant-loop-rest
invariant-loop-rest l = Leaves (take l.written l.out) l.rest

abbrev pub decreases-loop-rest : goal.decreases-loop-rest
decreases-loop-rest l = length l.rest
