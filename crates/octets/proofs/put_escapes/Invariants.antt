-- What holds at each turn of the loop of `put_escapes`.
use Rattle.listing_rules.proofs.Prelude.{drop}
use Rattle.listing_rules.specs.Lines.{escaped}
use Rattle.octets.proofs.Puts.{Putting}
use Rattle.octets.proofs.put_escapes.Given as goal

abbrev pub invariant-loop-b : goal.invariant-loop-b
invariant-loop-b l = Putting l.initial.buf l.buf l.at (escaped l.s) (escaped (drop l.b-index l.s)) l.to
