-- What holds at each turn of a loop of `read_name`, and what falls.
use Rattle.listing_rules.proofs.Prelude.{◌-◌, length}
use Rattle.line_reader.proofs.Naming.{Naming}
use Rattle.line_reader.proofs.read_name.Given as goal

abbrev pub invariant-loop-b : goal.invariant-loop-b
invariant-loop-b l = Naming l.line l.from l.initial.name l.name l.len l.i

abbrev pub decreases-loop-b : goal.decreases-loop-b
decreases-loop-b l = length l.line - l.i
