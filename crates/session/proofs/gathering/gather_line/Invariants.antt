-- What holds at each turn of a loop of `gather_line`.
use Rattle.session.proofs.LineLaws.{Part}
use Rattle.session.proofs.gathering.gather_line.Given as goal

abbrev pub invariant-loop-i : goal.invariant-loop-i
invariant-loop-i l = Part l.chunk l.initial.line l.initial.gathered l.line l.gathered l.i
