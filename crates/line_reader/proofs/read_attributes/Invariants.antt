-- What holds at each turn of a loop of `read_attributes`.
use Rattle.line_reader.proofs.Choosing.{Choosing}
use Rattle.line_reader.proofs.read_attributes.Given as goal

abbrev pub invariant-loop-k : goal.invariant-loop-k
invariant-loop-k l = Choosing l.line l.from l.at l.bits l.first l.k
