-- What holds at each turn of a loop of `put_attributes`.
use Rattle.list_line.proofs.Writing.{Spelled}
use Rattle.list_line.proofs.write.put_attributes.Given as goal

abbrev pub invariant-loop-k : goal.invariant-loop-k
invariant-loop-k l = Spelled l.initial.buf l.buf l.at l.to l.bits l.first l.k
