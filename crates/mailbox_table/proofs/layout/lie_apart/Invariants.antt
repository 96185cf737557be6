-- What holds at each turn of a loop of `lie_apart`.
use Rattle.mailbox_table.proofs.LayoutLaws.{Laying}
use Rattle.mailbox_table.proofs.layout.lie_apart.Given as goal

abbrev pub invariant-loop-i : goal.invariant-loop-i
invariant-loop-i l = Laying l.words l.used l.i
