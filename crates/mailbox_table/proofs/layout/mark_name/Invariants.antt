-- What holds at each turn of a loop of `mark_name`.
use Rattle.mailbox_table.proofs.LayoutLaws.{Marking}
use Rattle.mailbox_table.proofs.layout.mark_name.Given as goal

abbrev pub invariant-loop-k : goal.invariant-loop-k
invariant-loop-k l = Marking l.initial.used l.start l.len l.used l.taken l.k
