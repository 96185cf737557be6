-- What holds at each turn of a loop of `see_rows`.
use Rattle.mailbox_table.proofs.SeenLaws.{Seeing}
use Rattle.mailbox_table.proofs.readers.see_rows.Given as goal

abbrev pub invariant-loop-i : goal.invariant-loop-i
invariant-loop-i l = Seeing l.reader l.initial.words l.words l.seen l.low l.i
