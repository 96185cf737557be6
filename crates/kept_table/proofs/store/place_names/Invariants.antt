-- What holds at each turn of the loop of `place_names`.
use Rattle.kept_table.proofs.LayLaws.{Placing}
use Rattle.kept_table.proofs.store.place_names.Given as goal

abbrev pub invariant-loop-i : goal.invariant-loop-i
invariant-loop-i l = Placing l.table l.initial.words l.initial.area l.words l.area l.at l.i
