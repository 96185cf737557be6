-- What holds at each turn of a loop of `split_rows`, and what falls.
use Rattle.listing_rules.proofs.Prelude.{◌-◌, length}
use Rattle.mailbox_table.proofs.PackedLaws.{Splitting}
use Rattle.mailbox_table.proofs.packed.split_rows.Given as goal

abbrev pub invariant-loop-at : goal.invariant-loop-at
invariant-loop-at l = Splitting l.table l.initial.words l.limit l.words l.n l.at

abbrev pub decreases-loop-at : goal.decreases-loop-at
decreases-loop-at l = length l.table - l.at
