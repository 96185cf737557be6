-- What holds at each turn of a loop of `some_after`.
use Rattle.listing_rules.proofs.Prelude.{◌≡◌, true, ◌+◌, ◌-◌, ◌<◌}
use Rattle.mailbox_table.specs.Index.{nth_name}
use Rattle.mailbox_table.specs.Below.{prefix_of, below_from, Begins}
use Rattle.mailbox_table.proofs.BelowLaws.{starts}
use Rattle.mailbox_table.proofs.scan.some_after.Given as goal

abbrev pub invariant-loop-k : goal.invariant-loop-k
invariant-loop-k l =
    (l.i < l.k) × (Begins l.area l.words l.i l.len →
    (starts (prefix_of l.area l.words l.i l.len) (nth_name l.area l.words (l.k - 1)) ≡ true)
    × (below_from l.area l.words l.marks (prefix_of l.area l.words l.i l.len) l.k ≡ below_from l.area l.words l.marks (prefix_of l.area l.words l.i l.len) (l.i + 1)))
