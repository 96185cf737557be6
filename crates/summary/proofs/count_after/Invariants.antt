-- What holds at each turn of a loop of `count_after`.
use Rattle.listing_rules.proofs.Prelude.{◌≡◌, true, ◌+◌, ◌-◌, ◌<◌, drop}
use Rattle.mailbox_table.specs.Index.{nth_name}
use Rattle.mailbox_table.specs.Below.{prefix_of}
use Rattle.mailbox_table.proofs.BelowLaws.{starts}
use Rattle.summary.specs.Counts.{sum_below}
use Rattle.summary.proofs.count_after.Given as goal

abbrev pub invariant-loop-k : goal.invariant-loop-k
invariant-loop-k l =
    (l.i < l.k)
    × (starts (prefix_of l.rows.area.now l.rows.words.now l.i l.len) (nth_name l.rows.area.now l.rows.words.now (l.k - 1)) ≡ true)
    × (l.sum + sum_below l.rows.area.now (prefix_of l.rows.area.now l.rows.words.now l.i l.len) (drop l.k l.rows.words.now) ≡ sum_below l.rows.area.now (prefix_of l.rows.area.now l.rows.words.now l.i l.len) (drop (l.i + 1) l.rows.words.now))
