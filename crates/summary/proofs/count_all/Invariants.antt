-- What holds at each turn of a loop of `count_all`.
use Rattle.listing_rules.proofs.Prelude.{◌≡◌, ◌≤◌, length}
use Rattle.listing_rules.proofs.Prelude.{paste}
use Rattle.summary.specs.Counts.{fresh_words}
use Rattle.summary.proofs.count_all.Given as goal

abbrev pub invariant-loop-i : goal.invariant-loop-i
invariant-loop-i l = (l.sums ≡ paste l.initial.sums 0 (fresh_words l.rows.area.now l.rows.words.now) l.i) × (l.i ≤ length l.rows.words.now) × (length l.sums ≡ length l.initial.sums)
