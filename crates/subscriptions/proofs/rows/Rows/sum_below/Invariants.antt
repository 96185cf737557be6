-- What holds at each turn of a loop of `sum_below`, and what falls.
use Rattle.listing_rules.proofs.Prelude.{◌≡◌, ◌+◌, drop}
use Rattle.summary.specs.Counts.{sum_below}
use Rattle.subscriptions.proofs.rows.Rows.sum_below.Given as goal

abbrev pub invariant-loop-w : goal.invariant-loop-w
invariant-loop-w l = l.sum + sum_below l.self.area.now l.name (drop l.w-index l.self.words.now) ≡ sum_below l.self.area.now l.name l.self.words.now
