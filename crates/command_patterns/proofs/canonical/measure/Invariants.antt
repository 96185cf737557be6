-- What holds at each turn of the loop of `measure`.
use Rattle.listing_rules.proofs.Prelude.{◌≡◌, length, List, ◌≤◌, ℕ}
use Rattle.listing_rules.specs.Command.{canonical}
use Rattle.command_patterns.specs.Places.{held}
use Rattle.command_patterns.proofs.Counting.{canonical_from, Counted}
use Rattle.command_patterns.proofs.canonical.measure.Given as goal

-- the reference counts by its length alone
abbrev pub invariant-loop-pattern : goal.invariant-loop-pattern
invariant-loop-pattern l =
    (l.count ≤ l.pattern-index) × ((r : List ℕ) → length r ≡ l.head → Counted l.count l.fit (canonical_from l.text r l.pattern-items l.pattern-index) (canonical r (held l.text l.fn.patterns)))
