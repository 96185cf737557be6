-- What holds at each turn of a loop of `some_level`, and what falls.
use Rattle.listing_rules.proofs.Prelude.{◌≡◌}
use Rattle.listing_rules.proofs.Prelude.{◌≡◌, ◌-◌, ◌≤◌, drop, length}
use Rattle.listing_rules.specs.Lists.{any_of}
use Rattle.listing_rules.specs.Listing.{ends_in_percent}
use Rattle.pattern.specs.Packed.{unpacked}
use Rattle.pattern.proofs.some_level.Given as goal

abbrev pub invariant-loop-at : goal.invariant-loop-at
invariant-loop-at l = (l.at ≤ length l.patterns) × (any_of ends_in_percent (unpacked (drop l.at l.patterns)) ≡ any_of ends_in_percent (unpacked l.patterns))

abbrev pub decreases-loop-at : goal.decreases-loop-at
decreases-loop-at l = length l.patterns - l.at
