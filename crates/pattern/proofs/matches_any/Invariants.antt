-- What holds at each turn of a loop of `matches_any`, and what falls.
use Rattle.listing_rules.proofs.Prelude.{◌≡◌}
use Rattle.listing_rules.proofs.Prelude.{◌≡◌, ◌-◌, ◌≤◌, drop, length}
use Rattle.listing_rules.specs.Match.{matches_any}
use Rattle.pattern.specs.Packed.{unpacked}
use Rattle.pattern.specs.Chosen.{chosen}
use Rattle.pattern.proofs.matches_any.Given as goal

abbrev pub invariant-loop-at : goal.invariant-loop-at
invariant-loop-at l = (l.at ≤ length l.patterns) × (matches_any (chosen l.levels (unpacked (drop l.at l.patterns))) l.name ≡ matches_any (chosen l.levels (unpacked l.patterns)) l.name)

abbrev pub decreases-loop-at : goal.decreases-loop-at
decreases-loop-at l = length l.patterns - l.at
