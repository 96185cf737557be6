-- What holds at each turn of a loop of `count_patterns`, and what falls.
use Rattle.listing_rules.proofs.Prelude.{◌≡◌, length, ◌+◌, ◌-◌, ◌≤◌, drop}
use Rattle.listing_rules.specs.Joining.{packed_patterns}
use Rattle.command_writer.proofs.patterns.count_patterns.Given as goal

abbrev pub invariant-loop-at : goal.invariant-loop-at
invariant-loop-at l = (l.count ≤ l.at) × (l.count + length (packed_patterns (drop l.at l.list)) ≡ length (packed_patterns l.list))

abbrev pub decreases-loop-at : goal.decreases-loop-at
decreases-loop-at l = length l.list - l.at
