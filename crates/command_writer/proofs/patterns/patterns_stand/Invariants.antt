-- What holds at each turn of a loop of `patterns_stand`, and what falls.
use Rattle.listing_rules.proofs.Prelude.{◌≡◌, ◌-◌, drop, length}
use Rattle.listing_rules.specs.Joining.{can_stand, packed_patterns}
use Rattle.listing_rules.specs.Lists.{every}
use Rattle.command_writer.proofs.patterns.patterns_stand.Given as goal

abbrev pub invariant-loop-at : goal.invariant-loop-at
invariant-loop-at l = every can_stand (packed_patterns (drop l.at l.list)) ≡ every can_stand (packed_patterns l.list)

abbrev pub decreases-loop-at : goal.decreases-loop-at
decreases-loop-at l = length l.list - l.at
