-- What holds at each turn of a loop of `patterns_short`, and what falls.
use Rattle.listing_rules.proofs.Prelude.{◌≡◌, ◌-◌, drop, length}
use Rattle.command_writer.specs.Patterns.{short_after, short}
use Rattle.listing_rules.specs.Lists.{every}
use Rattle.listing_rules.specs.Command.{canonical}
use Rattle.listing_rules.specs.Joining.{packed_patterns}
use Rattle.command_writer.proofs.patterns.patterns_short.Given as goal

abbrev pub invariant-loop-at : goal.invariant-loop-at
invariant-loop-at l =
    every (short_after l.reference) (packed_patterns (drop l.at l.list)) ≡ every short (canonical l.reference (packed_patterns l.list))

abbrev pub decreases-loop-at : goal.decreases-loop-at
decreases-loop-at l = length l.list - l.at
