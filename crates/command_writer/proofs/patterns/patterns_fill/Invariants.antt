-- What holds at each turn of a loop of `patterns_fill`, and what falls.
use Rattle.listing_rules.proofs.Prelude.{◌≡◌, ◌-◌, drop, length}
use Rattle.listing_rules.specs.Joining.{patterns_fill}
use Rattle.command_writer.proofs.patterns.patterns_fill.Given as goal

abbrev pub invariant-loop-at : goal.invariant-loop-at
invariant-loop-at l = patterns_fill 0 (drop l.at l.list) ≡ patterns_fill 0 l.list

abbrev pub decreases-loop-at : goal.decreases-loop-at
decreases-loop-at l = length l.list - l.at
