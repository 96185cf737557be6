-- What holds at each turn of a loop of `read_parted`, and what falls.
use Rattle.listing_rules.proofs.Prelude.{List, ℕ, drop, length, ◌-◌}
use Rattle.listing_rules.specs.Tokens.{pattern}
use Rattle.command_patterns.specs.Places.{join_to, up_to_eight}
use Rattle.command_patterns.proofs.Filling.{Filled}
use Rattle.listing_rules.specs.Command.{parted}
use Rattle.command_tokens.proofs.Parted.{Parting}
use Rattle.command_patterns.proofs.places.read_parted.Given as goal

abbrev pub invariant-loop-span : goal.invariant-loop-span
invariant-loop-span l = (done : List (List ℕ)) × Filled l.text l.found done × Parting pattern (join_to done) l.text l.at (up_to_eight (parted pattern (length (drop l.initial.at l.text)) (drop l.initial.at l.text)))

abbrev pub decreases-loop-span : goal.decreases-loop-span
decreases-loop-span l = length l.text - l.at
