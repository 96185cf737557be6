-- What holds at each turn of a loop of `read_options`, and what falls.
use Rattle.listing_rules.proofs.Prelude.{drop, length, ◌-◌}
use Rattle.listing_rules.specs.Command.{option, options}
use Rattle.command_line.specs.OptionSets.{summed, marks_of}
use Rattle.command_tokens.proofs.Parted.{Parting}
use Rattle.command_line.proofs.option_list.read_options.Given as goal

abbrev pub invariant-loop-option : goal.invariant-loop-option
invariant-loop-option l = Parting option (summed l.place (record { set = l.set.bits; known = l.known })) l.text l.at (marks_of l.place (options (drop l.initial.at l.text)))

abbrev pub decreases-loop-option : goal.decreases-loop-option
decreases-loop-option l = length l.text - l.at
