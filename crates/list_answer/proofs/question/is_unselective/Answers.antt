-- `list_answer::question::is_unselective` meets its contract: the bits of the three members.
use Rattle.listing_rules.specs.Listing.{unselective}
use Rattle.octets.proofs.Sets.{contains_bit}
use Rattle.command_line.specs.OptionSets.{options_is}
use Rattle.list_answer.proofs.question.is_unselective.Goals as goal

pub returns : goal.returns
unfolding unselective options_is
returns c = let o = c.args.options.bits in cc (contains_bit 0 o, contains_bit 2 o, contains_bit 3 o)
