-- `list_answer::question::Question::is_met` meets its contract: the bits of the members, in the definition's order.
use Rattle.listing_rules.specs.Flags.{exists, remote, subscribed}
use Rattle.listing_rules.specs.Listing.{meets_criteria}
use Rattle.octets.proofs.Sets.{contains_bit}
use Rattle.command_line.specs.OptionSets.{options_is}
use Rattle.list_answer.proofs.question.Question.is_met.Goals as goal

pub returns : goal.returns
unfolding meets_criteria options_is exists remote subscribed
returns c =
    let o = c.args.self.options.bits in
    let f = c.args.flags.bits in
    cc (contains_bit 0 o, contains_bit 1 o, contains_bit 3 o, contains_bit 0 f, contains_bit 1 f, contains_bit 2 f)
