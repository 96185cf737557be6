-- `list_answer::question::Question::counts_child` meets its contract: the bits of the members.
use Rattle.listing_rules.specs.Flags.{exists, remote}
use Rattle.octets.proofs.Sets.{contains_bit}
use Rattle.command_line.specs.OptionSets.{options_is}
use Rattle.list_answer.proofs.question.Question.counts_child.Goals as goal

pub returns : goal.returns
unfolding options_is exists remote
returns c =
    let f = c.args.flags.bits in
    cc (contains_bit 1 c.args.self.options.bits, contains_bit 0 f, contains_bit 2 f)
