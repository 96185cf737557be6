-- `list_answer::question::Question::shows_subscribed` meets its contract: the bits of the two members.
use Rattle.octets.proofs.Sets.{contains_bit}
use Rattle.command_line.specs.OptionSets.{options_is}
use Rattle.list_answer.proofs.question.Question.shows_subscribed.Goals as goal

pub returns : goal.returns
unfolding options_is
returns c = let o = c.args.self.options.bits in cc (contains_bit 0 o, contains_bit 4 o)
