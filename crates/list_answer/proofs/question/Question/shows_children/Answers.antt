-- `list_answer::question::Question::shows_children` meets its contract: the bit of the member.
use Rattle.listing_rules.proofs.Prelude.{◌∙◌}
use Rattle.octets.proofs.Sets.{contains_bit}
use Rattle.command_line.specs.OptionSets.{options_is}
use Rattle.list_answer.proofs.question.Question.shows_children.Goals as goal

pub returns : goal.returns
unfolding options_is
returns c = c.has.ensures ∙ contains_bit 5 _
