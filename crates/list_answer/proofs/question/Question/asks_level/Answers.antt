-- `list_answer::question::Question::asks_level` meets its contract: the bit of the member.
use Rattle.listing_rules.proofs.Prelude.{◌∙◌, ap, Bool, ◌&&◌, not}
use Rattle.listing_rules.specs.Flags.{exists}
use Rattle.octets.proofs.Sets.{contains_bit}
use Rattle.list_answer.proofs.question.Question.asks_level.Goals as goal

pub returns : goal.returns
unfolding exists
returns c =
    ap (λ (b : Bool). c.args.self.levels && not b) (c.has.ensures ∙ contains_bit 0 _)
