-- `list_answer::question::Question::of` meets its contract, by those of its two tests.
use Rattle.listing_rules.proofs.Prelude.{refl, ◌&&◌}
use Rattle.list_answer.proofs.question.Question.of.Goals as goal

pub returns : goal.returns
returns c =
    (refl, refl, λ i. c.is_unselective.ensures i && c.some_level.ensures i)
