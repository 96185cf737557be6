-- `first_step` is the definition: there is such a step where both have a last place. Rests on OneStep.
use Rattle.listing_rules.proofs.Prelude.{◌∙◌, sym}
use Rattle.pattern.specs.Steps.{capped}
use Rattle.pattern.proofs.OneStep.{ends_blank, ends_nameless, ends_by}
use Rattle.pattern.proofs.front.first_step.Goals as goal

pub returns-then-pattern-eq0 : goal.returns-then-pattern-eq0
returns-then-pattern-eq0 c = sym (ends_blank _ _ _ c.if-pattern-eq0.true)

pub returns-then-name-eq0 : goal.returns-then-name-eq0
returns-then-name-eq0 c = sym (ends_nameless _ _ _ c.if-name-eq0.true)

pub returns : goal.returns
unfolding capped
returns c =
    c.look_at_ends.ensures ∙ sym (ends_by _ _ _ c.if-pattern-eq0.false c.if-name-eq0.false)
