-- `run_steps` meets its contract: between two steps the match stands, and fewer steps are left after each. Rests on Running and
-- Fronts.
use Rattle.listing_rules.proofs.Prelude.{◌∙◌, sym, arith}
use Rattle.pattern.specs.declared.steps.Going.TheVariants.{On, Matched, Missed}
use Rattle.pattern.proofs.Running.{turn_inside, turn_less, turn_next}
use Rattle.pattern.proofs.Fronts.{first_turn, first_over, front_over, front_wild, front_next, front_less}
use Rattle.pattern.proofs.run.run_steps.Goals as goal

pub returns-then-is_over : goal.returns-then-is_over
returns-then-is_over c =
    rw c.answer.ensures (first_over _ _ _ _ c.first_step-front.ensures
    (sym c.is_over.ensures ∙ c.if-is_over.true))

pub loop-init : goal.loop-init
loop-init c =
    first_turn _ _ _ _ c.first_step-front.ensures (sym c.is_over.ensures ∙ c.if-is_over.false)

pub front_step-front-requires : goal.front_step-front-requires
front_step-front-requires c = let h = turn_inside _ _ _ _ c.loop.invariant in record { i_in_bounds = h.pattern; i_in_bounds_2 = h.name }

pub loop-smaller : goal.loop-smaller
loop-smaller c =
    front_less _ _ _ _ c.loop.invariant c.front_step-front.result c.front_step-front.ensures
    (sym c.ends.ensures ∙ c.if-ends.false)

pub loop-preserved : goal.loop-preserved
loop-preserved c =
    front_next _ _ _ _ c.loop.invariant c.front_step-front.result c.front_step-front.ensures
    (sym c.ends.ensures ∙ c.if-ends.false)

pub returns-then-is_over-2 : goal.returns-then-is_over-2
returns-then-is_over-2 c =
    let over = sym c.is_over-2.ensures ∙ c.if-is_over-2.true in
    rw c.answer-then-is_over-2.ensures (front_over _ _ _ _ c.loop.invariant c.front_step-front.result c.front_step-front.ensures over)

pub overflow_add-back : goal.overflow_add-back
overflow_add-back c =
    let over = sym c.is_over-2.ensures ∙ c.if-is_over-2.false in
    let ends = sym c.ends.ensures ∙ c.if-ends.true in
    let turn = front_wild _ _ _ _ c.loop.invariant c.front_step-front.result c.front_step-front.ensures ends over in
    omega (arith, (turn_inside _ _ _ _ turn).pattern)

pub loop-2-init : goal.loop-2-init
loop-2-init c =
    let over = sym c.is_over-2.ensures ∙ c.if-is_over-2.false in
    let ends = sym c.ends.ensures ∙ c.if-ends.true in
    rw c.wildcard-kind.ensures
    (front_wild _ _ _ _ c.loop.invariant c.front_step-front.result c.front_step-front.ensures ends over)

pub step-at-requires : goal.step-at-requires
step-at-requires c = turn_inside _ _ _ _ c.loop-2.invariant

pub loop-2-smaller : goal.loop-2-smaller
loop-2-smaller c =
    turn_less _ _ _ _ c.loop-2.invariant _ c.step-at.ensures c.in-On.is

pub loop-2-preserved : goal.loop-2-preserved
loop-2-preserved c =
    turn_next _ _ _ _ c.loop-2.invariant _ c.step-at.ensures On c.in-On.is

pub returns-in-Matched : goal.returns-in-Matched
returns-in-Matched c =
    rw c.answer-in-Matched.ensures (turn_next _ _ _ _ c.loop-2.invariant _ c.step-at.ensures Matched
    c.in-Matched.is)

pub returns-in-Missed : goal.returns-in-Missed
returns-in-Missed c =
    rw c.answer-in-Missed.ensures (turn_next _ _ _ _ c.loop-2.invariant _ c.step-at.ensures Missed
    c.in-Missed.is)
