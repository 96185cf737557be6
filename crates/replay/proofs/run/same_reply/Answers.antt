-- `replay::run::same_reply` meets its contract, case by case. By RunLaws.
use Rattle.std.specs.Prelude.{Result}
use Rattle.octets.specs.declared.refusals.Refusal.{Refusal}
use Rattle.listing_rules.proofs.Prelude.{ap, refl, subst, ◌≤◌, ℕ, arith, eqb, length, length-take}
use Rattle.replay.specs.Running.{agreeing, said_so, answer_length}
use Rattle.replay.proofs.RunLaws.{said_by_lem}
use Rattle.replay.proofs.run.same_reply.Goals as goal

pub slice_bounds-same_digits-end : goal.slice_bounds-same_digits-end
unfolding answer_length
slice_bounds-same_digits-end c =
    let inside = subst (λ (w : Result ℕ Refusal). answer_length w ≤ length c.args.answer.now) c.in-Ok-Answer.is-0 c.requires in
    simp length-take (omega (arith, inside))

pub returns-in-Ok-Answer : goal.returns-in-Ok-Answer
unfolding said_so agreeing
returns-in-Ok-Answer c =
    said_by_lem _ _ c.in-Ok-Answer.is-0 c.in-Ok-Answer.is-1 c.same_digits.ensures

pub returns-in-Err-Number : goal.returns-in-Err-Number
unfolding said_so agreeing
returns-in-Err-Number c =
    said_by_lem _ _ c.in-Err-Number.is-0 c.in-Err-Number.is-1 (ap (eqb c.in-Err-Number.k) c.number.ensures)

pub returns-in-Ok-Number : goal.returns-in-Ok-Number
unfolding said_so agreeing
returns-in-Ok-Number c = said_by_lem _ _ c.in-Ok-Number.is-0 c.in-Ok-Number.is-1 refl

pub returns-in-Err-Answer : goal.returns-in-Err-Answer
unfolding said_so agreeing
returns-in-Err-Answer c = said_by_lem _ _ c.in-Err-Answer.is-0 c.in-Err-Answer.is-1 refl
