-- `step` is the definition, place by place. Rests on OneStep.
use Rattle.listing_rules.proofs.Prelude.{◌≡◌, ◌⊎◌, inl, inr, ⊎_elim, ◌<◌, ℕ, arith}
use Rattle.pattern.proofs.OneStep.{as_capped, step_end, step_over, step_star, step_level, step_missed, step_byte}
use Rattle.pattern.proofs.steps.step.Goals as goal
use Rattle.pattern.proofs.steps.step.Goals.{then-c-le-SLASH+else-c-eq42+else-c-eq37, else-c-le-SLASH}

-- no wildcard is above "/"
above : (c : ℕ) → 47 < c → (c ≡ 42) ⊎ (c ≡ 37) → ⊥
above c h e = ⊎_elim (λ f. omega arith) (λ f. omega arith) e

pub returns-then-j-name : goal.returns-then-j-name
returns-then-j-name c =
    as_capped c.ends.ensures (step_end _ _ _ _ c.if-i-pattern.true c.if-j-name.true)

pub returns-then-i-pattern : goal.returns-then-i-pattern
returns-then-i-pattern c =
    as_capped c.give_up.ensures (step_over _ _ _ _ c.if-i-pattern.true (omega arith))

pub returns-then-c-eq42 : goal.returns-then-c-eq42
returns-then-c-eq42 c =
    as_capped c.star_step.ensures (step_star _ _ _ _ (omega arith) _ c.letter-c.ensures c.if-c-eq42.true)

pub returns-then-c-eq37 : goal.returns-then-c-eq37
returns-then-c-eq37 c =
    as_capped c.level_step.ensures (step_level _ _ _ _ (omega arith) _ c.letter-c.ensures c.if-c-eq37.true)

pub returns-then-j-name-2 : goal.returns-then-j-name-2
returns-then-j-name-2 c =
    let missed = step_missed _ c.args.pattern.now _ _ (omega arith) _ c.letter-c.ensures in
    as_capped c.ends-then-j-name-2.ensures
    (elim c.if-c-le-SLASH.branch [
      | then-c-le-SLASH+else-c-eq42+else-c-eq37 w ↦ missed w.if-c-eq42.false w.if-c-eq37.false c.if-j-name-2.true
      | else-c-le-SLASH w ↦ missed (λ e. above _ w.if-c-le-SLASH.false (inl e)) (λ e. above _ w.if-c-le-SLASH.false (inr e)) c.if-j-name-2.true
    ])

pub returns : goal.returns
returns c =
    let byte = step_byte _ c.args.pattern.now _ _ (omega arith) _ c.letter-c.ensures in
    as_capped c.byte_step.ensures
    (elim c.if-c-le-SLASH.branch [
      | then-c-le-SLASH+else-c-eq42+else-c-eq37 w ↦ byte w.if-c-eq42.false w.if-c-eq37.false (omega arith)
      | else-c-le-SLASH w ↦ byte (λ e. above _ w.if-c-le-SLASH.false (inl e)) (λ e. above _ w.if-c-le-SLASH.false (inr e)) (omega arith)
    ])
