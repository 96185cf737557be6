-- `front_step` is a step of the definition, at the same place of both. Rests on OneStep and Fronts.
use Rattle.listing_rules.proofs.Prelude.{◌∙◌, ◌≡◌, refl, ◌⊎◌, inl, inr, ⊎_elim, ◌<◌, ℕ, arith}
use Rattle.pattern.specs.Steps.{given_up_as, resumed_as, pending_as}
use Rattle.pattern.proofs.OneStep.{step_end, step_over, step_star, step_level, step_missed, step_byte, byte_differs}
use Rattle.pattern.proofs.Fronts.{front_byte, front_led, star_ends, star_begins}
use Rattle.pattern.proofs.front.front_step.Goals as goal
use Rattle.pattern.proofs.front.front_step.Goals.{then-c-le-SLASH+else-c-eq42+else-c-eq37, else-c-le-SLASH}

-- no wildcard is above "/"
above : (c : ℕ) → 47 < c → (c ≡ 42) ⊎ (c ≡ 37) → ⊥
above c h e = ⊎_elim (λ f. omega arith) (λ f. omega arith) e

pub returns-then-i-name : goal.returns-then-i-name
returns-then-i-name c =
    front_led c.leads.ensures (step_end _ _ _ _ c.if-i-pattern.true c.if-i-name.true) refl

pub returns-then-i-pattern : goal.returns-then-i-pattern
unfolding given_up_as resumed_as
returns-then-i-pattern c =
    front_led c.leads-then-i-pattern.ensures (step_over _ _ _ _ c.if-i-pattern.true (omega arith)) refl

pub returns-then-i-pattern-2 : goal.returns-then-i-pattern-2
returns-then-i-pattern-2 c =
    front_led c.leads-then-i-pattern-2.ensures
    (step_star _ _ _ _ (omega arith) _ c.letter-c.ensures c.if-c-eq42.true ∙ star_ends _ _ _ c.if-i-pattern-2.true) refl

pub returns-then-c-eq42 : goal.returns-then-c-eq42
returns-then-c-eq42 c =
    front_led c.leads-then-c-eq42.ensures
    (step_star _ _ _ _ (omega arith) _ c.letter-c.ensures c.if-c-eq42.true ∙ star_begins _ _ _ c.if-i-pattern-2.false)
    refl

pub returns-then-c-eq37 : goal.returns-then-c-eq37
unfolding pending_as
returns-then-c-eq37 c =
    front_led c.leads-then-c-eq37.ensures (step_level _ _ _ _ (omega arith) _ c.letter-c.ensures c.if-c-eq37.true)
    refl

pub returns-then-i-name-2 : goal.returns-then-i-name-2
returns-then-i-name-2 c =
    let missed = step_missed _ c.args.pattern.now _ _ (omega arith) _ c.letter-c.ensures in
    let at_end_lem = c.if-i-name-2.true in
    front_led c.leads-then-i-name-2.ensures
    (elim c.if-c-le-SLASH.branch [
      | then-c-le-SLASH+else-c-eq42+else-c-eq37 w ↦ missed w.if-c-eq42.false w.if-c-eq37.false at_end_lem
      | else-c-le-SLASH w ↦ missed (λ e. above _ w.if-c-le-SLASH.false (inl e)) (λ e. above _ w.if-c-le-SLASH.false (inr e)) at_end_lem
    ]) refl

pub returns-then-c-name : goal.returns-then-c-name
unfolding given_up_as resumed_as
returns-then-c-name c =
    let byte = step_byte _ c.args.pattern.now _ _ (omega arith) _ c.letter-c.ensures in
    front_led c.leads-then-c-name.ensures
    (elim c.if-c-le-SLASH.branch [
      | then-c-le-SLASH+else-c-eq42+else-c-eq37 w ↦ byte w.if-c-eq42.false w.if-c-eq37.false (omega arith)
      | else-c-le-SLASH w ↦ byte (λ e. above _ w.if-c-le-SLASH.false (inl e)) (λ e. above _ w.if-c-le-SLASH.false (inr e)) (omega arith)
    ]
    ∙ byte_differs _ _ _ c.if-c-name.true) refl

pub returns : goal.returns
returns c =
    let byte = step_byte _ c.args.pattern.now _ _ (omega arith) _ c.letter-c.ensures in
    front_led c.leads-2.ensures
    (elim c.if-c-le-SLASH.branch [
      | then-c-le-SLASH+else-c-eq42+else-c-eq37 w ↦ byte w.if-c-eq42.false w.if-c-eq37.false (omega arith)
      | else-c-le-SLASH w ↦ byte (λ e. above _ w.if-c-le-SLASH.false (inl e)) (λ e. above _ w.if-c-le-SLASH.false (inr e)) (omega arith)
    ]
    ∙ front_byte _ _ _ _ (omega arith)) refl
