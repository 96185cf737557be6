-- The outcome of a step of the walk: it went on and what it needs holds, or it was refused by 9, 10 or 11 and that does not hold. Rests on the library alone.
use Rattle.listing_rules.proofs.Prelude.{◌≡◌, ℕ}
use Rattle.listing_rules.specs.Walk.{Step, stop, go, ◌then◌}

-- the numbers of a buffer that is too short
pub data Short : ℕ → Type 0 where
  scratch_short : Short 9
  found_short_lem : Short 10
  pending_short : Short 11

-- the step goes to u exactly if H holds, and else is refused
pub data Outcome {A : Type 0} (x : Step A) (u : A) (H : Type 0) : Type 0 where
  went : x ≡ go u → H → Outcome x u H
  stopped : (k : ℕ) → Short k → x ≡ stop k → (H → ⊥) → Outcome x u H

-- the same with another statement of what holds
pub with_fact : {A : Type 0} {x : Step A} {u : A} {H K : Type 0} → (H → K) → (K → H) → Outcome x u H → Outcome x u K
with_fact f g (went e h) = went e (f h)
with_fact f g (stopped k s e n) = stopped k s e (λ h. n (g h))

-- one step after the other
pub then_step : {A B : Type 0} {x : Step A} {u : A} (f : A → Step B) {v : B} {H K : Type 0} → Outcome x u H → (H → Outcome (f u) v K) → (K → H) → Outcome (x then f) v K
unfolding ◌then◌
then_step f (went e h) next back = rw e (next h)
then_step f (stopped k s e n) next back = stopped k s (rw e) (λ h. n (back h))
