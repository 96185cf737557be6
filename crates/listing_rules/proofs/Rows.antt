-- Places of a packed table: what stands from a place on, as a loop over the bytes meets it. Rests on the library alone.
use Rattle.listing_rules.proofs.Prelude.{◌∙◌, ◌≡◌, ap, refl, false, true, List, [], ◌∷◌, ◌+◌, ◌-◌, ◌<◌, ◌≤◌, suc, zero, ℕ, arith, drop}
use Rattle.listing_rules.proofs.Prelude.{drop_of_length-le, get_or, length, length-drop, drop-drop, get_or-drop}
use Rattle.listing_rules.specs.Table.{rows_after, rows_fill}

pub fills_drop : (k : ℕ) (t : List ℕ) → k ≤ length t → rows_fill k t ≡ rows_fill 0 (drop k t)
unfolding rows_fill
fills_drop zero t h = refl
fills_drop (suc k) [] h = absurd (omega arith)
fills_drop (suc k) (x ∷ t) h = fills_drop k t (omega arith)

pub fills_short : (k : ℕ) (t : List ℕ) → length t < k → rows_fill k t ≡ false
unfolding rows_fill
fills_short zero t h = absurd (omega arith)
fills_short (suc k) [] h = refl
fills_short (suc k) (x ∷ t) h = fills_short k t (omega arith)

pub rows_drop : (k : ℕ) (t : List ℕ) → rows_after k t ≡ rows_after 0 (drop k t)
unfolding rows_after
rows_drop zero t = refl
rows_drop (suc k) [] = refl
rows_drop (suc k) (x ∷ t) = rows_drop k t

-- one row, at a place of the table
pub fills_row : (t : List ℕ) (n : ℕ) → 4 ≤ length t → get_or t 3 0 ≡ n → 4 + n ≤ length t → rows_fill 0 t ≡ rows_fill 0 (drop (4 + n) t)
unfolding rows_fill
fills_row [] n h e g = absurd (omega arith)
fills_row (a ∷ []) n h e g = absurd (omega arith)
fills_row (a ∷ b ∷ []) n h e g = absurd (omega arith)
fills_row (a ∷ b ∷ c ∷ []) n h e g = absurd (omega arith)
fills_row (a ∷ b ∷ c ∷ d ∷ t) n h e g =
    let k : 4 + n ≡ suc (suc (suc (suc n))) = omega arith in
    rw (e, k) (fills_drop n t (omega arith))

fills_bad : (t : List ℕ) (n : ℕ) → 4 ≤ length t → get_or t 3 0 ≡ n → length t < 4 + n → rows_fill 0 t ≡ false
unfolding rows_fill
fills_bad [] n h e g = absurd (omega arith)
fills_bad (a ∷ []) n h e g = absurd (omega arith)
fills_bad (a ∷ b ∷ []) n h e g = absurd (omega arith)
fills_bad (a ∷ b ∷ c ∷ []) n h e g = absurd (omega arith)
fills_bad (a ∷ b ∷ c ∷ d ∷ t) n h e g = rw e (fills_short n t (omega arith))

fills_stub : (t : List ℕ) → 0 < length t → length t < 4 → rows_fill 0 t ≡ false
unfolding rows_fill
fills_stub [] h g = absurd (omega arith)
fills_stub (a ∷ []) h g = refl
fills_stub (a ∷ b ∷ []) h g = refl
fills_stub (a ∷ b ∷ c ∷ []) h g = refl
fills_stub (a ∷ b ∷ c ∷ d ∷ t) h g = absurd (omega arith)

-- the same at a place of the table, as a loop over it has them
module _ (t : List ℕ) (at : ℕ) where
  pub at_end_lem : length t ≤ at → rows_fill 0 (drop at t) ≡ true
  unfolding rows_fill
  at_end_lem h = rw (drop_of_length-le t h)

  pub at_stub : at < length t → length t - at < 4 → rows_fill 0 (drop at t) ≡ false
  at_stub h g = fills_stub (drop at t) (omega (arith, length-drop at t)) (omega (arith, length-drop at t))

  pub at_bad : 4 ≤ length t - at → length t - at - 4 < get_or t (at + 3) 0 → rows_fill 0 (drop at t) ≡ false
  at_bad h g = fills_bad (drop at t) (get_or t (at + 3) 0) (omega (arith, length-drop at t)) (get_or-drop at t 3 0) (omega (arith, length-drop at t))

  pub at_row : 4 ≤ length t - at → get_or t (at + 3) 0 ≤ length t - at - 4 → rows_fill 0 (drop at t) ≡ rows_fill 0 (drop (at + 4 + get_or t (at + 3) 0) t)
  at_row h g =
      let n = get_or t (at + 3) 0 in
      let e : at + (4 + n) ≡ at + 4 + n = omega arith in
      fills_row (drop at t) (get_or t (at + 3) 0) (omega (arith, length-drop at t)) (get_or-drop at t 3 0) (omega (arith, length-drop at t))
      ∙ ap (λ (l : List ℕ). rows_fill 0 l) (drop-drop (4 + get_or t (at + 3) 0) at t ∙ ap (λ (k : ℕ). drop k t) e)
