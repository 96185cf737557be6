-- A text at a place of the line.
use Rattle.listing_rules.proofs.Prelude.{◌∙◌, ◌≡◌, refl, Bool, ◌&&◌, cond, false, true, none, some, List, [], ◌∷◌, ◌+◌, ◌-◌, ◌<◌, ◌≤◌, ℕ, arith, eqb}
use Rattle.listing_rules.proofs.Prelude.{drop, length, length-drop, take, take_all, drop-drop}
use Rattle.listing_rules.specs.Bytes.{same}
use Rattle.listing_rules.specs.Tokens.{after}

-- all that is left from a place on, as the code takes it
pub rest_from : (l : List ℕ) (j : ℕ) → take (length l - j) (drop j l) ≡ drop j l
rest_from l j = take_all (length l - j) (drop j l) (omega (arith, length-drop j l))

-- a text longer than what is left
after_short : (t s : List ℕ) → length s < length t → after t s ≡ none
unfolding after
after_short [] s h = absurd (omega arith)
after_short (x ∷ t) [] h = refl
after_short (x ∷ t) (y ∷ s) h = go (eqb x y) (after_short t s (omega arith))
  where
    go : (o : Bool) → after t s ≡ none → cond o (after t s) none ≡ none
    go true e = e
    go false e = refl

-- a text that has room: the same bytes, or not
after_same : (t s : List ℕ) → length t ≤ length s → after t s ≡ cond (same t (take (length t) s)) (some (drop (length t) s)) none
unfolding after same
after_same [] s h = refl
after_same (x ∷ t) [] h = absurd (omega arith)
after_same (x ∷ t) (y ∷ s) h = go (eqb x y) (after_same t s (omega arith))
  where
    go : (o : Bool) → after t s ≡ cond (same t (take (length t) s)) (some (drop (length t) s)) none → cond o (after t s) none ≡ cond (o && same t (take (length t) s)) (some (drop (length t) s)) none
    go true e = e
    go false e = refl

module _ (l t : List ℕ) (at : ℕ) where
  pub skip_short : length l - at < length t → after t (drop at l) ≡ none
  skip_short h = after_short t (drop at l) (omega (arith, length-drop at l))

  module _ (h : length t ≤ length l - at) where
    same_part : after t (drop at l) ≡ cond (same t (take (at + length t - at) (drop at l))) (some (drop (length t) (drop at l))) none
    same_part =
        let w : at + length t - at ≡ length t = omega arith in
        rw w (after_same t (drop at l) (omega (arith, length-drop at l)))

    pub skip_other : same t (take (at + length t - at) (drop at l)) ≡ false → after t (drop at l) ≡ none
    skip_other e = same_part ∙ rw e

    pub skip_found : same t (take (at + length t - at) (drop at l)) ≡ true → after t (drop at l) ≡ some (drop (at + length t) l)
    skip_found e = same_part ∙ rw (e, drop-drop)
