-- Parts of the pattern between two places, as it is compared. Rests on Folded.
use Rattle.listing_rules.proofs.Prelude.{◌∙◌, ◌≡◌, ap, refl, sym, Bool, List, [], ◌++◌, ◌∷◌, ◌+◌, ◌-◌, ◌<◌, ◌≤◌, suc, zero, ℕ, arith, drop, length}
use Rattle.listing_rules.proofs.Prelude.{length-drop, take, take-append-drop, drop-drop, length-take-le, take-add}
use Rattle.pattern.specs.Folded.{folded}

-- the pattern from a place on, and between two places
abbrev pub rest_at : Bool → List ℕ → ℕ → List ℕ
rest_at fold pattern a = folded fold (drop a pattern)

unfoldable pub span : Bool → List ℕ → ℕ → ℕ → List ℕ
span fold pattern a i = take (i - a) (rest_at fold pattern a)

pub folded_length : (fold : Bool) (l : List ℕ) → length (folded fold l) ≡ length l
unfolding folded
folded_length fold [] = refl
folded_length fold (c ∷ l) = ap suc (folded_length fold l)

folded_drop : (fold : Bool) (k : ℕ) (l : List ℕ) → drop k (folded fold l) ≡ folded fold (drop k l)
unfolding folded
folded_drop fold zero l = refl
folded_drop fold (suc k) [] = refl
folded_drop fold (suc k) (c ∷ l) = folded_drop fold k l

module _ (fold : Bool) (pattern : List ℕ) where
  rest_on : (a i : ℕ) → a ≤ i → drop (i - a) (rest_at fold pattern a) ≡ rest_at fold pattern i
  rest_on a i h =
      let w : a + (i - a) ≡ i = omega arith in
      folded_drop fold (i - a) (drop a pattern) ∙ ap (folded fold) (drop-drop (i - a) a pattern) ∙ ap (λ (k : ℕ). folded fold (drop k pattern)) w

  pub span_rest : (a i : ℕ) → a ≤ i → rest_at fold pattern a ≡ span fold pattern a i ++ rest_at fold pattern i
  unfolding span
  span_rest a i h =
      sym (take-append-drop (i - a) (rest_at fold pattern a)) ∙ ap (λ (l : List ℕ). take (i - a) (rest_at fold pattern a) ++ l) (rest_on a i h)

  pub span_none : (a : ℕ) → span fold pattern a a ≡ []
  unfolding span
  span_none a = let w : a - a ≡ 0 = omega arith in rw w

  pub span_join : (s a i : ℕ) → s ≤ a → a ≤ i → span fold pattern s i ≡ span fold pattern s a ++ span fold pattern a i
  unfolding span
  span_join s a i h g =
      let w : i - s ≡ a - s + (i - a) = omega arith in
      rw w (take-add (a - s) (i - a) (rest_at fold pattern s)
      ∙ ap (λ (l : List ℕ). take (a - s) (rest_at fold pattern s) ++ take (i - a) l) (rest_on s a h))

  span_one : (i c : ℕ) (r : List ℕ) → rest_at fold pattern i ≡ c ∷ r → span fold pattern i (i + 1) ≡ c ∷ []
  unfolding span
  span_one i c r e = let w : i + 1 - i ≡ 1 = omega arith in rw (w, e)

  pub span_more : (a i c : ℕ) (r : List ℕ) → a ≤ i → rest_at fold pattern i ≡ c ∷ r → span fold pattern a (i + 1) ≡ span fold pattern a i ++ (c ∷ [])
  span_more a i c r h e = span_join a i (i + 1) h (omega arith) ∙ ap (λ (l : List ℕ). span fold pattern a i ++ l) (span_one i c r e)

  pub span_length : (a i : ℕ) → a ≤ i → i ≤ length pattern → length (span fold pattern a i) ≡ i - a
  unfolding span
  span_length a i h g = length-take-le (i - a) (rest_at fold pattern a) (omega (arith, folded_length fold (drop a pattern), length-drop a pattern))

  -- one place on
  pub rest_next : (i c : ℕ) (r : List ℕ) → rest_at fold pattern i ≡ c ∷ r → rest_at fold pattern (i + 1) ≡ r
  rest_next i c r e =
      let w : i + 1 - i ≡ 1 = omega arith in
      sym (rest_on i (i + 1) (omega arith)) ∙ rw (w, e)

  pub rest_inside : (i c : ℕ) (r : List ℕ) → rest_at fold pattern i ≡ c ∷ r → i < length pattern
  rest_inside i c r e = omega (arith, ap length e, folded_length fold (drop i pattern), length-drop i pattern)
