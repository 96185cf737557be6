-- A copy that runs every element through f: a turn's store takes the copy of j elements to the copy of j + 1. Rests on the library alone.
use Rattle.std.proofs.Common.{◌∙◌, ◌≡◌, ap, sym, List, [], ◌∷◌, ◌++◌, map, ◌+◌, ◌-◌, ◌<◌, ◌≤◌, ℕ, arith, drop, get_or, length}
use Rattle.std.proofs.Common.{set, take, length-drop}
use Rattle.std.proofs.Math.Seq.{paste}
use Rattle.std.proofs.lemmas.List.{get_or-map, get_or-drop, length-map, map_more}
use Rattle.std.proofs.lemmas.List.Edits.{paste_more}

module _ {A B : Type 0} (f : A → B) (d : List B) where
  pub copied_more : (at : ℕ) (s : List A) (z : A) (j i : ℕ) → i ≡ at + j → i < length d → j < length s →
      set (paste d at (map f s) j) i (f (get_or s j z)) ≡ paste d at (map f s) (j + 1)
  copied_more at s z j i here hd hs =
      (λ k. set (paste d at (map f s) j) (here k) (sym (get_or-map f s j z (f z) hs) k)) ∙ paste_more d at (map f s) j (f z) (omega arith) (omega (arith, length-map s f))

  -- the same place i in both lists, from `at` on
  pub copied_same : (at : ℕ) (s : List A) (z : A) (i : ℕ) → at ≤ i → i < length d → i < length s →
      set (paste d at (map f (drop at s)) (i - at)) i (f (get_or s i z)) ≡ paste d at (map f (drop at s)) (i + 1 - at)
  copied_same at s z i from hd hs =
      let here : at + (i - at) ≡ i = omega arith in
      let next : i - at + 1 ≡ i + 1 - at = omega arith in
      let read : get_or (drop at s) (i - at) z ≡ get_or s i z = get_or-drop at s (i - at) z ∙ ap (λ (k : ℕ). get_or s k z) here in
      ap (λ (a : A). set (paste d at (map f (drop at s)) (i - at)) i (f a)) (sym read)
      ∙ copied_more at (drop at s) z (i - at) i (sym here) hd (omega (arith, length-drop at s))
      ∙ ap (paste d at (map f (drop at s))) next

-- where g tells of each copy what h tells of its element: one element more
pub told_more : {A B C : Type 0} (f : A → B) (g : B → C) (h : A → C) (s : List A) (z : A) (j : ℕ) → j < length s → g (f (get_or s j z)) ≡ h (get_or s j z) →
    map g (take j (map f s)) ≡ map h (take j s) → map g (take (j + 1) (map f s)) ≡ map h (take (j + 1) s)
told_more f g h s z j l e p =
    let read : g (get_or (map f s) j (f z)) ≡ h (get_or s j z) = ap g (get_or-map f s j z (f z) l) ∙ e in
    map_more g (map f s) j (f z) (omega (arith, length-map s f)) ∙ (λ k. p k ++ (read k ∷ [])) ∙ sym (map_more h s j z l)
