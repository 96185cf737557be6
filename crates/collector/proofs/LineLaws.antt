-- The lines of an answer, as the library cuts it after each line feed. Rests on the library alone.
use Rattle.std.specs.Prelude.{Option as Maybe, Some, MatchOption}
use Rattle.std.specs.Fn.{ComputesKey}
use Rattle.std.specs.List.{IsFirstMatchOrLen}
use Rattle.std.proofs.lemmas.Iterator.{YieldsList}
use Rattle.std.proofs.lemmas.Iterator.Splits.{YieldsList-from_shown_while}
use denote.Param.Members.{Mut}
use denote.Ref.{Bor}
use Rattle.listing_rules.proofs.Prelude.{◌∙◌, ◌≡◌, ap, refl, Bool, List, [], ◌++◌, ◌∷◌, ◌+◌, ◌<◌, min, suc, zero, ℕ, arith, eqb}
use Rattle.listing_rules.proofs.Prelude.{drop, length, take}
use Rattle.listing_rules.specs.Lists.{on_first}
use Rattle.listing_rules.specs.Walk.{lines_of}

-- a byte is a line feed
abbrev pub feeds : ℕ → Bool
feeds b = eqb b 10

-- the first line ends at the first line feed, or at the end; and the other lines
first_line : (s : List ℕ) (i : ℕ) → IsFirstMatchOrLen feeds s i → 0 < length s → lines_of s ≡ take (suc i) s ∷ lines_of (drop (suc i) s)
unfolding lines_of on_first
first_line [] i f h = absurd (omega arith)
first_line (b ∷ t) zero f h = rw (f.1 (omega arith) b)
first_line (b ∷ []) (suc i) f h = rw (f.0 0 b (omega arith) (omega arith))
first_line (b ∷ c ∷ t) (suc i) f h =
    rw (f.0 0 b (omega arith) (omega arith))
    (ap (on_first b)
    (first_line (c ∷ t) i (λ k d lo hi. f.0 (suc k) d (omega arith) (omega arith), λ h d. f.1 (omega arith) d) (omega arith)))

-- a list in two parts, by the length of the first
parts : (x t : List ℕ) (n : ℕ) → length x ≡ min n (length (x ++ t)) → (take n (x ++ t) ≡ x) × (drop n (x ++ t) ≡ t)
parts [] [] zero e = (refl, refl)
parts [] [] (suc n) e = (refl, refl)
parts [] (b ∷ t) zero e = (refl, refl)
parts [] (b ∷ t) (suc n) e = absurd (omega arith)
parts (b ∷ x) t zero e = absurd (omega arith)
parts (b ∷ x) t (suc n) e = let p = parts x t n (omega arith) in (ap (λ (l : List ℕ). b ∷ l) p.0, p.1)

cut : (x t : List ℕ) (i : ℕ) → length x ≡ min (i + 1) (length (x ++ t)) → IsFirstMatchOrLen feeds (x ++ t) i → 0 < length (x ++ t)
    → lines_of (x ++ t) ≡ x ∷ lines_of t
cut x t i e f h =
    let p = parts x t (suc i) (omega arith) in
    first_line (x ++ t) i f h ∙ λ j. p.0 j ∷ lines_of (p.1 j)

no_lines : (l : List ℕ) → length l ≡ 0 → length (lines_of l) ≡ 0
unfolding lines_of
no_lines [] e = refl
no_lines (b ∷ t) e = absurd (omega arith)

-- The library's iterator, by what is left of the answer and by the test.
module _ {S F : Type 0} (rest : S → List ℕ) (callee : S → F) (g : Mut F (Bor ℕ × Unit {0}) Bool) where
  -- what a call of `next` gives
  abbrev steps : S → Maybe (Bor (List ℕ)) → S → Type 0
  steps s r t = MatchOption r ((length (rest s) ≡ 0) × (t ≡ s)) (λ x. (rest s ≡ x.now ++ rest t) × ((i : ℕ) × (length x.now ≡ min (i + 1) (length (rest s))) × ((p : ℕ → Bool) → ComputesKey g p (callee s) → ComputesKey g p (callee t) × IsFirstMatchOrLen p (rest s) i)) × (0 < length (rest s)))

  -- it gives the lines
  pub yields_lines : (s : S) → ComputesKey g feeds (callee s) → YieldsList steps (λ (x : Bor (List ℕ)). x.now) s (lines_of (rest s))
  yields_lines =
      YieldsList-from_shown_while steps (λ (x : Bor (List ℕ)). x.now) (λ (s : S). lines_of (rest s)) (λ (s : S). ComputesKey g feeds (callee s))
      (λ s t k n. no_lines (rest s) n.0) more
    where
      more : (s : S) (x : Bor (List ℕ)) (t : S) → ComputesKey g feeds (callee s) → steps s (Some x) t →
          ComputesKey g feeds (callee t) × (lines_of (rest s) ≡ x.now ∷ lines_of (rest t))
      more s x t k n =
          let after = n.1.2 feeds k in
          let whole = n.0 in
          (after.0, ap lines_of whole ∙ cut x.now (rest t) n.1.0 (rw whole at n.1.1) (rw whole at after.1) (rw whole at n.2))
