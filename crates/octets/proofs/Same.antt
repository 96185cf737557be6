-- Two runs compared byte by byte, and a run compared in any case of letters, as `==` and `all` of the library compute them.
use Rattle.listing_rules.proofs.Prelude.{arith, ◌∙◌, ◌≡◌, ap, refl, sym, Bool, ◌&&◌, false, true, List, [], ◌∷◌, suc, ℕ, eqb}
use Rattle.listing_rules.proofs.Prelude.{length}
use Rattle.std.specs.Prelude.{nat_eq}
use Rattle.std.specs.List.{list_all, zip}
use Rattle.std.specs.Cmp.Lexicographic.{pointwise}
use Rattle.listing_rules.specs.Bytes.{same, spells, raise, raised}

-- what `==` of two slices computes
pub same_pointwise : (a b : List ℕ) → pointwise nat_eq a b ≡ same a b
unfolding same
same_pointwise [] [] = refl
same_pointwise [] (y ∷ ys) = refl
same_pointwise (x ∷ xs) [] = refl
same_pointwise (x ∷ xs) (y ∷ ys) = rw (same_pointwise xs ys)

-- runs of different length differ
pub same_lengths : (a b : List ℕ) → (length a ≡ length b → ⊥) → same a b ≡ false
unfolding same
same_lengths [] [] h = absurd (h refl)
same_lengths [] (y ∷ ys) h = refl
same_lengths (x ∷ xs) [] h = refl
same_lengths (x ∷ xs) (y ∷ ys) h = go (eqb x y) (same_lengths xs ys (λ e. h (ap suc e)))
  where
    go : (o : Bool) → same xs ys ≡ false → (o && same xs ys) ≡ false
    go true e = e
    go false e = refl

pub raised_length : (s : List ℕ) → length (raised s) ≡ length s
unfolding raised
raised_length [] = refl
raised_length (b ∷ t) = ap suc (raised_length t)

pub spells_lengths : (s w : List ℕ) → (length s ≡ length w → ⊥) → spells s w ≡ false
unfolding spells
spells_lengths s w h = same_lengths (raised s) w (λ e. h (sym (raised_length s) ∙ e))

-- runs of one length: each byte raised is the word's
pub spells_zip : (s w : List ℕ) → length s ≡ length w → list_all (λ p. nat_eq (raise p.0) p.1) (zip s w) ≡ spells s w
unfolding same raised spells
spells_zip [] [] h = refl
spells_zip [] (y ∷ ys) h = absurd (omega arith)
spells_zip (x ∷ xs) [] h = absurd (omega arith)
spells_zip (x ∷ xs) (y ∷ ys) h = ap (λ o. nat_eq (raise x) y && o) (spells_zip xs ys (omega arith))
