-- Tests on bytes and strings as the code makes them. Rests on the library alone.
use Rattle.listing_rules.proofs.Prelude.{◌≡◌, refl, sym, Bool, ◌||◌, false, or_assoc, or-false, true, List, [], ◌∷◌, suc, ℕ, arith, eqb, length}
use Rattle.listing_rules.proofs.Prelude.{eq-eqb, eqb-false, eqb-true, ne_eqb}
use Rattle.listing_rules.specs.Bytes.{text, one_of, is_empty}

eqb_turned : (a b : ℕ) → eqb a b ≡ eqb b a
eqb_turned a b = go (eqb a b) refl
  where
    go : (t : Bool) → eqb a b ≡ t → t ≡ eqb b a
    go true e = sym (eq-eqb b a (sym (eqb-true a b e)))
    go false e = sym (ne_eqb b a (λ q. eqb-false a b e (sym q)))

-- the eight bytes that no atom holds
pub special_is : (b : ℕ) → (eqb b 40 || eqb b 41 || eqb b 123 || eqb b 37 || eqb b 42 || eqb b 34 || eqb b 92 || eqb b 93) ≡ one_of
    (text "(){%*\"\\]") b
unfolding text one_of
special_is b =
    rw
    (eqb_turned b 40, eqb_turned b 41, eqb_turned b 123, eqb_turned b 37, eqb_turned b 42, eqb_turned b 34, eqb_turned b 92, eqb_turned b 93)
    (simp (or_assoc, or-false))

-- there is no byte
pub empty_is : (s : List ℕ) → eqb (length s) 0 ≡ is_empty s
unfolding is_empty
empty_is [] = refl
empty_is (b ∷ s) = ne_eqb (suc (length s)) 0 (λ e. omega arith)
