-- Items of a packed run: the item at a place, and that what was packed is unpacked. Rests on the library alone.
use Rattle.listing_rules.proofs.Prelude.{◌∙◌, ◌≡◌, ap, refl, List, [], ◌++◌, ◌∷◌, ◌+◌, ◌-◌, ◌<◌, ◌≤◌, min, suc, zero, ℕ, add-one, dec_le, arith, drop}
use Rattle.listing_rules.proofs.Prelude.{drop_of_length-le, get_or, length, length-drop, take, drop-append_seam, drop-cons, drop-drop, take_all}
use Rattle.listing_rules.proofs.Prelude.{take-append_seam}
use Rattle.listing_rules.specs.Lists.{joined}
use Rattle.listing_rules.specs.Walk.{packed}
use Rattle.pattern.specs.Packed.{unpacked_after, unpacked, open_packed}

-- the bytes that still belong to an item may be dropped at once
pub unpacked_drop : (k : ℕ) (l : List ℕ) → unpacked_after k l ≡ unpacked (drop k l)
unfolding unpacked unpacked_after
unpacked_drop zero l = refl
unpacked_drop (suc k) [] = refl
unpacked_drop (suc k) (b ∷ l) = unpacked_drop k l

pub unpacked_none : unpacked [] ≡ []
unfolding unpacked unpacked_after
unpacked_none = refl

-- the first item, and those after it
pub unpacked_first : (n : ℕ) (t : List ℕ) → unpacked (n ∷ t) ≡ take n t ∷ unpacked (drop n t)
unfolding unpacked unpacked_after
unpacked_first n t = ap (λ (r : List (List ℕ)). take n t ∷ r) (unpacked_drop n t)

-- the item at a place
pub unpacked_at : (l : List ℕ) (at : ℕ) → at < length l → unpacked (drop at l) ≡ take (get_or l at 0) (drop (at + 1) l) ∷ unpacked (drop (at + 1 + get_or l at 0) l)
unpacked_at l at h = rw (add-one, drop-cons l at 0 h, ← drop-drop (get_or l at 0) (suc at) l) (unpacked_first (get_or l at 0) (drop (suc at) l))

-- with the item's end as a loop over the run has it
pub unpacked_next : (l : List ℕ) (at e : ℕ) → at < length l → e ≡ min (at + 1 + get_or l at 0) (length l)
    → unpacked (drop at l) ≡ take (e - (at + 1)) (drop (at + 1) l) ∷ unpacked (drop e l)
unpacked_next l at e h q = unpacked_at l at h ∙ elim (dec_le (at + 1 + get_or l at 0) (length l)) [ yes g ↦ inside g | no g ↦ cut (omega arith) ]
  where
    Same : Type 0
    Same = take (get_or l at 0) (drop (at + 1) l) ∷ unpacked (drop (at + 1 + get_or l at 0) l) ≡ take (e - (at + 1)) (drop (at + 1) l) ∷ unpacked (drop e l)

    inside : at + 1 + get_or l at 0 ≤ length l → Same
    inside g =
        let w : e ≡ at + 1 + get_or l at 0 = omega arith in
        let v : e - (at + 1) ≡ get_or l at 0 = omega arith in
        rw (v, w)

    cut : length l < at + 1 + get_or l at 0 → Same
    cut g =
        rw (
          take_all (get_or l at 0) (drop (at + 1) l) (omega (arith, length-drop (at + 1) l)),
          take_all (e - (at + 1)) (drop (at + 1) l) (omega (arith, length-drop (at + 1) l)),
          drop_of_length-le l {i = at + 1 + get_or l at 0} (omega arith),
          drop_of_length-le l {i = e} (omega arith),
        )

-- two items, of which the second is said to be longer than what is there
cut_short : unpacked (1 ∷ 98 ∷ 5 ∷ 97 ∷ []) ≡ (98 ∷ []) ∷ (97 ∷ []) ∷ []
unfolding open_packed
cut_short = refl

-- what was packed is unpacked, whatever the lengths
pub unpacked_packed : (ps : List (List ℕ)) → unpacked (packed ps) ≡ ps
unfolding packed joined
unpacked_packed [] = unpacked_none
unpacked_packed (p ∷ ps) = unpacked_first (length p) (p ++ packed ps) ∙ rw (take-append_seam p (packed ps), drop-append_seam p (packed ps), unpacked_packed ps)
