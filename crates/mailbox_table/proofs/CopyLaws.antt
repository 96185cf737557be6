-- A loop that copies elements from the front on. Rests on the library alone.
use Rattle.listing_rules.proofs.Prelude.{◌∙◌, ◌≡◌, refl, List, ◌++◌, ◌+◌, ◌<◌, suc, ℕ, add-one, arith, drop, get_or, length, length-set, set, take}
use Rattle.listing_rules.proofs.Prelude.{append_snoc, drop-cons, length-take-le, set_at, take-suc}

-- the first i elements of d are those of s, which is e
pub record Copied (s d e : List ℕ) (i : ℕ) : Type 0 where
  pub size : length e ≡ length d
  pub elements : e ≡ take i s ++ drop i d

pub copied_none : (s d : List ℕ) → Copied s d d 0
copied_none s d = record { size = refl; elements = refl }

pub copied_more : {s d e : List ℕ} {i : ℕ} → Copied s d e i → i < length s → i < length d → Copied s d (set e i (get_or s i 0)) (i + 1)
copied_more {s} {d} {e} {i} c h g =
    record {
      size = length-set e i (get_or s i 0) ∙ c.size;
      elements =
          rw (c.elements, drop-cons d i 0 g, add-one i, take-suc s i 0 h, append_snoc (take i s) (get_or s i 0) (drop (suc i) d))
          (set_at (take i s) (get_or d i 0) (drop (suc i) d) (get_or s i 0) i (length-take-le i s (omega arith)));
    }
