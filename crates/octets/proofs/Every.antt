-- A test on every byte of a run: what `all` of the library computes, and a loop that keeps whether all bytes before have passed. Rests on the library alone.
use Rattle.listing_rules.proofs.Prelude.{◌≡◌, refl, List, [], ◌∷◌, Bool, ◌&&◌, and_assoc, and-true, true, ◌+◌, ◌<◌, ◌≤◌, suc, ℕ, add-one, drop}
use Rattle.listing_rules.proofs.Prelude.{drop_of_length-le, get_or, length, drop-cons}
use Rattle.std.specs.List.{list_all}
use Rattle.listing_rules.specs.Bytes.{all}

-- what `all` of the library computes
pub all_list : (p : ℕ → Bool) (s : List ℕ) → list_all p s ≡ all p s
unfolding all
all_list p [] = refl
all_list p (b ∷ s) = rw (all_list p s)

module _ (p : ℕ → Bool) (s : List ℕ) (i : ℕ) where
  all_end : length s ≤ i → all p (drop i s) ≡ true
  unfolding all
  all_end h = rw (drop_of_length-le s h)

  -- a loop that keeps whether all bytes before have passed
  pub kept_step : (ok : Bool) → i < length s → ((ok && p (get_or s i 0)) && all p (drop (i + 1) s)) ≡ (ok && all p (drop i s))
  unfolding all
  kept_step ok h = rw (add-one, drop-cons s i 0 h) (and_assoc ok (p (get_or s i 0)) (all p (drop (suc i) s)))

  pub kept_end : (ok : Bool) → length s ≤ i → (ok && all p (drop i s)) ≡ ok
  kept_end ok h = rw (all_end h) (and-true ok)
