-- The lowest free run, by one pass over the map. Rests on the library alone.
use Rattle.std.specs.Prelude.{Some, None}
use Rattle.listing_rules.proofs.Prelude.{◌∙◌, ◌≡◌, ap, refl, sym, Bool, false, true, none, some, List, [], ◌++◌, ◌∷◌, ◌+◌, ◌-◌, ◌<◌, ◌≤◌, suc, zero}
use Rattle.listing_rules.proofs.Prelude.{ℕ, add-one, arith, drop, drop_of_length-le, get_or, length, replicate, drop-cons, le-leb, lt-leb}
use Rattle.listing_rules.specs.Subscriptions.{free_front, lowest_run}
use Rattle.subscriptions.specs.Runs.{run_is}

-- free bytes at the front of a list
front_free : (m : ℕ) (r : List Bool) → free_front (replicate m true ++ r) ≡ m + free_front r
unfolding free_front
front_free zero r = omega arith
front_free (suc m) r = ap suc (front_free m r) ∙ omega arith

-- one free byte more
free_more : (m : ℕ) (r : List Bool) → replicate m true ++ (true ∷ r) ≡ replicate (suc m) true ++ r
free_more zero r = refl
free_more (suc m) r = ap (λ (l : List Bool). true ∷ l) (free_more m r)

module _ (len : ℕ) where
  -- a run that is too short, with no free byte after it, is passed over
  lowest_pass : (m k : ℕ) (r : List Bool) → m < len → free_front r ≡ 0 → lowest_run len k (replicate m true ++ r) ≡ lowest_run len (k + m) r
  unfolding lowest_run
  lowest_pass zero k r h e = let z : k + 0 ≡ k = omega arith in rw z
  lowest_pass (suc m) k r h e =
      let z : suc k + m ≡ k + suc m = omega arith in
      let f : free_front (replicate (suc m) true ++ r) < len = omega (arith, front_free (suc m) r) in
      rw (lt-leb len (free_front (replicate (suc m) true ++ r)) f) (lowest_pass m (suc k) r (omega arith) e ∙ rw z)

  lowest_used : (k : ℕ) (r : List Bool) → 0 < len → lowest_run len k (false ∷ r) ≡ lowest_run len (suc k) r
  unfolding lowest_run free_front
  lowest_used k r h = rw (lt-leb len 0 h)

  lowest_found : (m k : ℕ) (r : List Bool) → len ≤ suc m → lowest_run len k (replicate (suc m) true ++ r) ≡ some k
  unfolding lowest_run
  lowest_found m k r h = rw (le-leb len (free_front (replicate (suc m) true ++ r)) (omega (arith, front_free (suc m) r)))

-- The pass has come to byte i: the bytes from `from` on are free, fewer than `len`, and no run begins before them.
pub record Passed (len : ℕ) (marks : List Bool) (from i : ℕ) : Type 0 where
  pub order : from ≤ i
  pub short : i < from + len
  pub free : drop from marks ≡ replicate (i - from) true ++ drop i marks
  pub left : lowest_run len from (drop from marks) ≡ lowest_run len 0 marks

pub passed_none : (len : ℕ) (marks : List Bool) → 0 < len → Passed len marks 0 0
passed_none len marks h = record { order = omega arith; short = omega arith; free = refl; left = refl }

module _ {len : ℕ} {marks : List Bool} {from i : ℕ} (p : Passed len marks from i) where
  one_more : i < length marks → get_or marks i false ≡ true → drop from marks ≡ replicate (suc (i - from)) true ++ drop (suc i) marks
  one_more h e = p.free ∙ rw (drop-cons marks i false h, e) (free_more (i - from) (drop (suc i) marks))

  pub passed_free : i < length marks → get_or marks i false ≡ true → i + 1 - from < len → Passed len marks from (i + 1)
  passed_free h e g =
      let z : i + 1 - from ≡ suc (i - from) = omega (arith, p.order) in
      record { order = omega (arith, p.order); short = omega (arith, p.order); free = rw (z, add-one i) (one_more h e); left = p.left }

  pub passed_found : i < length marks → get_or marks i false ≡ true → len ≤ i + 1 - from → Some from ≡ run_is (lowest_run len 0 marks)
  unfolding run_is
  passed_found h e g = sym (ap run_is run)
    where
      run : lowest_run len 0 marks ≡ some from
      run = sym p.left ∙ rw (one_more h e) (lowest_found len (i - from) from (drop (suc i) marks) (omega (arith, p.order)))

  pub passed_used : i < length marks → get_or marks i false ≡ false → Passed len marks (i + 1) (i + 1)
  unfolding free_front
  passed_used h e =
      let n : i + 1 - (i + 1) ≡ 0 = omega arith in
      record { order = omega arith; short = omega (arith, p.order, p.short); free = rw n; left = left_used }
    where
      used : drop i marks ≡ false ∷ drop (suc i) marks
      used = rw (drop-cons marks i false h, e)

      left_used : lowest_run len (i + 1) (drop (i + 1) marks) ≡ lowest_run len 0 marks
      left_used =
          let z : from + (i - from) ≡ i = omega (arith, p.order) in
          rw (add-one i)
          (sym
          (sym p.left
          ∙ rw (p.free, used)
          (lowest_pass len (i - from) from (false ∷ drop (suc i) marks) (omega (arith, p.order, p.short)) refl
          ∙ rw z (lowest_used len i (drop (suc i) marks) (omega (arith, p.order, p.short))))))

  pub passed_end : length marks ≤ i → None ≡ run_is (lowest_run len 0 marks)
  unfolding run_is lowest_run free_front
  passed_end h = sym (ap run_is run)
    where
      run : lowest_run len 0 marks ≡ none
      run = sym p.left ∙ rw (p.free, drop_of_length-le marks h) (lowest_pass len (i - from) from [] (omega (arith, p.order, p.short)) refl)
