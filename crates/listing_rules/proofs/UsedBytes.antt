-- The bytes of an area that rows use (W7): in parts, in number, and the place that each comes to lie at once they stand together. Rests on ListLaws.
use Rattle.listing_rules.proofs.Prelude.{◌∙◌, ◌≡◌, ap, refl, subst, sym, Bool, cond, false, not, true, List, list_mem, [], ◌++◌, ◌∷◌}
use Rattle.listing_rules.proofs.Prelude.{append_assoc, ◌+◌, ◌-◌, ◌<◌, ◌≤◌, suc, zero, ℕ, arith, leb, ltb, drop, length, length-append}
use Rattle.listing_rules.proofs.Prelude.{length-drop, take, take-append-drop, drop_at, length-take-le, take-add, take_at, le-leb, lt-ltb}
use Rattle.listing_rules.specs.Lists.{any_of, keep}
use Rattle.listing_rules.specs.Records.{Record}
use Rattle.listing_rules.specs.Subscriptions.{uses, free_from}
use Rattle.listing_rules.specs.Compaction.{used_from, place_after}
use Rattle.listing_rules.proofs.Bools.{and_i}
use Rattle.listing_rules.proofs.ListLaws.{mem_some}

-- a row uses each byte of its name
pub own_used : (rs : List Record) (r : Record) → list_mem r rs → (i : ℕ) → r.start ≤ i → i < r.start + r.len → any_of (uses i) rs ≡ true
unfolding uses
own_used rs r m i a b = mem_some (uses i) rs r m (and_i (leb r.start i) (ltb i (r.start + r.len)) (le-leb r.start i a) (lt-ltb i (r.start + r.len) b))

module _ (rs : List Record) where
  pub used_append : (k : ℕ) (a b : List ℕ) → used_from rs k (a ++ b) ≡ used_from rs k a ++ used_from rs (k + length a) b
  unfolding used_from
  used_append k [] b = let e : k + 0 ≡ k = omega arith in ap (λ (j : ℕ). used_from rs j b) (sym e)
  used_append k (x ∷ a) b = go (any_of (uses k) rs) (used_append (suc k) a b ∙ ap (λ (j : ℕ). used_from rs (suc k) a ++ used_from rs j b) e)
    where
      e : suc k + length a ≡ k + suc (length a)
      e = omega arith

      go : (o : Bool) → used_from rs (suc k) (a ++ b) ≡ used_from rs (suc k) a ++ used_from rs (k + suc (length a)) b
          → cond o (x ∷ used_from rs (suc k) (a ++ b)) (used_from rs (suc k) (a ++ b))
          ≡ cond o (x ∷ used_from rs (suc k) a) (used_from rs (suc k) a) ++ used_from rs (k + suc (length a)) b
      go true q = ap (λ (l : List ℕ). x ∷ l) q
      go false q = q

  -- bytes that are all used, and bytes of which none is
  pub used_all : (k : ℕ) (a : List ℕ) → ((i : ℕ) → k ≤ i → i < k + length a → any_of (uses i) rs ≡ true) → used_from rs k a ≡ a
  unfolding used_from
  used_all k [] f = refl
  used_all k (x ∷ a) f = rw (f k (omega arith) (omega arith)) (ap (λ (l : List ℕ). x ∷ l) (used_all (suc k) a (λ i g h. f i (omega arith) (omega arith))))

  pub used_none : (k : ℕ) (a : List ℕ) → ((i : ℕ) → k ≤ i → i < k + length a → any_of (uses i) rs ≡ false) → used_from rs k a ≡ []
  unfolding used_from
  used_none k [] f = refl
  used_none k (x ∷ a) f = rw (f k (omega arith) (omega arith)) (used_none (suc k) a (λ i g h. f i (omega arith) (omega arith)))

  -- each byte is used or free
  pub used_or_free : (k : ℕ) (a : List ℕ) → length (used_from rs k a) + length (keep (λ (b : Bool). b) (free_from rs k a)) ≡ length a
  unfolding used_from free_from keep
  used_or_free k [] = omega arith
  used_or_free k (x ∷ a) = go (any_of (uses k) rs) (used_or_free (suc k) a)
    where
      free : List Bool
      free = keep (λ (b : Bool). b) (free_from rs (suc k) a)

      go : (o : Bool) → length (used_from rs (suc k) a) + length free ≡ length a
          → length (cond o (x ∷ used_from rs (suc k) a) (used_from rs (suc k) a)) + length (cond (not o) (not o ∷ free) free) ≡ suc (length a)
      go true q = omega (arith, q)
      go false q = omega (arith, q)

  pub used_most : (k : ℕ) (a : List ℕ) → length (used_from rs k a) ≤ length a
  used_most k a = omega (arith, used_or_free k a)

  -- used byte i, counted from 0: the place where it lies
  pub used_at : (k : ℕ) (a : List ℕ) (i : ℕ) → i < length (used_from rs k a) → (j : ℕ) × (j < length a) × (any_of (uses (k + j)) rs ≡ true) × (length (used_from rs k (take j a)) ≡ i)
  unfolding used_from
  used_at k [] i h = absurd (omega arith)
  used_at k (x ∷ a) i h = go (any_of (uses k) rs) refl i h (used_at (suc k) a)
    where
      At : List ℕ → ℕ → Type 0
      At a i = (j : ℕ) × (j < length a) × (any_of (uses (k + j)) rs ≡ true) × (length (used_from rs k (take j a)) ≡ i)

      Next : ℕ → Type 0
      Next i = (j : ℕ) × (j < length a) × (any_of (uses (suc k + j)) rs ≡ true) × (length (used_from rs (suc k) (take j a)) ≡ i)

      here : (i : ℕ) → (j : ℕ) → j < length a → any_of (uses (suc k + j)) rs ≡ true
          → length (cond (any_of (uses k) rs) (x ∷ used_from rs (suc k) (take j a)) (used_from rs (suc k) (take j a))) ≡ i → At (x ∷ a) i
      here i j g u q = let e : suc k + j ≡ k + suc j = omega arith in (suc j, omega arith, subst (λ (y : ℕ). any_of (uses y) rs ≡ true) e u, q)

      go : (o : Bool) → any_of (uses k) rs ≡ o → (i : ℕ) → i < length (cond o (x ∷ used_from rs (suc k) a) (used_from rs (suc k) a))
          → ((i : ℕ) → i < length (used_from rs (suc k) a) → Next i) → At (x ∷ a) i
      go true u zero h ih = let e : k + 0 ≡ k = omega arith in (0, omega arith, subst (λ (y : ℕ). any_of (uses y) rs ≡ true) (sym e) u, refl)
      go true u (suc i) h ih = let w = ih i (omega arith) in here (suc i) w.0 w.1 w.2 (rw u (ap suc w.3))
      go false u i h ih = let w = ih i h in here i w.0 w.1 w.2 (rw u w.3)

-- where the bytes of an area come to lie
module _ (rs : List Record) (area : List ℕ) where
  -- the used bytes, parted at a place
  used_parted : (k : ℕ) → k ≤ length area → (rest : List ℕ) → used_from rs 0 (take k area ++ rest) ≡ used_from rs 0 (take k area) ++ used_from rs k rest
  used_parted k h rest =
      let e : 0 + length (take k area) ≡ k = omega (arith, length-take-le k area h) in
      used_append rs 0 (take k area) rest ∙ ap (λ (j : ℕ). used_from rs 0 (take k area) ++ used_from rs j rest) e

  -- no place comes to lie before a lower one, nor beyond the used bytes
  pub place_rises : (k j : ℕ) → k ≤ j → j ≤ length area → place_after rs area k ≤ place_after rs area j
  unfolding place_after
  place_rises k j h g =
      let e : k + (j - k) ≡ j = omega arith in
      let parts = ap (λ (i : ℕ). used_from rs 0 (take i area)) (sym e) ∙ ap (used_from rs 0) (take-add k (j - k) area) ∙ used_parted k (omega arith) (take (j - k) (drop k area)) in
      omega (arith, ap length parts, length-append (used_from rs 0 (take k area)) (used_from rs k (take (j - k) (drop k area))))

  pub place_most : (k : ℕ) → k ≤ length area → place_after rs area k ≤ length (used_from rs 0 area)
  unfolding place_after
  place_most k h =
      let parts = ap (used_from rs 0) (sym (take-append-drop k area)) ∙ used_parted k h (drop k area) in
      omega (arith, ap length parts, length-append (used_from rs 0 (take k area)) (used_from rs k (drop k area)))

  -- so many bytes from a place on that no row uses: the used ones are fewer by them than all
  pub used_around : (at len : ℕ) → at + len ≤ length area → ((i : ℕ) → at ≤ i → i < at + len → any_of (uses i) rs ≡ false) → length (used_from rs 0 area) + len ≤ length area
  used_around at len h none =
      omega (
        arith,
        ap length parts,
        length-append (used_from rs 0 (take at area)) (used_from rs (at + length run) rest),
        used_most rs 0 (take at area),
        length-take-le at area (omega arith),
        used_most rs (at + length run) rest,
        length-drop len (drop at area),
        length-drop at area,
      )
    where
      run : List ℕ
      run = take len (drop at area)

      rest : List ℕ
      rest = drop len (drop at area)

      run_length : length run ≡ len
      run_length = length-take-le len (drop at area) (omega (arith, length-drop at area))

      parts : used_from rs 0 area ≡ used_from rs 0 (take at area) ++ used_from rs (at + length run) rest
      parts =
          ap (used_from rs 0) (sym (take-append-drop at area))
          ∙ used_parted at (omega arith) (drop at area)
          ∙ ap (λ (l : List ℕ). used_from rs 0 (take at area) ++ used_from rs at l) (sym (take-append-drop len (drop at area)))
          ∙ ap (λ (l : List ℕ). used_from rs 0 (take at area) ++ l) (used_append rs at run rest)
          ∙ ap (λ (l : List ℕ). used_from rs 0 (take at area) ++ (l ++ used_from rs (at + length run) rest)) (used_none rs at run (λ i a b. none i a (omega (arith, run_length))))

  -- a run of used bytes
  module _ (start len : ℕ) (h : start + len ≤ length area) (used : (i : ℕ) → start ≤ i → i < start + len → any_of (uses i) rs ≡ true) where
    abbrev name : List ℕ
    name = take len (drop start area)

    name_length : length name ≡ len
    name_length = length-take-le len (drop start area) (omega (arith, length-drop start area))

    name_used : used_from rs start name ≡ name
    name_used = used_all rs start name (λ i a b. used i a (omega (arith, name_length)))

    -- its end comes to lie as far after its start as before
    pub place_end : place_after rs area (start + len) ≡ place_after rs area start + len
    unfolding place_after
    place_end =
        let parts = ap (used_from rs 0) (take-add start len area) ∙ used_parted start (omega arith) name ∙ ap (λ (l : List ℕ). used_from rs 0 (take start area) ++ l) name_used in
        ap length parts ∙ length-append (used_from rs 0 (take start area)) name ∙ ap (λ (n : ℕ). length (used_from rs 0 (take start area)) + n) name_length

    -- and its bytes are read there, whatever stands after the used ones
    pub read_placed : (rest : List ℕ) → take len (drop (place_after rs area start) (used_from rs 0 area ++ rest)) ≡ take len (drop start area)
    unfolding place_after
    read_placed rest =
        ap (λ (l : List ℕ). take len (drop (length front) l)) whole
        ∙ ap (take len) (drop_at front (name ++ (back ++ rest)) (length front) refl)
        ∙ take_at name (back ++ rest) len name_length
      where
        front : List ℕ
        front = used_from rs 0 (take start area)

        back : List ℕ
        back = used_from rs (start + len) (drop len (drop start area))

        after : used_from rs start (drop start area) ≡ name ++ back
        after =
            ap (used_from rs start) (sym (take-append-drop len (drop start area)))
            ∙ used_append rs start name (drop len (drop start area))
            ∙ (λ i. name_used i ++ used_from rs (start + name_length i) (drop len (drop start area)))

        whole : used_from rs 0 area ++ rest ≡ front ++ (name ++ (back ++ rest))
        whole =
            ap (λ (l : List ℕ). l ++ rest) (ap (used_from rs 0) (sym (take-append-drop start area)) ∙ used_parted start (omega arith) (drop start area) ∙ ap (λ (l : List ℕ). front ++ l) after)
            ∙ append_assoc front (name ++ back) rest
            ∙ ap (λ (l : List ℕ). front ++ l) (append_assoc name back rest)
