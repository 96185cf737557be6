-- The free bytes of an area (W6): what `freeRun` gives is free from its start for the whole length, no lower start has as many free bytes, and it
-- gives none exactly if no start has. Rests on the library alone.
use Rattle.listing_rules.proofs.Prelude.{◌∙◌, ◌≡◌, ap, refl, subst, sym, Bool, cond, false, false≢true, not, true, Option, option_none_ne_some}
use Rattle.listing_rules.proofs.Prelude.{option_some_injective, none, some, List, [], ◌∷◌, ◌+◌, ◌-◌, ◌<◌, ◌≤◌, suc, zero, ℕ, arith, leb, drop}
use Rattle.listing_rules.proofs.Prelude.{get_or, length, length-drop, get_or-drop, leb-false, leb-true, not-true}
use Rattle.listing_rules.specs.Lists.{any_of}
use Rattle.listing_rules.specs.Records.{Record}
use Rattle.listing_rules.specs.Subscriptions.{Store, held, uses, free_from, free_front, lowest_run, free_run}

-- so many free bytes from a place on: inside the area, and used by no row
pub record FreeAt (s : Store) (len at : ℕ) : Type 0 where
  pub inside : at + len ≤ length s.area
  pub unused : (k : ℕ) → at ≤ k → k < at + len → any_of (uses k) (held s) ≡ false

-- free bytes at the front
pub front_bound : (bs : List Bool) → free_front bs ≤ length bs
unfolding free_front
front_bound [] = omega arith
front_bound (true ∷ bs) = omega (arith, front_bound bs)
front_bound (false ∷ bs) = omega arith

front_free : (bs : List Bool) (i : ℕ) → i < free_front bs → get_or bs i false ≡ true
unfolding free_front
front_free [] i h = absurd (omega arith)
front_free (true ∷ bs) zero h = refl
front_free (true ∷ bs) (suc i) h = front_free bs i (omega arith)
front_free (false ∷ bs) i h = absurd (omega arith)

free_front_lem : (bs : List Bool) (len : ℕ) → ((i : ℕ) → i < len → get_or bs i false ≡ true) → len ≤ free_front bs
unfolding free_front
free_front_lem bs zero f = omega arith
free_front_lem [] (suc len) f = absurd (false≢true (f 0 (omega arith)))
free_front_lem (true ∷ bs) (suc len) f = omega (arith, free_front_lem bs len (λ i h. f (suc i) (omega arith)))
free_front_lem (false ∷ bs) (suc len) f = absurd (false≢true (f 0 (omega arith)))

-- what `lowestRun` gives, from place k on
record Lowest (len k : ℕ) (bs : List Bool) (j : ℕ) : Type 0 where
  step : ℕ
  place : j ≡ k + step
  within : step < length bs
  long : len ≤ free_front (drop step bs)
  lower : (h : ℕ) → h < step → free_front (drop h bs) < len

lowest_some : (len k : ℕ) (bs : List Bool) (j : ℕ) → lowest_run len k bs ≡ some j → Lowest len k bs j
unfolding lowest_run
lowest_some len k [] j e = absurd (option_none_ne_some j e)
lowest_some len k (b ∷ bs) j e = go (leb len (free_front (b ∷ bs))) refl e (lowest_some len (suc k) bs j)
  where
    go : (o : Bool) → leb len (free_front (b ∷ bs)) ≡ o → cond o (some k) (lowest_run len (suc k) bs) ≡ some j → (lowest_run len (suc k) bs ≡ some j → Lowest len (suc k) bs j) → Lowest len k (b ∷ bs) j
    go true l q ih =
        record {
          step = 0;
          place = omega (arith, option_some_injective k j q);
          within = omega arith;
          long = leb-true len (free_front (b ∷ bs)) l;
          lower = λ h i. absurd (omega arith);
        }
    go false l q ih =
        let w = ih q in
        record {
          step = suc w.step;
          place = omega (arith, w.place);
          within = omega (arith, w.within);
          long = w.long;
          lower = lower w.step w.lower;
        }
      where
        lower : (i : ℕ) → ((h : ℕ) → h < i → free_front (drop h bs) < len) → (h : ℕ) → h < suc i → free_front (drop h (b ∷ bs)) < len
        lower i f zero g = leb-false len (free_front (b ∷ bs)) l
        lower i f (suc h) g = f h (omega arith)

lowest_none : (len k : ℕ) (bs : List Bool) → lowest_run len k bs ≡ none → (h : ℕ) → h < length bs → free_front (drop h bs) < len
unfolding lowest_run
lowest_none len k [] e h g = absurd (omega arith)
lowest_none len k (b ∷ bs) e h g = go (leb len (free_front (b ∷ bs))) refl e h g (lowest_none len (suc k) bs)
  where
    go : (o : Bool) → leb len (free_front (b ∷ bs)) ≡ o → cond o (some k) (lowest_run len (suc k) bs) ≡ none → (h : ℕ) → h < suc (length bs)
        → (lowest_run len (suc k) bs ≡ none → (i : ℕ) → i < length bs → free_front (drop i bs) < len) → free_front (drop h (b ∷ bs)) < len
    go true l q h g ih = absurd (option_none_ne_some k (sym q))
    go false l q zero g ih = leb-false len (free_front (b ∷ bs)) l
    go false l q (suc h) g ih = ih q h (omega arith)

-- the free bytes of an area, place by place
pub free_length : (rs : List Record) (k : ℕ) (a : List ℕ) → length (free_from rs k a) ≡ length a
unfolding free_from
free_length rs k [] = refl
free_length rs k (b ∷ a) = ap suc (free_length rs (suc k) a)

pub free_at : (rs : List Record) (k : ℕ) (a : List ℕ) (i : ℕ) → i < length a → get_or (free_from rs k a) i false ≡ not (any_of (uses (k + i)) rs)
unfolding free_from
free_at rs k [] i h = absurd (omega arith)
free_at rs k (b ∷ a) zero h = let e : k + 0 ≡ k = omega arith in rw e
free_at rs k (b ∷ a) (suc i) h = let e : k + suc i ≡ suc k + i = omega arith in rw e (free_at rs (suc k) a i (omega arith))

module _ (s : Store) (len : ℕ) where
  -- so many free bytes at the front of what follows a place, and a run there, are the same
  front_run : (at : ℕ) → at ≤ length s.area → len ≤ free_front (drop at (free_from (held s) 0 s.area)) → FreeAt s len at
  front_run at g h = record { inside = fits; unused = unused }
    where
      fits : at + len ≤ length s.area
      fits = omega (arith, front_bound (drop at (free_from (held s) 0 s.area)), length-drop at (free_from (held s) 0 s.area), free_length (held s) 0 s.area)

      unused : (k : ℕ) → at ≤ k → k < at + len → any_of (uses k) (held s) ≡ false
      unused k l r =
          let e : at + (k - at) ≡ k = omega arith in
          let here : get_or (free_from (held s) 0 s.area) (at + (k - at)) false ≡ true =
          sym (get_or-drop at (free_from (held s) 0 s.area) (k - at) false) ∙ front_free (drop at (free_from (held s) 0 s.area)) (k - at) (omega arith) in
          let z : 0 + k ≡ k = omega arith in
          not-true (any_of (uses k) (held s))
          (subst (λ (x : ℕ). not (any_of (uses x) (held s)) ≡ true) z
          (sym (free_at (held s) 0 s.area k (omega (arith, fits))) ∙ subst (λ (x : ℕ). get_or (free_from (held s) 0 s.area) x false ≡ true) e here))

  run_front : (at : ℕ) → FreeAt s len at → len ≤ free_front (drop at (free_from (held s) 0 s.area))
  run_front at r = free_front_lem (drop at (free_from (held s) 0 s.area)) len there
    where
      there : (i : ℕ) → i < len → get_or (drop at (free_from (held s) 0 s.area)) i false ≡ true
      there i h =
          let z : 0 + (at + i) ≡ at + i = omega arith in
          get_or-drop at (free_from (held s) 0 s.area) i false
          ∙ free_at (held s) 0 s.area (at + i) (omega (arith, r.inside))
          ∙ ap (λ (x : ℕ). not (any_of (uses x) (held s))) z
          ∙ ap not (r.unused (at + i) (omega arith) (omega arith))

  -- "no free run of name bytes long enough": the run that is given is one
  pub run_free : (start : ℕ) → free_run s len ≡ some start → FreeAt s len start
  unfolding free_run
  run_free start e =
      let w = lowest_some len 0 (free_from (held s) 0 s.area) start e in
      let p : start ≡ w.step = omega (arith, w.place) in
      subst (FreeAt s len) (sym p) (front_run w.step (omega (arith, w.within, free_length (held s) 0 s.area)) w.long)

  -- "it takes the lowest such run"
  pub run_lowest : (start : ℕ) → free_run s len ≡ some start → (at : ℕ) → at < start → FreeAt s len at → ⊥
  unfolding free_run
  run_lowest start e at h r =
      let w = lowest_some len 0 (free_from (held s) 0 s.area) start e in
      omega (arith, w.lower at (omega (arith, w.place)), run_front at r)

  -- and none is given exactly if there is none; a name has a byte at least
  pub run_none : 1 ≤ len → free_run s len ≡ none → (at : ℕ) → FreeAt s len at → ⊥
  unfolding free_run
  run_none l e at r =
      omega (arith, lowest_none len 0 (free_from (held s) 0 s.area) e at (omega (arith, r.inside, free_length (held s) 0 s.area)), run_front at r)

  pub none_run : ((at : ℕ) → FreeAt s len at → ⊥) → free_run s len ≡ none
  none_run f = go (free_run s len) refl
    where
      go : (o : Option ℕ) → free_run s len ≡ o → free_run s len ≡ none
      go none e = e
      go (some start) e = absurd (f start (run_free start e))
