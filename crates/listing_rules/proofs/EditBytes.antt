-- Name bytes that are written over (W6): the area keeps its length, names apart from them stay, and what is written is read; a free run is apart
-- from every name. Rests on FreeRuns and ListLaws.
use Rattle.listing_rules.proofs.Prelude.{◌∙◌, ◌≡◌, ap, refl, sym, Bool, ◌||◌, false, false≢true, true, ◌⊎◌, inl, inr, ⊎_elim, List, list_mem}
use Rattle.listing_rules.proofs.Prelude.{[], ◌++◌, ◌∷◌, append_assoc, ◌+◌, ◌-◌, ◌<◌, ◌≤◌, ℕ, arith, leb, ltb, drop, length, length-append}
use Rattle.listing_rules.proofs.Prelude.{length-drop, take, take-append-drop, drop-append-add, drop-append-le, drop_at, drop-drop}
use Rattle.listing_rules.proofs.Prelude.{length-take-le, take-append-le, take-append_seam, le-leb, leb-false, leb-true, lt-ltb}
use Rattle.listing_rules.specs.Lists.{every}
use Rattle.listing_rules.specs.Records.{Record, row_of, record_rows, apart}
use Rattle.listing_rules.specs.Subscriptions.{Store, held, uses, overwritten}
use Rattle.listing_rules.proofs.Bools.{and_l, and_r, and_i, or_cases, or_l, or_r}
use Rattle.listing_rules.proofs.ListLaws.{none_mem}
use Rattle.listing_rules.proofs.FreeRuns.{FreeAt}

module _ (area : List ℕ) (at : ℕ) (bs : List ℕ) (h : at + length bs ≤ length area) where
  pub length_overwritten : length (overwritten area at bs) ≡ length area
  unfolding overwritten
  length_overwritten =
      omega (
        arith,
        h,
        length-append (take at area) (bs ++ drop (at + length bs) area),
        length-append bs (drop (at + length bs) area),
        length-take-le at area (omega arith),
        length-drop (at + length bs) area,
      )

  -- what is written is read
  pub read_overwritten : take (length bs) (drop at (overwritten area at bs)) ≡ bs
  unfolding overwritten
  read_overwritten =
      ap (take (length bs)) (drop_at (take at area) (bs ++ drop (at + length bs) area) at (length-take-le at area (omega arith)))
      ∙ take-append_seam bs (drop (at + length bs) area)

  -- bytes before it stay
  before_stay : (start len : ℕ) → start + len ≤ at → take len (drop start (overwritten area at bs)) ≡ take len (drop start area)
  unfolding overwritten
  before_stay start len g = front (bs ++ drop (at + length bs) area) ∙ sym (front (drop at area)) ∙ ap (λ (l : List ℕ). take len (drop start l)) (take-append-drop at area)
    where
      l : length (take at area) ≡ at
      l = length-take-le at area (omega arith)

      front : (rest : List ℕ) → take len (drop start (take at area ++ rest)) ≡ take len (drop start (take at area))
      front rest =
          ap (take len) (drop-append-le start (take at area) rest (omega (arith, l)))
          ∙ take-append-le len (drop start (take at area)) rest (omega (arith, l, length-drop start (take at area)))

  -- and so do those after it
  after_stay : (start : ℕ) → at + length bs ≤ start → drop start (overwritten area at bs) ≡ drop start area
  unfolding overwritten
  after_stay start g =
      let j = start - (at + length bs) in
      let e : length (take at area ++ bs) + j ≡ start = omega (arith, length-append (take at area) bs, length-take-le at area (omega arith)) in
      let d : at + length bs + j ≡ start = omega arith in
      ap (drop start) (sym (append_assoc (take at area) bs (drop (at + length bs) area)))
      ∙ ap (λ (k : ℕ). drop k ((take at area ++ bs) ++ drop (at + length bs) area)) (sym e)
      ∙ drop-append-add (take at area ++ bs) (drop (at + length bs) area) j
      ∙ drop-drop j (at + length bs) area
      ∙ ap (λ (k : ℕ). drop k area) d

  -- a name apart from it stays
  row_stays : (w r : Record) → w.start ≡ at → w.len ≡ length bs → apart w r ≡ true → row_of (overwritten area at bs) r ≡ row_of area r
  unfolding row_of apart
  row_stays w r es el e = ap (λ (n : List ℕ). record { flags = r.flags; name = n }) (go (or_cases (leb (w.start + w.len) r.start) (leb (r.start + r.len) w.start) e))
    where
      go : (leb (w.start + w.len) r.start ≡ true) ⊎ (leb (r.start + r.len) w.start ≡ true) → take r.len (drop r.start (overwritten area at bs)) ≡ take r.len (drop r.start area)
      go (inl q) = ap (take r.len) (after_stay r.start (omega (arith, leb-true (w.start + w.len) r.start q, es, el)))
      go (inr q) = before_stay r.start r.len (omega (arith, leb-true (r.start + r.len) w.start q, es))

  pub rows_stay : (w : Record) (rs : List Record) → w.start ≡ at → w.len ≡ length bs → every (apart w) rs ≡ true → record_rows (overwritten area at bs) rs ≡ record_rows area rs
  unfolding record_rows every
  rows_stay w [] es el e = refl
  rows_stay w (r ∷ rs) es el e =
      let first = row_stays w r es el (and_l (apart w r) (every (apart w) rs) e) in
      let rest = rows_stay w rs es el (and_r (apart w r) (every (apart w) rs) e) in
      λ i. first i ∷ rest i

-- a run that no row uses is apart from every name that has bytes
pub free_apart : (s : Store) (w : Record) → FreeAt s w.len w.start → 1 ≤ w.len → (r : Record) → list_mem r (held s) → 1 ≤ r.len → apart w r ≡ true
unfolding apart uses
free_apart s w f h r m g = go (leb (w.start + w.len) r.start) (leb (r.start + r.len) w.start) refl refl
  where
    used : (k : ℕ) → w.start ≤ k → k < w.start + w.len → r.start ≤ k → k < r.start + r.len → ⊥
    used k a b c d =
        false≢true
        (sym (none_mem (uses k) (held s) (f.unused k a b) r m)
        ∙ and_i (leb r.start k) (ltb k (r.start + r.len)) (le-leb r.start k c) (lt-ltb k (r.start + r.len) d))

    go : (a b : Bool) → leb (w.start + w.len) r.start ≡ a → leb (r.start + r.len) w.start ≡ b → (a || b) ≡ true
    go true b p q = refl
    go false true p q = refl
    go false false p q = absurd (meet (leb r.start w.start) refl)
      where
        l : r.start < w.start + w.len
        l = leb-false (w.start + w.len) r.start p

        u : w.start < r.start + r.len
        u = leb-false (r.start + r.len) w.start q

        meet : (o : Bool) → leb r.start w.start ≡ o → ⊥
        meet true e = used w.start (omega arith) (omega arith) (leb-true r.start w.start e) u
        meet false e = let v = leb-false r.start w.start e in used r.start (omega arith) l (omega arith) (omega arith)

-- of two names, neither is the first
pub apart_sym : (r q : Record) → apart r q ≡ true → apart q r ≡ true
unfolding apart
apart_sym r q e =
    ⊎_elim (or_r (leb (q.start + q.len) r.start) (leb (r.start + r.len) q.start)) (or_l (leb (q.start + q.len) r.start) (leb (r.start + r.len) q.start))
    (or_cases (leb (r.start + r.len) q.start) (leb (q.start + q.len) r.start) e)
