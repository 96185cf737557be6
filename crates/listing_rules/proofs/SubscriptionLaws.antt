-- W6: 15 exactly where a row to be put in has no room; an accepted edit of a store that passes keeps its sizes and check 1, leaves the other rows
-- as they are, leaves rows that the rows before it decide, and does to the subscribed names what it does to a plain set. Rests on EditPasses and
-- EditFlags.
use Rattle.listing_rules.proofs.Prelude.{◌∙◌, ◌≡◌, ap, refl, subst, sym, Bool, ◌&&◌, ◌||◌, and-false, cond, false, false≢true, not, or-false}
use Rattle.listing_rules.proofs.Prelude.{true, Option, none, some, List, [], ◌∷◌, ◌<◌, ◌≤◌, ℕ, eqb, ltb, length, le-ltb, lt-ltb, ltb-true}
use Rattle.listing_rules.proofs.Prelude.{not-true}
use Rattle.listing_rules.specs.Bytes.{same}
use Rattle.listing_rules.specs.Lists.{any_of, keep}
use Rattle.listing_rules.specs.Names.{lawful_name}
use Rattle.listing_rules.specs.Flags.{subscribed, lawful_flags}
use Rattle.listing_rules.specs.Table.{Row, names, has_row, flags_of, passes}
use Rattle.listing_rules.specs.Records.{Record, row_of}
use Rattle.listing_rules.specs.Command.{Edit, subscribe, unsubscribe}
use Rattle.listing_rules.specs.Subscriptions.{Store, store_table, held, store_rows, spelled, rows_before, below_no_inferiors, free_run}
use Rattle.listing_rules.specs.Subscriptions.{with_subscribed, without_subscribed, nth, flagged, inserted, removed, Edited, denied, stored}
use Rattle.listing_rules.specs.Subscriptions.{insertion, subscribing, unsubscribing, edited, is_in, subscribed_names, set_edited}
use Rattle.listing_rules.proofs.Bools.{and_l, and_r}
use Rattle.listing_rules.proofs.Keys.{open_bytes, open_flags}
use Rattle.listing_rules.proofs.ListLaws.{every_mem}
use Rattle.listing_rules.proofs.Sorted.{ascends_asc}
use Rattle.listing_rules.proofs.NameFlags.{row_flags}
use Rattle.listing_rules.proofs.FreeRuns.{FreeAt, run_free, run_none, none_run}
use Rattle.listing_rules.proofs.EditRows.{rows_with, subscribed_in, others_kept, changed_rows, set_changed}
use Rattle.listing_rules.proofs.EditPlaces.{Found, Gap, found, gap}
use Rattle.listing_rules.proofs.EditFlags.{set_subscribed, set_inferiors, set_lawful, clear_subscribed, clear_inferiors, clear_lawful}
use Rattle.listing_rules.proofs.EditLayout.{parts_nth}
use Rattle.listing_rules.proofs.EditPasses.{StoreParts, store_parts, parts_store, Done, own_parts, own_member, flagged_done, removed_done}
use Rattle.listing_rules.proofs.EditPasses.{inserted_done, unchanged_done}

-- the name of an edit as it is spelled, and whether it is SUBSCRIBE
abbrev pub name_of : Edit → List ℕ
name_of (subscribe n) = spelled n
name_of (unsubscribe n) = spelled n

abbrev pub subscribes : Edit → Bool
subscribes (subscribe n) = true
subscribes (unsubscribe n) = false

-- the row that SUBSCRIBE leaves a name, and that UNSUBSCRIBE leaves it, or none
abbrev pub row_set : List Row → List ℕ → List Row
row_set rs n = record { flags = cond (has_row rs n) (with_subscribed (flags_of rs n)) 0x0002; name = n } ∷ []

abbrev row_kept : List Row → List ℕ → List Row
row_kept rs n = record { flags = without_subscribed (flags_of rs n); name = n } ∷ []

abbrev pub row_cleared : List Row → List ℕ → List Row
row_cleared rs n = cond (has_row rs n) (cond (eqb (flags_of rs n) 0x0002) [] (row_kept rs n)) []

abbrev pub row_after : List Row → Edit → List Row
row_after rs (subscribe n) = row_set rs (spelled n)
row_after rs (unsubscribe n) = row_cleared rs (spelled n)

-- there are fewer than 512 rows, and a spare record
abbrev pub room_for_row : Store → Bool
room_for_row s = ltb s.count 512 && ltb s.count (length s.records)

-- what an insertion makes of the free run that was found, or of none
abbrev pub inserted_at : Store → List ℕ → Option ℕ → Edited
inserted_at s n r =
    elim r [ none ↦ denied 15 | some start ↦ cond (room_for_row s) (stored (inserted s (rows_before (store_rows s) n) start n)) (denied 15) ]

abbrev is_stored : Edited → Bool
is_stored (denied k) = false
is_stored (stored t) = true

pub refused_not : (k : ℕ) (t : Store) → denied k ≡ stored t → ⊥
refused_not k t e = false≢true (ap is_stored e)

-- the store that is left, or else s
abbrev store_or : Store → Edited → Store
store_or s (denied k) = s
store_or s (stored t) = t

pub stored_is_lem : (s t : Store) → stored s ≡ stored t → s ≡ t
stored_is_lem s t e = ap (λ (x : Edited). store_or s x) e

module _ (s t : Store) (n : List ℕ) (sp : StoreParts s) where
  its_record : has_row (store_rows s) n ≡ true → Found s.area (held s) n
  unfolding store_rows
  its_record h = found s.area n (held s) (ascends_asc (names (store_rows s)) sp.parts.ascend) h

  its_gap : has_row (store_rows s) n ≡ false → Gap s.area (held s) n
  unfolding store_rows
  its_gap h = gap s.area n (held s) (ascends_asc (names (store_rows s)) sp.parts.ascend) h

  -- the flags at the place of the name
  its_flags : (w : Found s.area (held s) n) → (nth s.records (rows_before (store_rows s) n)).flags ≡ w.it.flags
  unfolding store_rows
  its_flags w =
      ap (λ (k : ℕ). (nth s.records k).flags) w.place ∙ ap (λ (r : Record). r.flags)
      (parts_nth s w.front w.it w.back _ (own_parts s n sp w))

  its_lawful : (w : Found s.area (held s) n) → lawful_flags w.it.flags ≡ true
  unfolding row_of
  its_lawful w =
      every_mem (λ (r : Row). lawful_flags r.flags) (store_rows s) sp.parts.lawful_flags_lem (row_of s.area w.it) (own_member s n sp w)

  own_flags : (w : Found s.area (held s) n) → w.it.flags ≡ flags_of (store_rows s) n
  unfolding row_of
  own_flags w =
      sym (row_flags (store_rows s) sp.parts.ascend (row_of s.area w.it) (own_member s n sp w)) ∙ ap (flags_of (store_rows s)) w.named

  -- an insertion that is accepted
  insertion_done : has_row (store_rows s) n ≡ false → lawful_name n ≡ true → below_no_inferiors (store_rows s) n ≡ false → insertion s n ≡ stored t →
      Done s t n (row_set (store_rows s) n)
  unfolding insertion store_rows
  insertion_done h l b e = run (free_run s (length n)) refl e
    where
      fresh : ◌≡◌ {A = List Row} (record { flags = 0x0002; name = n } ∷ []) (row_set (store_rows s) n)
      fresh = ap (λ (o : Bool). record { flags = cond o (with_subscribed (flags_of (store_rows s) n)) 0x0002; name = n } ∷ []) (sym h)

      go : (start : ℕ) → free_run s (length n) ≡ some start → (o : Bool) → room_for_row s ≡ o
          → cond o (stored (inserted s (rows_before (store_rows s) n) start n)) (denied 15) ≡ stored t → Done s t n (row_set (store_rows s) n)
      go start f true c k =
          let w = its_gap h in
          subst (Done s t n) fresh
          (subst (λ (x : Store). Done s x n (record { flags = 0x0002; name = n } ∷ []))
          (ap (λ (j : ℕ). inserted s j start n) (sym w.place) ∙ stored_is_lem _ t k)
          (inserted_done s n sp w start l b (run_free s (length n) start f)
          (ltb-true s.count 512 (and_l (ltb s.count 512) (ltb s.count (length s.records)) c))
          (ltb-true s.count (length s.records) (and_r (ltb s.count 512) (ltb s.count (length s.records)) c))))
      go start f false c k = absurd (refused_not 15 t k)

      run : (r : Option ℕ) → free_run s (length n) ≡ r → inserted_at s n r ≡ stored t → Done s t n (row_set (store_rows s) n)
      run none f k = absurd (refused_not 15 t k)
      run (some start) f k = go start f (room_for_row s) refl k

  subscribing_done : subscribing s n ≡ stored t → Done s t n (row_set (store_rows s) n)
  unfolding subscribing store_rows
  subscribing_done e = go (has_row (store_rows s) n) refl e
    where
      k : ℕ
      k = rows_before (store_rows s) n

      fresh : (o : Bool) → (lawful_name n && not (below_no_inferiors (store_rows s) n)) ≡ o → has_row (store_rows s) n ≡ false
          → cond o (insertion s n) (denied 14) ≡ stored t → Done s t n (row_set (store_rows s) n)
      fresh true c h q =
          insertion_done h (and_l (lawful_name n) (not (below_no_inferiors (store_rows s) n)) c)
          (not-true (below_no_inferiors (store_rows s) n) (and_r (lawful_name n) (not (below_no_inferiors (store_rows s) n)) c)) q
      fresh false c h q = absurd (refused_not 14 t q)

      go : (o : Bool) → has_row (store_rows s) n ≡ o
          → cond o (stored (flagged s k (with_subscribed (nth s.records k).flags)))
          (cond (lawful_name n && not (below_no_inferiors (store_rows s) n)) (insertion s n) (denied 14)) ≡ stored t
          → Done s t n (row_set (store_rows s) n)
      go true h q =
          let w = its_record h in
          let f = w.it.flags in
          let row : with_subscribed f ≡ cond (has_row (store_rows s) n) (with_subscribed (flags_of (store_rows s) n)) 0x0002 =
          ap with_subscribed (own_flags w) ∙ ap (λ (o : Bool). cond o (with_subscribed (flags_of (store_rows s) n)) 0x0002) (sym h) in
          subst (λ (x : Store). Done s x n (row_set (store_rows s) n))
          (sym (λ i. flagged s (w.place i) (with_subscribed (its_flags w i))) ∙ stored_is_lem _ t q)
          (subst (λ (g : ℕ). Done s (flagged s (length w.front) (with_subscribed f)) n (record { flags = g; name = n } ∷ [])) row
          (flagged_done s n sp w (with_subscribed f) (set_lawful f (its_lawful w)) (set_inferiors f)))
      go false h q = fresh (lawful_name n && not (below_no_inferiors (store_rows s) n)) refl h q

  unsubscribing_done : unsubscribing s n ≡ stored t → Done s t n (row_cleared (store_rows s) n)
  unfolding unsubscribing store_rows
  unsubscribing_done e = go (has_row (store_rows s) n) refl e
    where
      k : ℕ
      k = rows_before (store_rows s) n

      two : (w : Found s.area (held s) n) (o : Bool) → eqb (nth s.records k).flags 0x0002 ≡ o
          → cond o (stored (removed s k)) (stored (flagged s k (without_subscribed (nth s.records k).flags))) ≡ stored t
          → Done s t n (cond o [] (row_kept (store_rows s) n))
      two w true c q = subst (λ (x : Store). Done s x n []) (ap (removed s) (sym w.place) ∙ stored_is_lem _ t q) (removed_done s n sp w)
      two w false c q =
          let f = w.it.flags in
          subst (λ (x : Store). Done s x n (row_kept (store_rows s) n))
          (sym (λ i. flagged s (w.place i) (without_subscribed (its_flags w i))) ∙ stored_is_lem _ t q)
          (subst (λ (g : ℕ). Done s (flagged s (length w.front) (without_subscribed f)) n (record { flags = without_subscribed g; name = n } ∷ []))
          (own_flags w) (flagged_done s n sp w (without_subscribed f)
          (clear_lawful f (its_lawful w) (ap (λ (x : ℕ). eqb x 2) (sym (its_flags w)) ∙ c)) (clear_inferiors f)))

      go : (o : Bool) → has_row (store_rows s) n ≡ o
          → cond o (cond (eqb (nth s.records k).flags 0x0002) (stored (removed s k))
          (stored (flagged s k (without_subscribed (nth s.records k).flags)))) (stored s) ≡ stored t
          → Done s t n (cond o (cond (eqb (flags_of (store_rows s) n) 0x0002) []
          (row_kept (store_rows s) n)) [])
      go true h q =
          let w = its_record h in
          subst (λ (o : Bool). Done s t n (cond o [] (row_kept (store_rows s) n))) (ap (λ (x : ℕ). eqb x 0x0002) (its_flags w ∙ own_flags w))
          (two w (eqb (nth s.records k).flags 0x0002) refl q)
      go false h q = subst (λ (x : Store). Done s x n []) (stored_is_lem s t q) (unchanged_done s n sp (its_gap h))

-- "an insertion with 512 rows, no spare record or no free run of name bytes long enough, with 15", and no other
module _ (s : Store) (n : List ℕ) where
  no_room : room_for_row s ≡ false → insertion s n ≡ denied 15
  unfolding insertion
  no_room e = go (free_run s (length n))
    where
      go : (r : Option ℕ) → inserted_at s n r ≡ denied 15
      go none = refl
      go (some start) = ap (λ (o : Bool). cond o (stored (inserted s (rows_before (store_rows s) n) start n)) (denied 15)) e

  pub rows_refused : 512 ≤ s.count → insertion s n ≡ denied 15
  rows_refused h = no_room (ap (λ (o : Bool). o && ltb s.count (length s.records)) (le-ltb s.count 512 h))

  pub spare_refused : length s.records ≤ s.count → insertion s n ≡ denied 15
  spare_refused h = no_room (ap (λ (o : Bool). ltb s.count 512 && o) (le-ltb s.count (length s.records) h) ∙ and-false (ltb s.count 512))

  pub run_refused : ((at : ℕ) → FreeAt s (length n) at → ⊥) → insertion s n ≡ denied 15
  unfolding insertion
  run_refused f = rw (none_run s (length n) f, insertion)

  pub insertion_made : s.count < 512 → s.count < length s.records → (at : ℕ) → 1 ≤ length n → FreeAt s (length n) at
      → (start : ℕ) × (free_run s (length n) ≡ some start) × (insertion s n ≡ stored (inserted s (rows_before (store_rows s) n) start n))
  unfolding insertion
  insertion_made few room at h r = go (free_run s (length n)) refl
    where
      go : (o : Option ℕ) → free_run s (length n) ≡ o
          → (start : ℕ) × (o ≡ some start) × (inserted_at s n o ≡ stored (inserted s (rows_before (store_rows s) n) start n))
      go none e = absurd (run_none s (length n) h e at r)
      go (some start) e = (start, refl, rw (lt-ltb s.count 512 few, lt-ltb s.count (length s.records) room))

-- what an accepted edit does
pub edited_done : (s t : Store) (e : Edit) → passes (store_table s) ≡ true → edited s e ≡ stored t → Done s t (name_of e) (row_after (store_rows s) e)
unfolding edited
edited_done s t (subscribe n) h q = subscribing_done s t (spelled n) (store_parts s h) q
edited_done s t (unsubscribe n) h q = unsubscribing_done s t (spelled n) (store_parts s h) q

-- whether that row is subscribed
set_row : (rs : List Row) (n : List ℕ) → any_of (λ (r : Row). subscribed r.flags) (row_set rs n) ≡ true
unfolding any_of
set_row rs n = or-false (subscribed (cond (has_row rs n) (with_subscribed (flags_of rs n)) 0x0002)) ∙ go (has_row rs n)
  where
    go : (o : Bool) → subscribed (cond o (with_subscribed (flags_of rs n)) 0x0002) ≡ true
    go true = set_subscribed (flags_of rs n)
    go false = unfold open_flags open_bytes in refl

cleared_row : (rs : List Row) (n : List ℕ) → any_of (λ (r : Row). subscribed r.flags) (row_cleared rs n) ≡ false
unfolding any_of
cleared_row rs n = go (has_row rs n) (eqb (flags_of rs n) 0x0002)
  where
    go : (o b : Bool) → any_of (λ (r : Row). subscribed r.flags)
        (cond o (cond b [] (record { flags = without_subscribed (flags_of rs n); name = n } ∷ [])) []) ≡ false
    go true true = refl
    go true false = or-false (subscribed (without_subscribed (flags_of rs n))) ∙ clear_subscribed (flags_of rs n)
    go false b = refl

-- what it does to the set of subscribed names
done_set : (s t : Store) (e : Edit) → Done s t (name_of e) (row_after (store_rows s) e) → (m : List ℕ) →
    is_in (subscribed_names t) m ≡ set_edited (is_in (subscribed_names s)) e m
unfolding set_edited subscribed_names subscribed_in
done_set s t (subscribe n) d m =
    set_changed (store_rows s) (store_rows t) (spelled n) d.change m
    ∙ ap (λ (b : Bool). cond (same (spelled n) m) b (is_in (subscribed_names s) m))
    (ap (any_of (λ (r : Row). subscribed r.flags)) d.row_after_lem ∙ set_row (store_rows s) (spelled n))
    ∙ put (same (spelled n) m)
  where
    put : (b : Bool) → cond b true (is_in (subscribed_names s) m) ≡ (b || is_in (subscribed_names s) m)
    put true = refl
    put false = refl
done_set s t (unsubscribe n) d m =
    set_changed (store_rows s) (store_rows t) (spelled n) d.change m
    ∙ ap (λ (b : Bool). cond (same (spelled n) m) b (is_in (subscribed_names s) m))
    (ap (any_of (λ (r : Row). subscribed r.flags)) d.row_after_lem ∙ cleared_row (store_rows s) (spelled n))
    ∙ cut (same (spelled n) m)
  where
    cut : (b : Bool) → cond b false (is_in (subscribed_names s) m) ≡ (not b && is_in (subscribed_names s) m)
    cut true = refl
    cut false = refl

module _ (s t : Store) (e : Edit) (h : passes (store_table s) ≡ true) (q : edited s e ≡ stored t) where
  -- no record and no byte is lent more or less, and the count stays within the records
  pub edited_sizes : (length t.records ≡ length s.records) × (length t.area ≡ length s.area) × (t.count ≤ length t.records)
  edited_sizes = let d = edited_done s t e h q in (d.same_records_lem, d.same_area, d.after.counted)

  -- check 1 passes after it
  pub edited_passes : passes (store_table t) ≡ true
  edited_passes = parts_store t (edited_done s t e h q).after

  -- "a success changes only the named row, the other rows keeping name, flags and order"
  pub others_stay : keep (λ (r : Row). not (same r.name (name_of e))) (store_rows t) ≡ keep (λ (r : Row). not (same r.name (name_of e)))
      (store_rows s)
  others_stay = others_kept (store_rows s) (store_rows t) (name_of e) (edited_done s t e h q).change

  -- and the rows before it decide the rows after it
  pub edited_rows : store_rows t ≡ rows_with (store_rows s) (name_of e) (row_after (store_rows s) e)
  edited_rows =
      let d = edited_done s t e h q in changed_rows (store_rows s) (store_rows t) (name_of e) d.change ∙ ap (rows_with (store_rows s) (name_of e))
      d.row_after_lem

  -- the subscribed names are those of a plain set that is given the edit
  pub edited_set : (m : List ℕ) → is_in (subscribed_names t) m ≡ set_edited (is_in (subscribed_names s)) e m
  edited_set m = done_set s t e (edited_done s t e h q) m

-- sets that agree on a name agree on it after an edit
pub set_alike : (has like : List ℕ → Bool) (e : Edit) (m : List ℕ) → has m ≡ like m → set_edited has e m ≡ set_edited like e m
unfolding set_edited
set_alike has like (subscribe n) m h = ap (λ (b : Bool). same (spelled n) m || b) h
set_alike has like (unsubscribe n) m h = ap (λ (b : Bool). not (same (spelled n) m) && b) h
