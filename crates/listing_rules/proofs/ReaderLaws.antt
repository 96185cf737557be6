-- The table that a reader sees (W9): of records that pass, those that a test keeps pass too. So what is seen of a table passes where the table does,
-- is its visible rows, and is the table of the kept records alone; and what is seen of the first records is alike to what is seen of all. Rests on
-- Passes, RecordLaws, Alike and EditLists.
use Rattle.listing_rules.proofs.Prelude.{◌∙◌, ◌≡◌, ap, refl, subst, sym, Bool, ◌&&◌, cond, false, false≢true, not, true, ⊎_elim, none, some}
use Rattle.listing_rules.proofs.Prelude.{List, list_mem, [], ◌∷◌, ◌≤◌, min, ℕ, le_refl, arith, leb, length, length-map, take, length-take-le}
use Rattle.listing_rules.proofs.Prelude.{take_all, take-length, le-leb, leb-true}
use Rattle.listing_rules.specs.Lists.{every, any_of, keep}
use Rattle.listing_rules.specs.Orders.{byte_order}
use Rattle.listing_rules.specs.Names.{lawful_name, below}
use Rattle.listing_rules.specs.Flags.{no_inferiors, lawful_flags}
use Rattle.listing_rules.specs.Table.{Row, Table, rows_pass, passes, names, none_below, packed_table}
use Rattle.listing_rules.specs.Records.{Record, row_of, record_rows, lies_inside, apart, all_apart, laid_out, record_table, packed_records}
use Rattle.listing_rules.specs.Readers.{sees, visible, seen, records_seen, packed_seen}
use Rattle.listing_rules.specs.Subscriptions.{Store, store_table, store_seen}
use Rattle.listing_rules.proofs.Bools.{and_l, and_r, and_i, or_cases, or_l, or_r}
use Rattle.listing_rules.proofs.ListLaws.{every_mem, mem_every, some_mem, mem_some, keep_mem, keep_length, map_mem, mem_map_lem}
use Rattle.listing_rules.proofs.Sorted.{Above, Asc, ascends_asc}
use Rattle.listing_rules.proofs.EditLists.{asc_ascends}
use Rattle.listing_rules.proofs.Passes.{rows_parts, parts_pass, packed_parts}
use Rattle.listing_rules.proofs.RecordLaws.{packed_rows_are}
use Rattle.listing_rules.proofs.Alike.{Alike, front_alike}

-- what passes a test q, of those that a test p keeps
every_keep : {A : Type 0} (q p : A → Bool) (l : List A) → every q l ≡ true → every q (keep p l) ≡ true
every_keep q p l h = mem_every q (keep p l) (λ z m. every_mem q l h z (keep_mem p l z m).0)

-- Check 1 holds of the rows of those records that a test keeps.
module _ (p : Record → Bool) (area : List ℕ) where
  kept_row : (rs : List Record) (z : Row) → list_mem z (record_rows area (keep p rs)) → list_mem z (record_rows area rs)
  unfolding record_rows
  kept_row rs z m =
      let w = map_mem (row_of area) z (keep p rs) m in
      subst (λ (y : Row). list_mem y (record_rows area rs)) (sym w.2) (mem_map_lem (row_of area) (keep_mem p rs w.0 w.1).0)

  pub kept_every : (q : Row → Bool) (rs : List Record) → every q (record_rows area rs) ≡ true → every q (record_rows area (keep p rs)) ≡ true
  kept_every q rs h = mem_every q (record_rows area (keep p rs)) (λ z m. every_mem q (record_rows area rs) h z (kept_row rs z m))

  -- "names strictly ascend by bytes"
  kept_above : (n : List ℕ) (rs : List Record) → Above byte_order n (names (record_rows area rs)) →
      Above byte_order n (names (record_rows area (keep p rs)))
  unfolding keep names record_rows
  kept_above n [] a = tt
  kept_above n (r ∷ rs) a = pick (p r) (kept_above n rs a.1)
    where
      pick : (o : Bool) → Above byte_order n (names (record_rows area (keep p rs))) →
          Above byte_order n (names (record_rows area (cond o (r ∷ keep p rs) (keep p rs))))
      pick true ih = (a.0, ih)
      pick false ih = ih

  kept_asc : (rs : List Record) → Asc byte_order (names (record_rows area rs)) → Asc byte_order (names (record_rows area (keep p rs)))
  unfolding keep names record_rows
  kept_asc [] s = tt
  kept_asc (r ∷ rs) s = pick (p r) (kept_asc rs s.1)
    where
      pick : (o : Bool) → Asc byte_order (names (record_rows area (keep p rs))) →
          Asc byte_order (names (record_rows area (cond o (r ∷ keep p rs) (keep p rs))))
      pick true ih = (kept_above (row_of area r).name rs s.0, ih)
      pick false ih = ih

  -- "no row lies below a row with no inferiors"
  kept_none_below : (rs : List Record) (r : Row) → none_below (record_rows area rs) r ≡ true → none_below (record_rows area (keep p rs)) r ≡ true
  unfolding none_below
  kept_none_below rs r h =
      ⊎_elim (or_l (not (no_inferiors r.flags)) (not (any_of under (record_rows area (keep p rs)))))
      (λ e. or_r (not (no_inferiors r.flags)) (not (any_of under (record_rows area (keep p rs))))
      (fewer e (any_of under (record_rows area (keep p rs))) refl))
      (or_cases (not (no_inferiors r.flags)) (not (any_of under (record_rows area rs))) h)
    where
      under : Row → Bool
      under q = below r.name q.name

      fewer : not (any_of under (record_rows area rs)) ≡ true → (o : Bool) → any_of under (record_rows area (keep p rs)) ≡ o → not o ≡ true
      fewer e true k =
          let w = some_mem under (record_rows area (keep p rs)) k in
          sym (ap not (mem_some under (record_rows area rs) w.0 (kept_row rs w.0 w.1) w.2)) ∙ e
      fewer e false k = refl

  pub kept_pass : (rs : List Record) → rows_pass (record_rows area rs) ≡ true → rows_pass (record_rows area (keep p rs)) ≡ true
  kept_pass rs h =
      let c = rows_parts (record_rows area rs) h in
      parts_pass (record_rows area (keep p rs)) (record {
        few = few c.few;
        lawful_names = kept_every (λ r. lawful_name r.name) rs c.lawful_names;
        lawful_flags_lem = kept_every (λ r. lawful_flags r.flags) rs c.lawful_flags_lem;
        ascend = asc_ascends (names (record_rows area (keep p rs))) (kept_asc rs (ascends_asc (names (record_rows area rs)) c.ascend));
        inferiors = mem_every (none_below (record_rows area (keep p rs))) (record_rows area (keep p rs))
            (λ z m. kept_none_below rs z (every_mem (none_below (record_rows area rs)) (record_rows area rs) c.inferiors z (kept_row rs z m)));
      })
    where
      few : length (record_rows area rs) ≤ 512 → length (record_rows area (keep p rs)) ≤ 512
      few l = unfold record_rows in omega (arith, l, length-map rs (row_of area), length-map (keep p rs) (row_of area), keep_length p rs)

  -- "without overlap"
  kept_apart : (rs : List Record) → all_apart rs ≡ true → all_apart (keep p rs) ≡ true
  unfolding all_apart keep
  kept_apart [] h = refl
  kept_apart (r ∷ rs) h = pick (p r) (kept_apart rs (and_r (every (apart r) rs) (all_apart rs) h))
    where
      pick : (o : Bool) → all_apart (keep p rs) ≡ true → all_apart (cond o (r ∷ keep p rs) (keep p rs)) ≡ true
      pick true ih =
          and_i (every (apart r) (keep p rs)) (all_apart (keep p rs)) (every_keep (apart r) p rs (and_l (every (apart r) rs) (all_apart rs) h)) ih
      pick false ih = ih

  pub kept_laid : (rs : List Record) → laid_out area rs ≡ true → laid_out area (keep p rs) ≡ true
  unfolding laid_out
  kept_laid rs h =
      let a = leb (length area) 32768 in
      let f = and_l (a && every (lies_inside area) rs) (all_apart rs) h in
      and_i (a && every (lies_inside area) (keep p rs)) (all_apart (keep p rs))
      (and_i a (every (lies_inside area) (keep p rs)) (and_l a (every (lies_inside area) rs) f)
      (every_keep (lies_inside area) p rs (and_r a (every (lies_inside area) rs) f)))
      (kept_apart rs (and_r (a && every (lies_inside area) rs) (all_apart rs) h))

-- the rows that a reader sees pass where all rows do
pub visible_pass : (reader : ℕ) (area : List ℕ) (rs : List Record) → rows_pass (record_rows area rs) ≡ true → rows_pass (visible reader area rs) ≡ true
unfolding visible
visible_pass reader area rs h = kept_pass (sees reader) area rs h

-- a table of records that passes, part by part
pub record HeldParts (area : List ℕ) (rs : List Record) (count : ℕ) : Type 0 where
  pub enough : count ≤ length rs
  pub laid : laid_out area (take count rs) ≡ true
  pub rows_pass_lem : rows_pass (record_rows area (take count rs)) ≡ true

pub held_parts : (area : List ℕ) (rs : List Record) (count : ℕ) → passes (record_table area rs count) ≡ true → HeldParts area rs count
unfolding record_table passes
held_parts area rs count h = go (leb count (length rs) && laid_out area (take count rs)) refl h
  where
    go : (b : Bool) → (leb count (length rs) && laid_out area (take count rs)) ≡ b →
        passes (cond b (some (record_rows area (take count rs))) none) ≡ true → HeldParts area rs count
    go true e k =
        record {
          enough = leb-true count (length rs) (and_l (leb count (length rs)) (laid_out area (take count rs)) e);
          laid = and_r (leb count (length rs)) (laid_out area (take count rs)) e;
          rows_pass_lem = k;
        }
    go false e k = absurd (false≢true k)

-- What is seen of a table passes where the table passes.
pub seen_passes : (all : Table) (rs : List Row) → (passes all ≡ true → rows_pass rs ≡ true) → passes (seen all rs) ≡ passes all
unfolding seen passes
seen_passes all rs f = go (passes all) f
  where
    go : (b : Bool) → (b ≡ true → rows_pass rs ≡ true) → passes (cond b (some rs) none) ≡ b
    go true f = f refl
    go false f = refl

-- and is the rows that are seen
pub seen_some : (all : Table) (rs : List Row) → passes all ≡ true → seen all rs ≡ some rs
unfolding seen
seen_some all rs h = rw h

module _ (reader : ℕ) (area : List ℕ) (rs : List Record) (count : ℕ) where
  pub records_seen_passes : passes (records_seen reader area rs count) ≡ passes (record_table area rs count)
  unfolding records_seen
  records_seen_passes =
      seen_passes (record_table area rs count) (visible reader area (take count rs))
      (λ h. visible_pass reader area (take count rs) (held_parts area rs count h).rows_pass_lem)

  pub records_seen_is : passes (record_table area rs count) ≡ true → records_seen reader area rs count ≡ some (visible reader area (take count rs))
  unfolding records_seen
  records_seen_is h = seen_some (record_table area rs count) (visible reader area (take count rs)) h

  -- the records that a reader sees, alone, are the table that it sees
  pub kept_table : passes (record_table area rs count) ≡ true
      → record_table area (keep (sees reader) (take count rs)) (length (keep (sees reader) (take count rs))) ≡ records_seen reader area rs count
  kept_table h = alone ∙ sym (records_seen_is h)
    where
      kept : List Record
      kept = keep (sees reader) (take count rs)

      alone : record_table area kept (length kept) ≡ some (visible reader area (take count rs))
      alone = unfold record_table visible in
          rw (take-length kept, le-leb (length kept) (length kept) (le_refl (length kept)), kept_laid (sees reader) area (take count rs) (held_parts area rs count h).laid)
          refl

module _ (reader : ℕ) (t : List ℕ) where
  pub packed_visible_pass : passes (packed_table t) ≡ true → rows_pass (visible reader t (packed_records t)) ≡ true
  packed_visible_pass h =
      let rows_pass_lem = parts_pass _ (packed_parts t h).parts in
      visible_pass reader t (packed_records t) (ap rows_pass (packed_rows_are t) ∙ rows_pass_lem)

  pub packed_seen_passes : passes (packed_seen reader t) ≡ passes (packed_table t)
  unfolding packed_seen
  packed_seen_passes = seen_passes (packed_table t) (visible reader t (packed_records t)) packed_visible_pass

  pub packed_seen_is : passes (packed_table t) ≡ true → packed_seen reader t ≡ some (visible reader t (packed_records t))
  unfolding packed_seen
  packed_seen_is h = seen_some (packed_table t) (visible reader t (packed_records t)) h

pub store_seen_passes : (reader : ℕ) (s : Store) → passes (store_seen reader s) ≡ passes (store_table s)
unfolding store_seen store_table
store_seen_passes reader s = records_seen_passes reader s.area s.records s.count

-- What is seen of the first records is alike to what is seen of all of them, where there are as many as the count, the records and 512 allow.
pub front_seen_alike : (reader : ℕ) (area : List ℕ) (rs : List Record) (count n : ℕ) → n ≡ min count (min (length rs) 512)
    → Alike (records_seen reader area (take n rs) count) (records_seen reader area rs count)
front_seen_alike reader area rs count n e = (
  records_seen_passes reader area (take n rs) count ∙ all.0 ∙ sym (records_seen_passes reader area rs count),
  λ h. same_seen (sym (records_seen_passes reader area (take n rs) count) ∙ h),
)
  where
    all : Alike (record_table area (take n rs) count) (record_table area rs count)
    all = front_alike area rs count n e

    same_seen : passes (record_table area (take n rs) count) ≡ true → records_seen reader area (take n rs) count ≡ records_seen reader area rs count
    same_seen h =
        let l = (held_parts area (take n rs) count h).enough in
        let short : length (take n rs) ≡ n = length-take-le n rs (omega (arith, e)) in
        let w : n ≡ count = omega (arith, e, l, short) in
        let one : take count (take n rs) ≡ take count rs = take_all count (take n rs) (omega (arith, short, w)) ∙ ap (λ (k : ℕ). take k rs) w in
        records_seen_is reader area (take n rs) count h
        ∙ ap (λ (l : List Record). some (visible reader area l)) one
        ∙ sym (records_seen_is reader area rs count (sym all.0 ∙ h))
