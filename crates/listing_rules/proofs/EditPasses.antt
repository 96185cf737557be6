-- A store that passes, after the flag of a row is set or cleared, a row 0002 is put in, or one is taken out (W6): it passes, has the same sizes,
-- and differs in the row of that name alone. Rests on EditRows, EditPlaces and EditLayout.
use Rattle.listing_rules.proofs.Prelude.{◌∙◌, ◌≡◌, ap, refl, subst, sym, Bool, ◌&&◌, ◌||◌, cond, false, false≢true, not, true, ⊎_elim, none}
use Rattle.listing_rules.proofs.Prelude.{some, List, list_mem, list_mem_cases_cons, list_mem_head, list_mem_not_nil, mem_append_right, []}
use Rattle.listing_rules.proofs.Prelude.{◌++◌, ◌∷◌, map, map-append, ◌+◌, ◌<◌, ◌≤◌, ℕ, arith, leb, drop, length, length-map, length-replicate}
use Rattle.listing_rules.proofs.Prelude.{length-take, replicate, take, length-take-le, le-leb, leb-true, not-true}
use Rattle.listing_rules.specs.Bytes.{same}
use Rattle.listing_rules.specs.Lists.{every, any_of}
use Rattle.listing_rules.specs.Orders.{byte_order}
use Rattle.listing_rules.specs.Names.{lawful_name, below}
use Rattle.listing_rules.specs.Flags.{no_inferiors, lawful_flags}
use Rattle.listing_rules.specs.Table.{Row, names, none_below, passes}
use Rattle.listing_rules.specs.Records.{Record, row_of, record_rows, lies_inside, apart, laid_out, record_table}
use Rattle.listing_rules.specs.Subscriptions.{Store, store_table, held, store_rows, below_no_inferiors, overwritten, zero_record, flagged, inserted}
use Rattle.listing_rules.specs.Subscriptions.{removed}
use Rattle.listing_rules.proofs.Bools.{and_l, and_r, and_i}
use Rattle.listing_rules.proofs.Keys.{open_bytes, open_flags}
use Rattle.listing_rules.proofs.ListLaws.{every_mem, mem_every, every_left, none_mem, mem_map_lem, same_refl}
use Rattle.listing_rules.proofs.Sorted.{Asc}
use Rattle.listing_rules.proofs.LawfulNames.{good_parts}
use Rattle.listing_rules.proofs.Passes.{TableParts, rows_parts, parts_pass}
use Rattle.listing_rules.proofs.FreeRuns.{FreeAt}
use Rattle.listing_rules.proofs.EditRows.{Change, Sound, still_parts}
use Rattle.listing_rules.proofs.EditPlaces.{all_lower, all_higher, Found, Gap}
use Rattle.listing_rules.proofs.EditBytes.{length_overwritten, read_overwritten, rows_stay, free_apart}
use Rattle.listing_rules.proofs.EditLists.{every_right}
use Rattle.listing_rules.proofs.EditLayout.{LaidParts, laid_parts, parts_laid, laid_put, laid_taken, apart_others, Parts, parts_held}
use Rattle.listing_rules.proofs.EditLayout.{parts_length, parts_whole, parts_nth, parts_flagged, parts_inserted, parts_removed}

-- the parts of check 1 of a store
pub record StoreParts (s : Store) : Type 0 where
  pub counted : s.count ≤ length s.records
  pub laid : LaidParts s.area (held s)
  pub parts : TableParts (store_rows s)

pub store_parts : (s : Store) → passes (store_table s) ≡ true → StoreParts s
unfolding store_table record_table passes store_rows held
store_parts s h = go (leb s.count (length s.records) && laid_out s.area (take s.count s.records)) refl h
  where
    go : (b : Bool) → (leb s.count (length s.records) && laid_out s.area (take s.count s.records)) ≡ b
        → passes (cond b (some (record_rows s.area (take s.count s.records))) none) ≡ true → StoreParts s
    go true e k =
        record {
          counted =
              leb-true s.count (length s.records) (and_l (leb s.count (length s.records))
              (laid_out s.area (take s.count s.records)) e);
          laid =
              laid_parts s.area (take s.count s.records)
              (and_r (leb s.count (length s.records)) (laid_out s.area (take s.count s.records)) e);
          parts = rows_parts (record_rows s.area (take s.count s.records)) k;
        }
    go false e k = absurd (false≢true k)

pub parts_store : (s : Store) → StoreParts s → passes (store_table s) ≡ true
unfolding store_table record_table passes store_rows held
parts_store s p = rw (le-leb s.count (length s.records) p.counted, parts_laid s.area (take s.count s.records) p.laid)
    (parts_pass (record_rows s.area (take s.count s.records)) p.parts)

-- as many rows as the count says
pub rows_count : (s : Store) → s.count ≤ length s.records → length (store_rows s) ≡ s.count
unfolding store_rows record_rows held
rows_count s h = length-map (take s.count s.records) (row_of s.area) ∙ length-take-le s.count s.records h

pub rows_in_parts : (area : List ℕ) (a b d : List Record) →
    record_rows area (a ++ (b ++ d)) ≡ record_rows area a ++ (record_rows area b ++ record_rows area d)
unfolding record_rows
rows_in_parts area a b d = map-append (row_of area) a (b ++ d) ∙ ap (λ (l : List Row). map (row_of area) a ++ l) (map-append (row_of area) b d)

-- the readers of a name's record after an edit: those that it had, or all eight
abbrev pub readers_after : List Record → ℕ
readers_after [] = 0xFF
readers_after (r ∷ rs) = r.readers

-- records with this set of readers
abbrev pub Readers : ℕ → List Record → Type 0
Readers set rs = map (λ (r : Record). r.readers) rs ≡ map (λ (r : Record). set) rs

-- the records before and after an edit of the name n: those of lower and of higher names stay, and mean the same rows; the name's own keeps its
-- readers (W9)
pub record Swap (s t : Store) (n : List ℕ) (row : List Row) : Type 0 where
  pub front : List Record
  pub mid : List Record
  pub mid' : List Record
  pub back : List Record
  pub was : held s ≡ front ++ (mid ++ back)
  pub is : held t ≡ front ++ (mid' ++ back)
  pub front_rows : record_rows t.area front ≡ record_rows s.area front
  pub back_rows : record_rows t.area back ≡ record_rows s.area back
  pub mid_rows : record_rows t.area mid' ≡ row
  pub lower : all_lower (record_rows s.area front) n
  pub higher : all_higher (record_rows s.area back) n
  pub own : every (λ (r : Row). same r.name n) (record_rows s.area mid) ≡ true
  pub own_after : every (λ (r : Row). same r.name n) row ≡ true
  pub readers : Readers (readers_after mid) mid
  pub readers_after_lem : Readers (readers_after mid) mid'

-- what an accepted edit of the name n does; afterwards n has this row, or none
pub record Done (s t : Store) (n : List ℕ) (row : List Row) : Type 0 where
  pub same_records_lem : length t.records ≡ length s.records
  pub same_area : length t.area ≡ length s.area
  pub after : StoreParts t
  pub change : Change (store_rows s) (store_rows t) n
  pub row_after_lem : change.new ≡ row
  pub swap : Swap s t n row

-- the row, or none, that the name n has afterwards
record NewRows (s : Store) (n : List ℕ) (new : List Row) : Type 0 where
  own_name : every (λ (r : Row). same r.name n) new ≡ true
  lawful_names : every (λ (r : Row). lawful_name r.name) new ≡ true
  lawful_flags_lem : every (λ (r : Row). lawful_flags r.flags) new ≡ true
  single : Asc byte_order (names new)
  open_above : (r : Row) → list_mem r (store_rows s) → no_inferiors r.flags ≡ true → (q : Row) → list_mem q new → below r.name q.name ≡ false
  shut_before : (r : Row) → list_mem r new → no_inferiors r.flags ≡ true →
      (o : Row) × list_mem o (store_rows s) × (o.name ≡ r.name) × (no_inferiors o.flags ≡ true)

no_row : (s : Store) (n : List ℕ) → NewRows s n []
unfolding every names
no_row s n =
    record {
      own_name = refl;
      lawful_names = refl;
      lawful_flags_lem = refl;
      single = tt;
      open_above = λ r m e q k. absurd (list_mem_not_nil k);
      shut_before = λ r m e. absurd (list_mem_not_nil m);
    }

one_row : (s : Store) (n : List ℕ) (f : ℕ) → lawful_name n ≡ true → lawful_flags f ≡ true
    → ((r : Row) → list_mem r (store_rows s) → no_inferiors r.flags ≡ true → below r.name n ≡ false)
    → (no_inferiors f ≡ true → (o : Row) × list_mem o (store_rows s) × (o.name ≡ n) × (no_inferiors o.flags ≡ true))
    → NewRows s n (record { flags = f; name = n } ∷ [])
unfolding every names
one_row s n f l g above shut =
    record {
      own_name = and_i (same n n) true (same_refl n) refl;
      lawful_names = and_i (lawful_name n) true l refl;
      lawful_flags_lem = and_i (lawful_flags f) true g refl;
      single = (tt, tt);
      open_above = λ r m e q k. ap (λ (x : Row). below r.name x.name) (only q k) ∙ above r m e;
      shut_before =
          λ r m e. let w = shut (ap (λ (x : Row). no_inferiors x.flags) (sym (only r m)) ∙
          e) in (w.0, w.1, w.2 ∙ ap (λ (x : Row). x.name) (sym (only r m)), w.3);
    }
  where
    only : (q : Row) → list_mem q (record { flags = f; name = n } ∷ []) → q ≡ record { flags = f; name = n }
    only q k = ⊎_elim (λ e. e) (λ j. absurd (list_mem_not_nil j)) (list_mem_cases_cons k)

-- an edit, from the records before and after it
module _ (s t : Store) (n : List ℕ) (sp : StoreParts s) (front mid mid' back spare spare' : List Record) (p : Parts s front mid back spare)
    (q : Parts t front mid' back spare') where
  done : (new : List Row) → length mid + length spare ≡ length mid' + length spare' → length t.area ≡ length s.area
      → record_rows t.area front ≡ record_rows s.area front → record_rows t.area back ≡ record_rows s.area back
      → record_rows t.area mid' ≡ new → all_lower (record_rows s.area front) n → all_higher (record_rows s.area back) n
      → every (λ (r : Row). same r.name n) (record_rows s.area mid) ≡ true → NewRows s n new → LaidParts t.area (front ++ (mid' ++ back))
      → t.count ≤ 512 → Readers (readers_after mid) mid → Readers (readers_after mid) mid' → Done s t n new
  unfolding store_rows
  done new lengths areas rows-front rows_back rows-mid low high own w laid few by by' =
      record {
        same_records_lem =
            omega (arith, parts_length s front mid back spare p, parts_length t front mid' back spare' q, p.all_rows, q.all_rows, lengths);
        same_area = areas;
        after =
            record {
              counted = counted;
              laid = subst (LaidParts t.area) (sym (parts_held t front mid' back spare' q)) laid;
              parts = still_parts (store_rows s) (store_rows t) n change sound sp.parts;
            };
        change = change;
        row_after_lem = refl;
        swap = swap;
      }
    where
      swap : Swap s t n new
      swap =
          record {
            front = front;
            mid = mid;
            mid' = mid';
            back = back;
            was = parts_held s front mid back spare p;
            is = parts_held t front mid' back spare' q;
            front_rows = rows-front;
            back_rows = rows_back;
            mid_rows = rows-mid;
            lower = low;
            higher = high;
            own = own;
            own_after = w.own_name;
            readers = by;
            readers_after_lem = by';
          }

      counted : t.count ≤ length t.records
      counted = omega (arith, parts_length t front mid' back spare' q)

      change : Change (store_rows s) (store_rows t) n
      change =
          record {
            lower = record_rows s.area front;
            old = record_rows s.area mid;
            new = new;
            upper = record_rows s.area back;
            was = ap (record_rows s.area) (parts_held s front mid back spare p) ∙ rows_in_parts s.area front mid back;
            is =
                ap (record_rows t.area) (parts_held t front mid' back spare' q)
                ∙ rows_in_parts t.area front mid' back
                ∙ (λ i. rows-front i ++ (rows-mid i ++ rows_back i));
            lower_names = low;
            upper_names = high;
            old_names = own;
            new_names = w.own_name;
          }

      sound : Sound (store_rows s) (store_rows t) n change
      sound =
          record {
            few = omega (arith, rows_count t counted, few);
            lawful_names = w.lawful_names;
            lawful_flags_lem = w.lawful_flags_lem;
            single = w.single;
            open_above = w.open_above;
            shut_before = w.shut_before;
          }

few_rows : (s : Store) → StoreParts s → s.count ≤ 512
few_rows s sp = omega (arith, rows_count s sp.counted, sp.parts.few)

-- the row of a record
record_row : (s : Store) (front : List Record) (it : Record) (back : List Record) → held s ≡ front ++ (it ∷ back) →
    list_mem (row_of s.area it) (store_rows s)
unfolding store_rows record_rows
record_row s front it back e =
    mem_map_lem (row_of s.area) (subst (λ (l : List Record). list_mem it l) (sym e) (mem_append_right front (list_mem_head refl)))

-- a row lies below no row with no inferiors
row_open : (s : Store) → StoreParts s → (q : Row) → list_mem q (store_rows s) → (r : Row) → list_mem r (store_rows s) →
    no_inferiors r.flags ≡ true → below r.name q.name ≡ false
unfolding none_below
row_open s sp q k r m e = none_mem (λ (x : Row). below r.name x.name) (store_rows s) none q k
  where
    none : any_of (λ (x : Row). below r.name x.name) (store_rows s) ≡ false
    none =
        not-true (any_of (λ (x : Row). below r.name x.name) (store_rows s))
        (subst (λ (o : Bool). (not o || not (any_of (λ (x : Row). below r.name x.name) (store_rows s))) ≡ true) e
        (every_mem (λ r. none_below (store_rows s) r) (store_rows s) sp.parts.inferiors r m))

-- a name of a store that passes has bytes
has_bytes : (s : Store) → StoreParts s → (r : Record) → list_mem r (held s) → 1 ≤ r.len
unfolding store_rows record_rows row_of
has_bytes s sp r m =
    let l = every_mem (λ (x : Row). lawful_name x.name) (store_rows s) sp.parts.lawful_names (row_of s.area r) (mem_map_lem (row_of s.area) m) in
    omega (arith, (good_parts (row_of s.area r).name l).least, length-take r.len (drop r.start s.area))

-- "below a row with no inferiors": not this name
open_for : (s : Store) (n : List ℕ) → below_no_inferiors (store_rows s) n ≡ false → (r : Row) → list_mem r (store_rows s) →
    no_inferiors r.flags ≡ true → below r.name n ≡ false
unfolding below_no_inferiors
open_for s n b r m e =
    sym (ap (λ (o : Bool). o && below r.name n) e) ∙ none_mem (λ (x : Row). no_inferiors x.flags && below x.name n) (store_rows s) b r m

inside_area : (area : List ℕ) (r : Record) → r.start + r.len ≤ length area → lies_inside area r ≡ true
unfolding lies_inside
inside_area area r h = le-leb (r.start + r.len) (length area) h

empty_row : (n : List ℕ) → every (λ (r : Row). same r.name n) [] ≡ true
unfolding every
empty_row n = refl

-- flags 0002: lawful, and with inferiors
two : (lawful_flags 0x0002 ≡ true) × (no_inferiors 0x0002 ≡ false)
unfolding open_flags open_bytes
two = (refl, refl)

module _ (s : Store) (n : List ℕ) (sp : StoreParts s) where
  -- the name's own record
  module _ (w : Found s.area (held s) n) where
    pub own_parts : Parts s w.front (w.it ∷ []) w.back (drop s.count s.records)
    own_parts = parts_whole s w.front (w.it ∷ []) w.back sp.counted w.whole

    own_laid : LaidParts s.area (w.front ++ (w.it ∷ w.back))
    own_laid = subst (LaidParts s.area) w.whole sp.laid

    own_row : every (λ (r : Row). same r.name n) (record_rows s.area (w.it ∷ [])) ≡ true
    unfolding every record_rows
    own_row = and_i (same (row_of s.area w.it).name n) true (ap (λ (x : List ℕ). same x n) w.named ∙ same_refl n) refl

    pub own_member : list_mem (row_of s.area w.it) (store_rows s)
    own_member = record_row s w.front w.it w.back w.whole

    own_lawful : lawful_name n ≡ true
    own_lawful =
        ap lawful_name (sym w.named) ∙ every_mem (λ (r : Row). lawful_name r.name) (store_rows s) sp.parts.lawful_names
        (row_of s.area w.it) own_member

    own_inside : w.it.start + w.it.len ≤ length s.area
    unfolding lies_inside every
    own_inside =
        leb-true (w.it.start + w.it.len) (length s.area)
        (and_l (lies_inside s.area w.it) (every (lies_inside s.area) w.back)
        (every_right (lies_inside s.area) w.front (w.it ∷ w.back) own_laid.inside))

    -- "sets the flag", "clears the flag"
    pub flagged_done : (f : ℕ) → lawful_flags f ≡ true → no_inferiors f ≡ no_inferiors w.it.flags →
        Done s (flagged s (length w.front) f) n (record { flags = f; name = n } ∷ [])
    unfolding flagged record_rows row_of apart
    flagged_done f l e =
        done s (flagged s (length w.front) f) n sp w.front (w.it ∷ []) (it' ∷ []) w.back (drop s.count s.records)
        (drop s.count s.records) own_parts
        (parts_flagged s w.front w.it w.back (drop s.count s.records) f own_parts)
        (record { flags = f; name = n } ∷ []) refl refl refl refl named w.lower w.higher own_row
        (one_row s n f own_lawful l open_above shut_before) (laid (apart_others w.front w.it w.back own_laid.apart_all)) (few_rows s sp)
        refl refl
      where
        it' : Record
        it' = record { flags = f; start = w.it.start; len = w.it.len; readers = w.it.readers }

        named : record_rows s.area (it' ∷ []) ≡ record { flags = f; name = n } ∷ []
        named = λ i. record { flags = f; name = w.named i } ∷ []

        open_above : (r : Row) → list_mem r (store_rows s) → no_inferiors r.flags ≡ true → below r.name n ≡ false
        open_above r m k = ap (below r.name) (sym w.named) ∙ row_open s sp (row_of s.area w.it) own_member r m k

        shut_before : no_inferiors f ≡ true → (o : Row) × list_mem o (store_rows s) × (o.name ≡ n) × (no_inferiors o.flags ≡ true)
        shut_before k = (row_of s.area w.it, own_member, w.named, sym e ∙ k)

        laid : every (apart w.it) (w.front ++ w.back) ≡ true → LaidParts s.area (w.front ++ (it' ∷ w.back))
        laid a =
            laid_put s.area s.area refl w.front it' w.back (laid_taken s.area s.area refl w.front w.it w.back own_laid)
            (inside_area s.area it' own_inside) a

    -- "removes a row 0002 entirely"
    pub removed_done : Done s (removed s (length w.front)) n []
    unfolding removed record_rows
    removed_done =
        done s (removed s (length w.front)) n sp w.front (w.it ∷ []) [] w.back (drop s.count s.records)
        (zero_record ∷ drop s.count s.records) own_parts
        (parts_removed s w.front w.it w.back (drop s.count s.records) own_parts)
        [] (omega arith) (ap length area_is ∙ length_overwritten s.area w.it.start zeros fits)
        (stay w.front (every_left (apart w.it) w.front w.back others))
        (stay w.back (every_right (apart w.it) w.front w.back others)) refl w.lower w.higher own_row (no_row s n)
        (laid_taken s.area (removed s (length w.front)).area (ap length area_is ∙ length_overwritten s.area w.it.start zeros fits)
        w.front w.it w.back own_laid)
        (omega (arith, few_rows s sp)) refl refl
      where
        zeros : List ℕ
        zeros = replicate w.it.len 0

        area_is : (removed s (length w.front)).area ≡ overwritten s.area w.it.start zeros
        area_is =
            ap (λ (r : Record). overwritten s.area r.start (replicate r.len 0))
            (parts_nth s w.front w.it w.back (drop s.count s.records) own_parts)

        fits : w.it.start + length zeros ≤ length s.area
        fits = omega (arith, length-replicate {A = ℕ} w.it.len 0, own_inside)

        others : every (apart w.it) (w.front ++ w.back) ≡ true
        others = apart_others w.front w.it w.back own_laid.apart_all

        stay : (rs : List Record) → every (apart w.it) rs ≡ true → record_rows (removed s (length w.front)).area rs ≡ record_rows s.area rs
        stay rs a =
            ap (λ (x : List ℕ). record_rows x rs) area_is ∙ rows_stay s.area w.it.start zeros fits w.it rs refl
            (sym (length-replicate {A = ℕ} w.it.len 0)) a

  -- "inserts a row 0002", its name in free bytes
  pub inserted_done : (w : Gap s.area (held s) n) (start : ℕ) → lawful_name n ≡ true → below_no_inferiors (store_rows s) n ≡ false
      → FreeAt s (length n) start → s.count < 512 → s.count < length s.records
      → Done s (inserted s (length w.front) start n) n (record { flags = 0x0002; name = n } ∷ [])
  unfolding inserted record_rows row_of
  inserted_done w start l b f few room = go (drop s.count s.records) (parts_whole s w.front [] w.back sp.counted w.whole)
    where
      it : Record
      it = record { flags = 0x0002; start = start; len = length n; readers = 0xFF }

      others : every (apart it) (w.front ++ w.back) ≡ true
      others = mem_every (apart it) (w.front ++ w.back)
          (λ r m. free_apart s it f (good_parts n l).least r (subst (λ (k : List Record). list_mem r k) (sym w.whole) m)
          (has_bytes s sp r (subst (λ (k : List Record). list_mem r k) (sym w.whole) m)))

      lengths : length (overwritten s.area start n) ≡ length s.area
      lengths = length_overwritten s.area start n f.inside

      named : record_rows (overwritten s.area start n) (it ∷ []) ≡ record { flags = 0x0002; name = n } ∷ []
      named = λ i. record { flags = 0x0002; name = read_overwritten s.area start n f.inside i } ∷ []

      row : NewRows s n (record { flags = 0x0002; name = n } ∷ [])
      row = one_row s n 0x0002 l two.0 (open_for s n b) (λ e. absurd (false≢true (sym two.1 ∙ e)))

      go : (spare : List Record) → Parts s w.front [] w.back spare →
          Done s (inserted s (length w.front) start n) n (record { flags = 0x0002; name = n } ∷ [])
      go [] p = absurd (omega (arith, parts_length s w.front [] w.back [] p))
      go (x ∷ spare) p =
          done s (inserted s (length w.front) start n) n sp w.front [] (it ∷ []) w.back (x ∷ spare) spare p
          (parts_inserted s w.front w.back x spare start n p)
          (record { flags = 0x0002; name = n } ∷ []) (omega arith) lengths
          (rows_stay s.area start n f.inside it w.front refl refl (every_left (apart it) w.front w.back others))
          (rows_stay s.area start n f.inside it w.back refl refl (every_right (apart it) w.front w.back others))
          named w.lower w.higher (empty_row n) row
          (laid_put s.area (overwritten s.area start n) lengths w.front it w.back (subst (LaidParts s.area) w.whole sp.laid)
          (inside_area s.area it f.inside) others)
          (omega arith) refl refl

  -- a name with no row, and none afterwards
  pub unchanged_done : Gap s.area (held s) n → Done s s n []
  unfolding record_rows
  unchanged_done w =
      let p = parts_whole s w.front [] w.back sp.counted w.whole in
      done s s n sp w.front [] [] w.back (drop s.count s.records) (drop s.count s.records) p p [] refl refl refl refl refl
      w.lower w.higher (empty_row n) (no_row s n)
      (subst (LaidParts s.area) w.whole sp.laid) (few_rows s sp) refl refl
