-- Names moved together (W7), over a store that passes check 1: rows, sizes and spare records stay, check 1 passes, the free bytes are one run at
-- the end, and done twice is done once. Rests on UsedBytes and SubscriptionLaws.
use Rattle.listing_rules.proofs.Prelude.{◌∙◌, ◌≡◌, ap, refl, subst, sym, Bool, ◌&&◌, ◌||◌, and-false, cond, false, true, ◌⊎◌, inl, inr, none}
use Rattle.listing_rules.proofs.Prelude.{some, List, list_mem, list_mem_head, list_mem_tail, [], ◌++◌, ◌∷◌, append-nil, map, ◌+◌, ◌-◌, ◌<◌}
use Rattle.listing_rules.proofs.Prelude.{◌≤◌, ℕ, arith, leb, ltb, drop, length, length-append, length-map, length-replicate, replicate, take}
use Rattle.listing_rules.proofs.Prelude.{take-append-drop, drop_at, length-take-le, take_at, le-leb, le-ltb, leb-false, leb-true, ltb-true}
use Rattle.listing_rules.specs.Lists.{every, any_of, keep}
use Rattle.listing_rules.specs.Table.{Row, passes}
use Rattle.listing_rules.specs.Records.{Record, row_of, record_rows, record_table, lies_inside, apart, all_apart}
use Rattle.listing_rules.specs.Readers.{sees, visible, seen, records_seen}
use Rattle.listing_rules.specs.Subscriptions.{Store, store_table, store_seen, held, store_rows, uses, free_from, free_run, denied, insertion}
use Rattle.listing_rules.specs.Compaction.{used_from, place_after, moved, compacted, compaction}
use Rattle.listing_rules.proofs.Bools.{and_l, and_r, and_i, or_cases, or_l, or_r}
use Rattle.listing_rules.proofs.ListLaws.{every_mem, mem_every, some_mem, keep_mem, mem_map_lem, map_mem}
use Rattle.listing_rules.proofs.Passes.{TableParts}
use Rattle.listing_rules.proofs.FreeRuns.{FreeAt, run_none, none_run}
use Rattle.listing_rules.proofs.EditLists.{mem_none}
use Rattle.listing_rules.proofs.EditLayout.{LaidParts, parts_laid}
use Rattle.listing_rules.proofs.EditPasses.{StoreParts, store_parts, parts_store}
use Rattle.listing_rules.proofs.SubscriptionLaws.{refused_not, run_refused, insertion_made}
use Rattle.listing_rules.proofs.UsedBytes.{own_used, used_append, used_all, used_none, used_or_free, used_most, used_at, used_around}
use Rattle.listing_rules.proofs.UsedBytes.{place_rises, place_most, place_end, read_placed}

-- lists whose members are changed one by one
map_same : {A : Type 0} (f : A → A) (l : List A) → ((z : A) → list_mem z l → f z ≡ z) → map f l ≡ l
map_same f [] e = refl
map_same f (x ∷ l) e = λ i. e x (list_mem_head refl) i ∷ map_same f l (λ z m. e z (list_mem_tail m)) i

module _ {A B : Type 0} where
  map_through : (f : A → A) (g h : A → B) (l : List A) → ((z : A) → list_mem z l → g (f z) ≡ h z) → map g (map f l) ≡ map h l
  map_through f g h [] e = refl
  map_through f g h (x ∷ l) e = λ i. e x (list_mem_head refl) i ∷ map_through f g h l (λ z m. e z (list_mem_tail m)) i

-- a test that says of a changed member what it said of it
keep_mapped : {A : Type 0} (p : A → Bool) (f : A → A) → ((z : A) → p (f z) ≡ p z) → (l : List A) → keep p (map f l) ≡ map f (keep p l)
unfolding keep
keep_mapped p f e [] = refl
keep_mapped p f e (x ∷ l) = (λ i. cond (e x i) (f x ∷ keep_mapped p f e l i) (keep_mapped p f e l i)) ∙ go (p x)
  where
    go : (o : Bool) → cond o (f x ∷ map f (keep p l)) (map f (keep p l)) ≡ map f (cond o (x ∷ keep p l) (keep p l))
    go true = refl
    go false = refl

-- records whose starts change, each two of them apart as before
apart_mapped : (f : Record → Record) (l : List Record) →
    ((r q : Record) → list_mem r l → list_mem q l → apart r q ≡ true → apart (f r) (f q) ≡ true) → all_apart l ≡ true → all_apart (map f l) ≡ true
unfolding all_apart
apart_mapped f [] e h = refl
apart_mapped f (r ∷ l) e h =
    and_i (every (apart (f r)) (map f l)) (all_apart (map f l)) (mem_every (apart (f r)) (map f l) others)
    (apart_mapped f l (λ x y m k. e x y (list_mem_tail m) (list_mem_tail k)) (and_r (every (apart r) l) (all_apart l) h))
  where
    others : (z : Record) → list_mem z (map f l) → apart (f r) z ≡ true
    others z m =
        let w = map_mem f z l m in
        ap (apart (f r)) w.2 ∙ e r w.0 (list_mem_head refl) (list_mem_tail w.1)
        (every_mem (apart r) l (and_l (every (apart r) l) (all_apart l) h) w.0 w.1)

-- the number of places of the area that no row uses
abbrev pub free_bytes : Store → ℕ
free_bytes s = length (keep (λ (b : Bool). b) (free_from (held s) 0 s.area))

-- a free run has no more bytes than are free in all
pub run_most : (s : Store) (len at : ℕ) → FreeAt s len at → len ≤ free_bytes s
run_most s len at f = omega (arith, used_around (held s) s.area at len f.inside f.unused, used_or_free (held s) 0 s.area)

-- The names together, and the sizes: whatever the store.
abbrev pub names_together : Store → List ℕ
names_together s = used_from (held s) 0 s.area

pub same_area : (s : Store) → length (compacted s).area ≡ length s.area
unfolding compacted
same_area s =
    let zeros = length s.area - length (names_together s) in
    omega (arith, length-append (names_together s) (replicate zeros 0), length-replicate {A = ℕ} zeros 0, used_most (held s) 0 s.area)

pub same_records_lem : (s : Store) → length (compacted s).records ≡ length s.records
unfolding compacted held
same_records_lem s =
    length-append (map (moved (held s) s.area) (held s)) (drop s.count s.records)
    ∙ ap (λ (n : ℕ). n + length (drop s.count s.records)) (length-map (held s) (moved (held s) s.area))
    ∙ sym (length-append (take s.count s.records) (drop s.count s.records))
    ∙ ap length (take-append-drop s.count s.records)

module _ (s : Store) (p : StoreParts s) where
  abbrev at : Record → Record
  at = moved (held s) s.area

  held_length : length (map at (held s)) ≡ s.count
  unfolding held
  held_length = length-map (held s) at ∙ length-take-le s.count s.records p.counted

  held_moved : held (compacted s) ≡ map at (held s)
  unfolding compacted held
  held_moved = take_at (map at (held s)) (drop s.count s.records) s.count held_length

  spare_stay : drop s.count (compacted s).records ≡ drop s.count s.records
  unfolding compacted
  spare_stay = drop_at (map at (held s)) (drop s.count s.records) s.count held_length

  -- one name: it lies inside the area, and its bytes are used
  lies : (r : Record) → list_mem r (held s) → r.start + r.len ≤ length s.area
  unfolding lies_inside
  lies r m = leb-true (r.start + r.len) (length s.area) (every_mem (lies_inside s.area) (held s) p.laid.inside r m)

  -- its end comes to lie where its start does, and its length after that
  ends : (r : Record) → list_mem r (held s) → place_after (held s) s.area (r.start + r.len) ≡ place_after (held s) s.area r.start + r.len
  ends r m = place_end (held s) s.area r.start r.len (lies r m) (own_used (held s) r m)

  -- within the names together
  moved_inside : (r : Record) → list_mem r (held s) → (at r).start + (at r).len ≤ length (names_together s)
  unfolding moved
  moved_inside r m = omega (arith, ends r m, place_most (held s) s.area (r.start + r.len) (lies r m))

  -- and its row is the one that it was
  row_moved : (r : Record) → list_mem r (held s) → row_of (compacted s).area (at r) ≡ row_of s.area r
  unfolding compacted moved row_of
  row_moved r m =
      ap (λ (n : List ℕ). record { flags = r.flags; name = n })
      (read_placed (held s) s.area r.start r.len (lies r m) (own_used (held s) r m)
      (replicate (length s.area - length (names_together s)) 0))

  rows_moved : store_rows (compacted s) ≡ store_rows s
  unfolding store_rows record_rows
  rows_moved = ap (map (row_of (compacted s).area)) held_moved ∙ map_through at (row_of (compacted s).area) (row_of s.area) (held s) row_moved

  -- and so are those that a reader sees: a record keeps its readers
  pub visible_moved : (reader : ℕ) → visible reader (compacted s).area (held (compacted s)) ≡ visible reader s.area (held s)
  unfolding visible record_rows sees moved
  visible_moved reader =
      ap (λ (l : List Record). map (row_of (compacted s).area) (keep (sees reader) l)) held_moved
      ∙ ap (map (row_of (compacted s).area)) (keep_mapped (sees reader) at (λ r. refl) (held s))
      ∙ map_through at (row_of (compacted s).area) (row_of s.area) (keep (sees reader) (held s))
      (λ r m. row_moved r (keep_mem (sees reader) (held s) r m).0)

  -- of two names apart, the one that ended before the other's start still does
  before_moved : (r q : Record) → list_mem r (held s) → list_mem q (held s) → r.start + r.len ≤ q.start → (at r).start + (at r).len ≤ (at q).start
  unfolding moved
  before_moved r q m k h = omega (arith, ends r m, place_rises (held s) s.area (r.start + r.len) q.start h (omega (arith, lies q k)))

  apart_moved : (r q : Record) → list_mem r (held s) → list_mem q (held s) → apart r q ≡ true → apart (at r) (at q) ≡ true
  unfolding apart
  apart_moved r q m k h = go (or_cases (leb (r.start + r.len) q.start) (leb (q.start + q.len) r.start) h)
    where
      go : (leb (r.start + r.len) q.start ≡ true) ⊎ (leb (q.start + q.len) r.start ≡ true)
          → (leb ((at r).start + (at r).len) (at q).start || leb ((at q).start + (at q).len) (at r).start) ≡ true
      go (inl e) = or_l (leb ((at r).start + (at r).len) (at q).start) (leb ((at q).start + (at q).len) (at r).start)
          (le-leb ((at r).start + (at r).len) (at q).start (before_moved r q m k (leb-true (r.start + r.len) q.start e)))
      go (inr e) = or_r (leb ((at r).start + (at r).len) (at q).start) (leb ((at q).start + (at q).len) (at r).start)
          (le-leb ((at q).start + (at q).len) (at r).start (before_moved q r k m (leb-true (q.start + q.len) r.start e)))

  laid_moved : LaidParts (compacted s).area (map at (held s))
  unfolding lies_inside
  laid_moved =
      record {
        small = omega (arith, same_area s, p.laid.small);
        inside = mem_every (lies_inside (compacted s).area) (map at (held s)) inside;
        apart_all = apart_mapped at (held s) apart_moved p.laid.apart_all;
      }
    where
      inside : (z : Record) → list_mem z (map at (held s)) → lies_inside (compacted s).area z ≡ true
      inside z m =
          let w = map_mem at z (held s) m in
          ap (lies_inside (compacted s).area) w.2
          ∙ le-leb ((at w.0).start + (at w.0).len) (length (compacted s).area)
          (omega (arith, moved_inside w.0 w.1, same_area s, used_most (held s) 0 s.area))

  compacted_parts : StoreParts (compacted s)
  compacted_parts =
      record {
        counted = counted;
        laid = subst (LaidParts (compacted s).area) (sym held_moved) laid_moved;
        parts = subst TableParts (sym rows_moved) p.parts;
      }
    where
      counted : (compacted s).count ≤ length (compacted s).records
      counted = unfold compacted in omega (arith, same_records_lem s, p.counted)

  -- the bytes that a row uses then are those of the names together, and no others
  below_used : (k : ℕ) → k < length (names_together s) → any_of (uses k) (held (compacted s)) ≡ true
  unfolding moved place_after uses
  below_used k h =
      let w = used_at (held s) 0 s.area k h in
      let j = w.0 in
      let e : 0 + j ≡ j = omega arith in
      let v = some_mem (uses j) (held s) (subst (λ (x : ℕ). any_of (uses x) (held s) ≡ true) e w.2) in
      let r = v.0 in
      let low = leb-true r.start j (and_l (leb r.start j) (ltb j (r.start + r.len)) v.2) in
      let high = ltb-true j (r.start + r.len) (and_r (leb r.start j) (ltb j (r.start + r.len)) v.2) in
      let d : r.start + (j - r.start) ≡ j = omega arith in
      let far = place_end (held s) s.area r.start (j - r.start) (omega (arith, w.1))
      (λ i a b. own_used (held s) r v.1 i a (omega arith)) in
      let there : place_after (held s) s.area j ≡ place_after (held s) s.area r.start + (j - r.start) = ap (place_after (held s) s.area)
      (sym d) ∙ far in
      subst (λ (l : List Record). any_of (uses k) l ≡ true) (sym held_moved)
      (own_used (map at (held s)) (at r) (mem_map_lem at v.1) k (omega (arith, there, w.3)) (omega (arith, there, w.3)))

  above_free : (k : ℕ) → length (names_together s) ≤ k → any_of (uses k) (held (compacted s)) ≡ false
  unfolding uses
  above_free k h = subst (λ (l : List Record). any_of (uses k) l ≡ false) (sym held_moved) (mem_none (uses k) (map at (held s)) none)
    where
      none : (z : Record) → list_mem z (map at (held s)) → (leb z.start k && ltb k (z.start + z.len)) ≡ false
      none z m =
          let w = map_mem at z (held s) m in
          let over : ltb k (z.start + z.len) ≡ false = ap (λ (r : Record). ltb k (r.start + r.len)) w.2
          ∙ le-ltb k ((at w.0).start + (at w.0).len) (omega (arith, moved_inside w.0 w.1)) in
          ap (λ (b : Bool). leb z.start k && b) over ∙ and-false (leb z.start k)

  names_twice : names_together (compacted s) ≡ names_together s
  unfolding compacted
  names_twice =
      used_append (held (compacted s)) 0 (names_together s) zeros
      ∙ (λ i. used_all (held (compacted s)) 0 (names_together s) (λ k a b. below_used k (omega arith)) i ++ used_none (held (compacted s))
      (0 + length (names_together s)) zeros (λ k a b. above_free k (omega arith)) i)
      ∙ append-nil (names_together s)
    where
      zeros : List ℕ
      zeros = replicate (length s.area - length (names_together s)) 0

  record_twice : (r : Record) → list_mem r (held (compacted s)) → moved (held (compacted s)) (compacted s).area r ≡ r
  unfolding moved place_after
  record_twice r m = ap (λ (k : ℕ). record { flags = r.flags; start = k; len = r.len; readers = r.readers }) start_stays
    where
      inside : r.start + r.len ≤ length (names_together s)
      inside =
          let w = map_mem at r (held s) (subst (λ (l : List Record). list_mem r l) held_moved m) in
          subst (λ (q : Record). q.start + q.len ≤ length (names_together s)) (sym w.2) (moved_inside w.0 w.1)

      front : length (take r.start (compacted s).area) ≡ r.start
      front = length-take-le r.start (compacted s).area (omega (arith, inside, same_area s, used_most (held s) 0 s.area))

      start_stays : length (used_from (held (compacted s)) 0 (take r.start (compacted s).area)) ≡ r.start
      start_stays =
          ap length (used_all (held (compacted s)) 0 (take r.start (compacted s).area) (λ k a b. below_used k (omega (arith, inside, front)))) ∙
          front

  twice : compacted (compacted s) ≡ compacted s
  unfolding compacted
  twice = λ i. record { records = records i; count = s.count; area = area i }
    where
      records : map (moved (held (compacted s)) (compacted s).area) (held (compacted s)) ++ drop s.count (compacted s).records ≡ map at (held s)
          ++ drop s.count s.records
      records = λ i. (map_same (moved (held (compacted s)) (compacted s).area) (held (compacted s)) record_twice ∙ held_moved) i ++ spare_stay i

      area : names_together (compacted s) ++ replicate (length (compacted s).area - length (names_together (compacted s))) 0
          ≡ names_together s ++ replicate (length s.area - length (names_together s)) 0
      area = λ i. names_twice i ++ replicate (same_area s i - length (names_twice i)) 0

  -- straight after it, as many bytes are free as before, and they are one run
  free_twice : free_bytes (compacted s) ≡ free_bytes s
  free_twice =
      omega (arith, used_or_free (held s) 0 s.area, used_or_free (held (compacted s)) 0 (compacted s).area, same_area s, ap length names_twice)

  run_after : (len : ℕ) → len ≤ free_bytes s → FreeAt (compacted s) len (length (names_together s))
  run_after len h =
      record {
        inside = omega (arith, same_area s, used_or_free (held s) 0 s.area);
        unused = λ k a b. above_free k a;
      }

-- What stays: "Names, flags, order, spare records", and what is lent.
pub record Kept (s : Store) : Type 0 where
  pub rows : store_rows (compacted s) ≡ store_rows s
  pub count : (compacted s).count ≡ s.count
  pub records : length (compacted s).records ≡ length s.records
  pub area : length (compacted s).area ≡ length s.area
  pub spare : drop s.count (compacted s).records ≡ drop s.count s.records

parts_table : (s : Store) → StoreParts s → store_table s ≡ some (store_rows s)
unfolding store_table record_table store_rows held
parts_table s p = rw (le-leb s.count (length s.records) p.counted, parts_laid s.area (held s) p.laid)

-- "a table that does not pass is 1, unchanged"
pub compaction_refused : (s : Store) → passes (store_table s) ≡ false → compaction s ≡ record { number = 1; store = s }
unfolding compaction
compaction_refused s h = rw h

module _ (s : Store) (h : passes (store_table s) ≡ true) where
  pub compaction_made : compaction s ≡ record { number = 0; store = compacted s }
  unfolding compaction
  compaction_made = rw h

  pub stays : Kept s
  unfolding compacted
  stays =
      let p = store_parts s h in
      record {
        rows = rows_moved s p;
        count = refl;
        records = same_records_lem s;
        area = same_area s;
        spare = spare_stay s p;
      }

  -- check 1 passes after it, over the same table
  pub compacted_passes : passes (store_table (compacted s)) ≡ true
  compacted_passes = parts_store (compacted s) (compacted_parts s (store_parts s h))

  pub table_stays : store_table (compacted s) ≡ store_table s
  table_stays =
      let p = store_parts s h in
      parts_table (compacted s) (compacted_parts s p) ∙ ap (λ (l : List Row). some l) (rows_moved s p) ∙ sym (parts_table s p)

  -- and over what each reader sees of it
  pub seen_stays : (reader : ℕ) → store_seen reader (compacted s) ≡ store_seen reader s
  unfolding store_seen records_seen store_table held
  seen_stays reader = λ i. seen (table_stays i) (visible_moved s (store_parts s h) reader i)

  -- done twice is done once
  pub compacted_twice : compacted (compacted s) ≡ compacted s
  compacted_twice = twice s (store_parts s h)

  -- no byte is freed or used up
  free_stays : free_bytes (compacted s) ≡ free_bytes s
  free_stays = free_twice s (store_parts s h)

  -- "free bytes form one run": a run is long enough exactly if the free bytes in all are
  pub free_in_all : (n : ℕ) → 0 < n → (free_run (compacted s) n ≡ none → free_bytes s < n) × (free_bytes s < n → free_run (compacted s) n ≡ none)
  free_in_all n l =
      (λ e. go e (leb n (free_bytes s)) refl, λ few. none_run (compacted s) n (λ at f. omega (arith, free_stays, run_most (compacted s) n at f)))
    where
      go : free_run (compacted s) n ≡ none → (b : Bool) → leb n (free_bytes s) ≡ b → free_bytes s < n
      go e true q =
          absurd (run_none (compacted s) n (omega arith) e (length (names_together s)) (run_after s (store_parts s h) n (leb-true n (free_bytes s) q)))
      go e false q = leb-false n (free_bytes s) q

  -- "Straight after the operation, no edit between, 15 for want of bytes is given exactly if the free bytes in all are fewer than the name's."
  pub room_in_all : (n : List ℕ) → 0 < length n → s.count < 512 → s.count < length s.records
      → (insertion (compacted s) n ≡ denied 15 → free_bytes s < length n) × (free_bytes s < length n → insertion (compacted s) n ≡ denied 15)
  room_in_all n l few room =
      (λ e. go e (leb (length n) (free_bytes s)) refl, λ q. run_refused (compacted s) n (λ at f. omega (arith, free_stays, run_most (compacted s) (length n) at f)))
    where
      go : insertion (compacted s) n ≡ denied 15 → (b : Bool) → leb (length n) (free_bytes s) ≡ b → free_bytes s < length n
      go e true q =
          let at = run_after s (store_parts s h) (length n) (leb-true (length n) (free_bytes s) q) in
          let w = insertion_made (compacted s) n (omega (arith, stays.count)) (omega (arith, stays.count, stays.records))
          (length (names_together s)) (omega arith) at in
          absurd (refused_not 15 _ (sym e ∙ w.2))
      go e false q = leb-false (length n) (free_bytes s) q
