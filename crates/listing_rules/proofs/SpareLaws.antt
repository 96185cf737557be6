-- Spare records past the 512th do not matter (W6): a command over a store makes of its first 512 records what it would make of them alone, with the
-- same reply, count and name bytes, and leaves the others as they are. Rests on CommandLaws and EditPasses.
use Rattle.listing_rules.proofs.Prelude.{◌∙◌, ◌≡◌, ap, refl, sym, Bool, ◌&&◌, cond, false, false≢true, not, true, Option, none, some, List, []}
use Rattle.listing_rules.proofs.Prelude.{◌++◌, ◌∷◌, append_assoc, append-nil, ◌-◌, ◌<◌, ◌≤◌, min, suc, ℕ, arith, eqb, leb, ltb}
use Rattle.listing_rules.proofs.Prelude.{list_get_or_append, drop, drop_of_length-le, length, length-append, length-take, replicate, take}
use Rattle.listing_rules.proofs.Prelude.{take-append-drop, drop-append-le, take_all, take-append-le, le-leb, leb-false, leb-true, lt-ltb}
use Rattle.listing_rules.proofs.Prelude.{ltb-true}
use Rattle.listing_rules.specs.Lists.{any_of, keep}
use Rattle.listing_rules.specs.Orders.{byte_order, is_lt}
use Rattle.listing_rules.specs.Names.{lawful_name}
use Rattle.listing_rules.specs.Table.{Row, passes, has_row}
use Rattle.listing_rules.specs.Records.{Record, record_rows, laid_out, record_table}
use Rattle.listing_rules.specs.Command.{subscribe, unsubscribe, Parsed, refused, namespace, listing, root_of, subscriptions, editing, parsed}
use Rattle.listing_rules.specs.Readers.{is_reader, visible, seen, records_seen}
use Rattle.listing_rules.specs.Subscriptions.{Store, store_table, store_seen, held, store_rows, spelled, rows_before, below_no_inferiors, free_from}
use Rattle.listing_rules.specs.Subscriptions.{lowest_run, free_run, overwritten, with_subscribed, without_subscribed, zero_record, nth, flagged}
use Rattle.listing_rules.specs.Subscriptions.{inserted, removed, Edited, denied, stored, insertion, subscribing, unsubscribing, edited}
use Rattle.listing_rules.specs.Server.{Reply, refusal, answered, answer, Commanded, attempted, unchanged_by, concluded, commanded_over, commanded}
use Rattle.listing_rules.proofs.Bools.{and_l}
use Rattle.listing_rules.proofs.ListLaws.{keep_length}
use Rattle.listing_rules.proofs.Sorted.{before_other}
use Rattle.listing_rules.proofs.EditPasses.{store_parts, rows_count}
use Rattle.listing_rules.proofs.SubscriptionLaws.{room_for_row, inserted_at}
use Rattle.listing_rules.proofs.CommandLaws.{unsound_refused, stranger_refused}

-- a store with more spare records at its end; what an edit, and a command, comes to with them
abbrev pub with_spare : Store → List Record → Store
with_spare s z = record { records = s.records ++ z; count = s.count; area = s.area }

abbrev pub edited_with : List Record → Edited → Edited
edited_with z (denied k) = denied k
edited_with z (stored s) = stored (with_spare s z)

abbrev pub commanded_with : List Record → Commanded → Commanded
commanded_with z c = record { reply = c.reply; store = with_spare c.store z }

-- "edits are allowed to reader 0 only"
allowed_spare : (z : List Record) (b : Bool) (x y : Edited) → x ≡ edited_with z y → cond b x (denied 16) ≡ edited_with z (cond b y (denied 16))
allowed_spare z true x y e = e
allowed_spare z false x y e = refl

-- the place of a name: no more rows come before it than there are, and fewer where it has a row
pub before_most : (rs : List Row) (n : List ℕ) → rows_before rs n ≤ length rs
unfolding rows_before
before_most rs n = keep_length (λ r. is_lt (byte_order r.name n)) rs

pub before_fewer : (rs : List Row) (n : List ℕ) → has_row rs n ≡ true → rows_before rs n < length rs
unfolding rows_before keep has_row any_of
before_fewer [] n h = absurd (false≢true h)
before_fewer (r ∷ rs) n h = go (is_lt (byte_order r.name n)) refl (λ q. before_fewer rs n q)
  where
    later : is_lt (byte_order r.name n) ≡ true → has_row rs n ≡ true
    later e = rw (before_other r.name n e) at h

    go : (o : Bool) → is_lt (byte_order r.name n) ≡ o → (has_row rs n ≡ true → rows_before rs n < length rs)
        → length (cond o (r ∷ keep (λ q. is_lt (byte_order q.name n)) rs) (keep (λ q. is_lt (byte_order q.name n)) rs)) < suc (length rs)
    go true e f = omega (arith, f (later e))
    go false e f = omega (arith, before_most rs n)

module _ (s : Store) (z : List Record) (full : length s.records ≡ 512) (few : s.count ≤ 512) where
  pub inside : s.count ≤ length s.records
  inside = omega (arith, full, few)

  pub held_spare : held (with_spare s z) ≡ held s
  unfolding held
  held_spare = take-append-le s.count s.records z inside

  pub rows_spare : store_rows (with_spare s z) ≡ store_rows s
  unfolding store_rows
  rows_spare = ap (record_rows s.area) held_spare

  pub table_spare : store_table (with_spare s z) ≡ store_table s
  unfolding store_table record_table
  table_spare =
      let more : leb s.count (length (s.records ++ z)) ≡ true = le-leb s.count (length (s.records ++ z))
      (omega (arith, inside, length-append s.records z)) in
      let enough : leb s.count (length s.records) ≡ true = le-leb s.count (length s.records) inside in
      λ i. cond ((more ∙ sym enough) i && laid_out s.area (take-append-le s.count s.records z inside i))
      (some (record_rows s.area (take-append-le s.count s.records z inside i))) none

  seen_spare : (reader : ℕ) → store_seen reader (with_spare s z) ≡ store_seen reader s
  unfolding store_seen records_seen store_table held
  seen_spare reader = λ i. seen (table_spare i) (visible reader s.area (held_spare i))

  run_spare : (len : ℕ) → free_run (with_spare s z) len ≡ free_run s len
  unfolding free_run
  run_spare len = ap (λ (hs : List Record). lowest_run len 0 (free_from hs 0 s.area)) held_spare

  -- places of the first 512 records
  module _ (k : ℕ) (low : k < 512) where
    nth_spare : nth (s.records ++ z) k ≡ nth s.records k
    unfolding nth
    nth_spare = list_get_or_append s.records z zero_record k (omega (arith, full, low))

    flagged_spare : (f : ℕ) → flagged (with_spare s z) k f ≡ with_spare (flagged s k f) z
    unfolding flagged
    flagged_spare f =
        let it : Record → Record = λ r. record { flags = f; start = r.start; len = r.len; readers = r.readers } in
        let first : take k (s.records ++ z) ≡ take k s.records = take-append-le k s.records z (omega (arith, full, low)) in
        let rest : drop (suc k) (s.records ++ z) ≡ drop (suc k) s.records ++ z = drop-append-le (suc k) s.records z
        (omega (arith, full, low)) in
        let whole : take k (s.records ++ z) ++ (it (nth (s.records ++ z) k) ∷ drop (suc k) (s.records ++ z)) ≡
        (take k s.records ++ (it (nth s.records k) ∷ drop (suc k) s.records)) ++ z =
        (λ i. first i ++ (it (nth_spare i) ∷ rest i)) ∙ sym (append_assoc (take k s.records) (it (nth s.records k) ∷ drop (suc k) s.records)
        z) in
        λ i. record { records = whole i; count = s.count; area = s.area }

    removed_spare : removed (with_spare s z) k ≡ with_spare (removed s k) z
    unfolding removed
    removed_spare =
        let moved : List Record = drop (suc k) (held s) in
        let first : take k (s.records ++ z) ≡ take k s.records = take-append-le k s.records z (omega (arith, full, low)) in
        let rest : drop s.count (s.records ++ z) ≡ drop s.count s.records ++ z = drop-append-le s.count s.records z inside in
        let whole : take k (s.records ++ z) ++ (drop (suc k) (held (with_spare s z)) ++ (zero_record ∷ drop s.count (s.records ++ z)))
        ≡ (take k s.records ++ (moved ++ (zero_record ∷ drop s.count s.records))) ++ z =
        (λ i. first i ++ (drop (suc k) (held_spare i) ++ (zero_record ∷ rest i)))
        ∙ sym (append_assoc (take k s.records) (moved ++ (zero_record ∷ drop s.count s.records)) z
        ∙ ap (λ (l : List Record). take k s.records ++ l) (append_assoc moved (zero_record ∷ drop s.count s.records) z)) in
        λ i. record { records = whole i; count = s.count - 1; area = overwritten s.area (nth_spare i).start (replicate (nth_spare i).len 0) }

  inserted_spare : (k start : ℕ) (n : List ℕ) → k ≤ s.count → s.count < 512 →
      inserted (with_spare s z) k start n ≡ with_spare (inserted s k start n) z
  unfolding inserted
  inserted_spare k start n low room =
      let it : Record = record { flags = 0x0002; start = start; len = length n; readers = 0xFF } in
      let moved : List Record = drop k (held s) in
      let left : List Record = drop (suc s.count) s.records in
      let first : take k (s.records ++ z) ≡ take k s.records = take-append-le k s.records z (omega (arith, full, low, few)) in
      let rest : drop (suc s.count) (s.records ++ z) ≡ left ++ z = drop-append-le (suc s.count) s.records z (omega (arith, full, room)) in
      let whole : take k (s.records ++ z) ++ (it ∷ (drop k (held (with_spare s z)) ++ drop (suc s.count) (s.records ++ z))) ≡
      (take k s.records ++ (it ∷ (moved ++ left))) ++ z =
      (λ i. first i ++ (it ∷ (drop k (held_spare i) ++ rest i)))
      ∙ sym (append_assoc (take k s.records) (it ∷ (moved ++ left)) z ∙ ap (λ (l : List Record). take k s.records ++ (it ∷ l))
      (append_assoc moved left z)) in
      λ i. record { records = whole i; count = suc s.count; area = overwritten s.area start n }

  -- the place of a name is one of a row, or the one after the last
  place_most : (n : List ℕ) → rows_before (store_rows s) n ≤ s.count
  place_most n = omega (arith, before_most (store_rows s) n, rows_count s inside)

  place_low : (n : List ℕ) → has_row (store_rows s) n ≡ true → rows_before (store_rows s) n < 512
  place_low n h = omega (arith, before_fewer (store_rows s) n h, rows_count s inside, few)

  -- "with 512 rows, no spare record": the same, since a record is spare among 512 where there are fewer rows
  room_spare : room_for_row (with_spare s z) ≡ room_for_row s
  room_spare = go (ltb s.count 512) refl
    where
      go : (o : Bool) → ltb s.count 512 ≡ o → (o && ltb s.count (length (s.records ++ z))) ≡ (o && ltb s.count (length s.records))
      go true e =
          let h = ltb-true s.count 512 e in
          lt-ltb s.count (length (s.records ++ z)) (omega (arith, h, full, length-append s.records z)) ∙ sym
          (lt-ltb s.count (length s.records) (omega (arith, h, full)))
      go false e = refl

  insertion_spare : (n : List ℕ) → insertion (with_spare s z) n ≡ edited_with z (insertion s n)
  unfolding insertion
  insertion_spare n =
      (λ i. elim (run_spare (length n) i) [
        | none ↦ denied 15
        | some start ↦ cond (room_spare i)
            (stored (inserted (with_spare s z) (rows_before (rows_spare i) n) start n)) (denied 15)
      ])
      ∙ run (free_run s (length n))
    where
      k : ℕ
      k = rows_before (store_rows s) n

      made : (start : ℕ) (o : Bool) → room_for_row s ≡ o
          → cond o (stored (inserted (with_spare s z) k start n)) (denied 15) ≡ edited_with z (cond o (stored (inserted s k start n)) (denied 15))
      made start true e =
          ap stored (inserted_spare k start n (place_most n) (ltb-true s.count 512
          (and_l (ltb s.count 512) (ltb s.count (length s.records)) e)))
      made start false e = refl

      run : (r : Option ℕ)
          → (elim r [ none ↦ denied 15 | some start ↦ cond (room_for_row s) (stored (inserted (with_spare s z) k start n)) (denied 15) ])
          ≡ edited_with z (inserted_at s n r)
      run none = refl
      run (some start) = made start (room_for_row s) refl

  subscribing_spare : (n : List ℕ) → subscribing (with_spare s z) n ≡ edited_with z (subscribing s n)
  unfolding subscribing
  subscribing_spare n =
      (λ i. let k = rows_before (rows_spare i) n in
      cond (has_row (rows_spare i) n) (stored (flagged (with_spare s z) k (with_subscribed (nth (s.records ++ z) k).flags)))
      (cond (lawful_name n && not (below_no_inferiors (rows_spare i) n)) (insertion_spare n i) (denied 14)))
      ∙ go (has_row (store_rows s) n) refl
    where
      k : ℕ
      k = rows_before (store_rows s) n

      fresh : (o : Bool) → cond o (edited_with z (insertion s n)) (denied 14) ≡ edited_with z (cond o (insertion s n) (denied 14))
      fresh true = refl
      fresh false = refl

      go : (o : Bool) → has_row (store_rows s) n ≡ o
          → cond o (stored (flagged (with_spare s z) k (with_subscribed (nth (s.records ++ z) k).flags)))
          (cond (lawful_name n && not (below_no_inferiors (store_rows s) n)) (edited_with z (insertion s n)) (denied 14))
          ≡ edited_with z (cond o (stored (flagged s k (with_subscribed (nth s.records k).flags)))
          (cond (lawful_name n && not (below_no_inferiors (store_rows s) n)) (insertion s n) (denied 14)))
      go true h =
          let low = place_low n h in
          ap (λ (r : Record). stored (flagged (with_spare s z) k (with_subscribed r.flags))) (nth_spare k low) ∙ ap stored
          (flagged_spare k low (with_subscribed (nth s.records k).flags))
      go false h = fresh (lawful_name n && not (below_no_inferiors (store_rows s) n))

  unsubscribing_spare : (n : List ℕ) → unsubscribing (with_spare s z) n ≡ edited_with z (unsubscribing s n)
  unfolding unsubscribing
  unsubscribing_spare n =
      (λ i. let k = rows_before (rows_spare i) n in let f = (nth (s.records ++ z) k).flags in
      cond (has_row (rows_spare i) n) (cond (eqb f 0x0002) (stored (removed (with_spare s z) k))
      (stored (flagged (with_spare s z) k (without_subscribed f)))) (stored (with_spare s z)))
      ∙ go (has_row (store_rows s) n) refl
    where
      k : ℕ
      k = rows_before (store_rows s) n

      -- what UNSUBSCRIBE makes of a store whose record at the place has flags f; o says that it is a row 0002
      cleared : Store → ℕ → Bool → Edited
      cleared v f o = cond o (stored (removed v k)) (stored (flagged v k (without_subscribed f)))

      own : (low : k < 512) (f : ℕ) (o : Bool) → cleared (with_spare s z) f o ≡ edited_with z (cleared s f o)
      own low f true = ap stored (removed_spare k low)
      own low f false = ap stored (flagged_spare k low (without_subscribed f))

      go : (o : Bool) → has_row (store_rows s) n ≡ o
          → (let f = (nth (s.records ++ z) k).flags in cond o (cleared (with_spare s z) f (eqb f 0x0002)) (stored (with_spare s z)))
          ≡ edited_with z (let f = (nth s.records k).flags in cond o (cleared s f (eqb f 0x0002)) (stored s))
      go true h =
          let low = place_low n h in
          ap (λ (r : Record). cond (eqb r.flags 0x0002) (stored (removed (with_spare s z) k))
          (stored (flagged (with_spare s z) k (without_subscribed r.flags)))) (nth_spare k low)
          ∙ own low (nth s.records k).flags (eqb (nth s.records k).flags 0x0002)
      go false h = refl

  attempted_spare : (reader : ℕ) (p : Parsed) → attempted reader (with_spare s z) p ≡ edited_with z (attempted reader s p)
  unfolding attempted edited
  attempted_spare reader (refused k) = refl
  attempted_spare reader (namespace tag) = refl
  attempted_spare reader (listing tag o ps) = refl
  attempted_spare reader (root_of tag) = refl
  attempted_spare reader (subscriptions tag ps) = refl
  attempted_spare reader (editing tag (subscribe n)) = allowed_spare z (eqb reader 0) (subscribing (with_spare s z) (spelled n))
      (subscribing s (spelled n)) (subscribing_spare (spelled n))
  attempted_spare reader (editing tag (unsubscribe n)) =
      allowed_spare z (eqb reader 0) (unsubscribing (with_spare s z) (spelled n)) (unsubscribing s (spelled n)) (unsubscribing_spare (spelled n))

concluded_spare : (s : Store) (z : List Record) (room : ℕ) (x : Edited) (r : Reply) →
    concluded (with_spare s z) room (edited_with z x) r ≡ commanded_with z (concluded s room x r)
unfolding concluded unchanged_by
concluded_spare s z room x (refusal k) = refl
concluded_spare s z room (denied k) (answered a) = refl
concluded_spare s z room (stored t) (answered a) = go (leb (length a) room)
  where
    go : (b : Bool) → cond b (record { reply = answered a; store = with_spare t z }) (unchanged_by (with_spare s z) 9)
        ≡ commanded_with z (cond b (record { reply = answered a; store = t }) (unchanged_by s 9))
    go true = refl
    go false = refl

-- a count above 512: the table does not pass
pub too_many : (s : Store) → 512 < s.count → passes (store_table s) ≡ false
too_many s h = go (passes (store_table s)) refl
  where
    go : (b : Bool) → passes (store_table s) ≡ b → b ≡ false
    go true e = let p = store_parts s e in absurd (omega (arith, h, rows_count s p.counted, p.parts.few))
    go false e = refl

-- with 512 records before them, more spare records are left alone
pub beyond : (reader : ℕ) (s : Store) (z : List Record) → length s.records ≡ 512 → (spaces l buffer : List ℕ)
    → commanded reader (with_spare s z) spaces l buffer ≡ commanded_with z (commanded reader s spaces l buffer)
beyond reader s z full spaces l buffer = who (is_reader reader) refl
  where
    Same : Type 0
    Same = commanded reader (with_spare s z) spaces l buffer ≡ commanded_with z (commanded reader s spaces l buffer)

    spare_unchanged : (k : ℕ) → unchanged_by (with_spare s z) k ≡ commanded_with z (unchanged_by s k)
    spare_unchanged k = unfold unchanged_by in refl

    few : is_reader reader ≡ true → s.count ≤ 512 → Same
    few r h =
        unfold commanded commanded_over in
        rw r
        ((λ i. concluded (with_spare s z) (length buffer) (attempted_spare s z full h reader (parsed l) i)
        (answer (seen_spare s z full h reader i) spaces l))
        ∙ concluded_spare s z (length buffer) (attempted reader s (parsed l)) (answer (store_seen reader s) spaces l))

    many : is_reader reader ≡ true → 512 < s.count → Same
    many r h =
        unsound_refused reader (with_spare s z) spaces l buffer r (too_many (with_spare s z) h)
        ∙ spare_unchanged 1
        ∙ ap (commanded_with z) (sym (unsound_refused reader s spaces l buffer r (too_many s h)))

    go : is_reader reader ≡ true → (b : Bool) → leb s.count 512 ≡ b → Same
    go r true e = few r (leb-true s.count 512 e)
    go r false e = many r (leb-false s.count 512 e)

    who : (b : Bool) → is_reader reader ≡ b → Same
    who true r = go r (leb s.count 512) refl
    who false r =
        stranger_refused reader (with_spare s z) spaces l buffer r ∙ spare_unchanged 16 ∙ ap (commanded_with z)
        (sym (stranger_refused reader s spaces l buffer r))

-- A command over the store s, and over t, which has the first records of s alone: what comes of s is what comes of t, with the others, z, at its end.
pub record SameFront (reader : ℕ) (s t : Store) (z : List Record) (spaces l buffer : List ℕ) : Type 0 where
  pub reply : (commanded reader s spaces l buffer).reply ≡ (commanded reader t spaces l buffer).reply
  pub count : (commanded reader s spaces l buffer).store.count ≡ (commanded reader t spaces l buffer).store.count
  pub area : (commanded reader s spaces l buffer).store.area ≡ (commanded reader t spaces l buffer).store.area
  pub records : (commanded reader s spaces l buffer).store.records ≡ (commanded reader t spaces l buffer).store.records ++ z

same_of : (reader : ℕ) (s t : Store) (z : List Record) (spaces l buffer : List ℕ)
    → commanded reader s spaces l buffer ≡ commanded_with z (commanded reader t spaces l buffer) → SameFront reader s t z spaces l buffer
same_of reader s t z spaces l buffer e =
    record {
      reply = ap (λ (c : Commanded). c.reply) e;
      count = ap (λ (c : Commanded). c.store.count) e;
      area = ap (λ (c : Commanded). c.store.area) e;
      records = ap (λ (c : Commanded). c.store.records) e;
    }

-- An entry looks at no more than 512 records.
pub same_front : (reader : ℕ) (rs : List Record) (n : ℕ) → n ≡ min (length rs) 512 → (count : ℕ) (area spaces l buffer : List ℕ)
    → SameFront reader (record { records = rs; count = count; area = area }) (record { records = take n rs; count = count; area = area })
    (drop n rs) spaces l buffer
same_front reader rs n e count area spaces l buffer =
    same_of reader (over rs) (over (take n rs)) (drop n rs) spaces l buffer (go (leb (length rs) 512) refl)
  where
    over : List Record → Store
    over k = record { records = k; count = count; area = area }

    go : (b : Bool) → leb (length rs) 512 ≡ b →
        commanded reader (over rs) spaces l buffer ≡ commanded_with (drop n rs) (commanded reader (over (take n rs)) spaces l buffer)
    go true q =
        let all : length rs ≤ n = omega (arith, e, leb-true (length rs) 512 q) in
        let c = commanded reader (over rs) spaces l buffer in
        sym (λ i. record
        { reply = c.reply; store = record { records = append-nil c.store.records i; count = c.store.count; area = c.store.area } })
        ∙ sym (λ i. commanded_with (drop_of_length-le rs all i) (commanded reader (over (take_all n rs all i)) spaces l buffer))
    go false q =
        let more : 512 < length rs = leb-false (length rs) 512 q in
        ap (λ (k : List Record). commanded reader (over k) spaces l buffer) (sym (take-append-drop n rs))
        ∙ beyond reader (over (take n rs)) (drop n rs) (omega (arith, e, more, length-take n rs)) spaces l buffer
