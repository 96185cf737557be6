-- The store that the program makes of its packed bytes at the first accepted edit (W6): it has 512 records and 16,384 name bytes, it is the packed
-- table, every reader sees the same of both (W9), and so a command over the packed bytes is the command over that store. Rests on Passes, RecordLaws
-- and EditLayout.
use Rattle.listing_rules.proofs.Prelude.{◌∙◌, ◌≡◌, ap, refl, sym, Bool, ◌&&◌, ◌||◌, cond, false, true, none, some, List, [], ◌++◌, ◌∷◌}
use Rattle.listing_rules.proofs.Prelude.{append_assoc, ◌+◌, ◌-◌, ◌≤◌, suc, zero, ℕ, arith, leb, drop, get_or, length, length-append, length-drop}
use Rattle.listing_rules.proofs.Prelude.{length-replicate, length-take, replicate, take, drop_at, drop-drop, take_at, le-leb, leb-true}
use Rattle.listing_rules.specs.Bytes.{bit}
use Rattle.listing_rules.specs.Lists.{every, keep, joined, filled_to}
use Rattle.listing_rules.specs.Table.{Row, Table, rows, names, passes, row_at, rows_after, packed_rows, rows_fill, packed_table}
use Rattle.listing_rules.specs.Records.{Record, row_of, record_rows, lies_inside, apart, all_apart, record_table, packed_records}
use Rattle.listing_rules.specs.Readers.{sees, visible, seen, records_seen, packed_seen}
use Rattle.listing_rules.specs.Subscriptions.{store_table, store_seen, zero_record}
use Rattle.listing_rules.specs.Server.{answer}
use Rattle.listing_rules.specs.Summary.{Summed, agrees, summed_seen, summed_over, summed_command, counted_first}
use Rattle.listing_rules.specs.Frames.{bytes, records, records_from, program_store, program_summed, kept_seen, kept_summed, command_over}
use Rattle.listing_rules.proofs.Bools.{and_l, and_r, and_i, or_l}
use Rattle.listing_rules.proofs.ListLaws.{mem_every}
use Rattle.listing_rules.proofs.Passes.{packed_parts, packed_some}
use Rattle.listing_rules.proofs.RecordLaws.{packed_rows_are, packed_inside}
use Rattle.listing_rules.proofs.EditLists.{keep_all}
use Rattle.listing_rules.proofs.EditLayout.{LaidParts, parts_laid}
use Rattle.listing_rules.proofs.SummaryCommands.{seen_with, counted_agrees}

-- how many bytes the names have
abbrev pub names_length : List Row → ℕ
names_length rs = length (joined (names rs))

-- a name that lies inside is as long as its record says
name_length : (t : List ℕ) (r : Record) → lies_inside t r ≡ true → length (row_of t r).name ≡ r.len
unfolding lies_inside row_of
name_length t r h =
    omega (arith, leb-true (r.start + r.len) (length t) h, length-take r.len (drop r.start t), length-drop r.start t)

-- Names without gaps from a place on: of those records whose readers pass a test, the rows are the same as before.
rows_at : (p : ℕ → Bool) (t area : List ℕ) (rs : List Record) (at : ℕ) (z : List ℕ) → every (lies_inside t) rs ≡ true →
    drop at area ≡ joined (names (record_rows t rs)) ++ z
    → record_rows area (keep (λ r. p r.readers) (records_from at rs)) ≡ record_rows t (keep (λ r. p r.readers) rs)
unfolding record_rows records_from keep every joined names
rows_at p t area [] at z h e = refl
rows_at p t area (r ∷ rs) at z h e =
    pick (p r.readers) (rows_at p t area rs (at + r.len) z (and_r (lies_inside t r) (every (lies_inside t) rs) h) after)
  where
    name : List ℕ
    name = (row_of t r).name

    size : length name ≡ r.len
    size = name_length t r (and_l (lies_inside t r) (every (lies_inside t) rs) h)

    whole : drop at area ≡ name ++ (joined (names (record_rows t rs)) ++ z)
    whole = e ∙ append_assoc name (joined (names (record_rows t rs))) z

    after : drop (at + r.len) area ≡ joined (names (record_rows t rs)) ++ z
    after = sym (drop-drop r.len at area) ∙ ap (drop r.len) whole ∙ drop_at name (joined (names (record_rows t rs)) ++ z) r.len size

    placed : Record
    placed = record { flags = r.flags; start = at; len = r.len; readers = r.readers }

    first : row_of area placed ≡ row_of t r
    first = unfold row_of in
        let named : take r.len (drop at area) ≡ name = ap (take r.len) whole ∙ take_at name (joined (names (record_rows t rs)) ++ z) r.len
        size in
        λ i. record { flags = r.flags; name = named i }

    old : List Record
    old = keep (λ q. p q.readers) rs

    new : List Record
    new = keep (λ q. p q.readers) (records_from (at + r.len) rs)

    pick : (o : Bool) → record_rows area new ≡ record_rows t old → record_rows area (cond o (placed ∷ new) new) ≡ record_rows t (cond o (r ∷ old) old)
    pick true ih = λ i. first i ∷ ih i
    pick false ih = ih

-- a record for each record
pub count_from : (at : ℕ) (rs : List Record) → length (records_from at rs) ≡ length rs
unfolding records_from
count_from at [] = refl
count_from at (r ∷ rs) = ap suc (count_from (at + r.len) rs)

-- "Names lie inside the area"
inside_from : (t area : List ℕ) (at : ℕ) (rs : List Record) → every (lies_inside t) rs ≡ true → at + names_length (record_rows t rs) ≤ length area
    → every (lies_inside area) (records_from at rs) ≡ true
unfolding records_from every lies_inside record_rows joined names
inside_from t area at [] i h = refl
inside_from t area at (r ∷ rs) i h =
    let l = length-append (row_of t r).name (joined (names (record_rows t rs))) in
    let n = name_length t r (and_l (lies_inside t r) (every (lies_inside t) rs) i) in
    and_i (leb (at + r.len) (length area)) (every (lies_inside area) (records_from (at + r.len) rs))
    (le-leb (at + r.len) (length area) (omega (arith, h, l, n)))
    (inside_from t area (at + r.len) rs (and_r (lies_inside t r) (every (lies_inside t) rs) i) (omega (arith, h, l, n)))

-- "without overlap": each name starts where the one before it ends
apart_from : (w : Record) (at : ℕ) (rs : List Record) → w.start + w.len ≤ at → every (apart w) (records_from at rs) ≡ true
unfolding records_from every apart
apart_from w at [] h = refl
apart_from w at (r ∷ rs) h =
    and_i (leb (w.start + w.len) at || leb (at + r.len) w.start) (every (apart w) (records_from (at + r.len) rs))
    (or_l (leb (w.start + w.len) at) (leb (at + r.len) w.start) (le-leb (w.start + w.len) at h))
    (apart_from w (at + r.len) rs (omega (arith, h)))

all_apart_from : (at : ℕ) (rs : List Record) → all_apart (records_from at rs) ≡ true
unfolding records_from all_apart
all_apart_from at [] = refl
all_apart_from at (r ∷ rs) =
    let after = records_from (at + r.len) rs in
    let w : Record = record { flags = r.flags; start = at; len = r.len; readers = r.readers } in
    and_i (every (apart w) after) (all_apart after) (apart_from w (at + r.len) rs (omega arith)) (all_apart_from (at + r.len) rs)

-- filled up to a length
length_filled : {A : Type 0} (n : ℕ) (z : A) (xs : List A) → length xs ≤ n → length (filled_to n z xs) ≡ n
unfolding filled_to
length_filled n z xs h = omega (arith, h, length-append xs (replicate (n - length xs) z), length-replicate (n - length xs) z)

-- "The program keeps 512 records .. 16,384 bytes"
pub program_records : (t : List ℕ) → length (packed_records t) ≤ 512 → length (program_store t).records ≡ 512
unfolding program_store
program_records t h = length_filled 512 zero_record (records_from 0 (packed_records t)) (omega (arith, h, count_from 0 (packed_records t)))

program_area : (t : List ℕ) → names_length (packed_rows t) ≤ 16384 → length (program_store t).area ≡ 16384
unfolding program_store names
program_area t h = length_filled 16384 0 (joined (names (packed_rows t))) h

-- the names of packed bytes are no longer than the bytes
names_after : (skip : ℕ) (u : List ℕ) → names_length (rows_after skip u) ≤ length u - skip
unfolding rows_after row_at names joined
names_after skip [] = omega arith
names_after zero (h ∷ u) =
    omega (
      arith,
      length-append (take (get_or u 2 0) (drop 3 u)) (joined (names (rows_after (suc (suc (suc (get_or u 2 0)))) u))),
      length-take (get_or u 2 0) (drop 3 u),
      length-drop 3 u,
      names_after (suc (suc (suc (get_or u 2 0)))) u,
    )
names_after (suc k) (h ∷ u) = omega (arith, names_after k u)

pub packed_rows_fit : (t : List ℕ) → names_length (packed_rows t) ≤ length t
unfolding packed_rows
packed_rows_fit t = omega (arith, names_after 0 t)

pub packed_names_fit : (t : List ℕ) → names_length (rows (packed_table t)) ≤ length t
unfolding packed_table rows names joined
packed_names_fit t = go (leb (length t) 32768 && rows_fill 0 t)
  where
    go : (b : Bool) → names_length (rows (cond b (some (packed_rows t)) none)) ≤ length t
    go true = packed_rows_fit t
    go false = omega arith

-- it has a record for each row
pub program_counted : (t : List ℕ) → (program_store t).count ≤ length (program_store t).records
unfolding program_store filled_to
program_counted t =
    let laid = records_from 0 (packed_records t) in
    omega (arith, length-append laid (replicate (512 - length laid) zero_record), count_from 0 (packed_records t))

-- its rows are the records without gaps
pub laid_holds : (t : List ℕ) → take (program_store t).count (program_store t).records ≡ records_from 0 (packed_records t)
unfolding program_store filled_to
laid_holds t =
    let laid = records_from 0 (packed_records t) in
    take_at laid (replicate (512 - length laid) zero_record) (length (packed_records t)) (count_from 0 (packed_records t))

-- Where the rows fill the bytes, the program's store is the packed table, and a reader sees the same of both.
module _ (t : List ℕ) (h : length t ≤ 16384) (f : rows_fill 0 t ≡ true) where
  abbrev laid_records : List Record
  laid_records = records_from 0 (packed_records t)

  fits : names_length (packed_rows t) ≤ 16384
  fits = omega (arith, h, packed_rows_fit t)

  inside : every (lies_inside t) (packed_records t) ≡ true
  inside = packed_inside t f

  -- the names lie in the area, one after the other
  area_is : drop 0 (program_store t).area ≡ joined (names (record_rows t (packed_records t))) ++ replicate (16384 - names_length (packed_rows t)) 0
  unfolding program_store filled_to
  area_is = ap (λ (rs : List Row). joined (names rs) ++ replicate (16384 - names_length (packed_rows t)) 0) (sym (packed_rows_are t))

  -- those whose readers pass a test mean the same rows
  rows_from : (q : ℕ → Bool) → record_rows (program_store t).area (keep (λ r. q r.readers) laid_records) ≡ record_rows t
      (keep (λ r. q r.readers) (packed_records t))
  rows_from q = rows_at q t (program_store t).area (packed_records t) 0 (replicate (16384 - names_length (packed_rows t)) 0) inside area_is

  pub filled_store_table : store_table (program_store t) ≡ packed_table t
  unfolding store_table record_table
  filled_store_table =
      rw (
        laid_holds t,
        le-leb (program_store t).count (length (program_store t).records) (program_counted t),
        parts_laid (program_store t).area laid_records laid,
      ) (ap some (rows_same ∙ packed_rows_are t) ∙ sym (packed_some t (omega (arith, h)) f))
    where
      laid : LaidParts (program_store t).area laid_records
      laid =
          record {
            small = omega (arith, program_area t fits);
            inside = inside_from t (program_store t).area 0 (packed_records t) inside
                (omega (arith, fits, program_area t fits, ap names_length (packed_rows_are t)));
            apart_all = all_apart_from 0 (packed_records t);
          }

      any : Record → Bool
      any r = true

      every_any : (rs : List Record) → every any rs ≡ true
      every_any rs = mem_every any rs (λ z m. refl)

      rows_same : record_rows (program_store t).area laid_records ≡ record_rows t (packed_records t)
      rows_same =
          ap (record_rows (program_store t).area) (sym (keep_all any laid_records (every_any laid_records)))
          ∙ rows_from (λ n. true)
          ∙ ap (record_rows t) (keep_all any (packed_records t) (every_any (packed_records t)))

  filled_store_seen : (reader : ℕ) → store_seen reader (program_store t) ≡ packed_seen reader t
  unfolding store_seen records_seen packed_seen store_table
  filled_store_seen reader =
      let visible-same : visible reader (program_store t).area (take (program_store t).count (program_store t).records) ≡ visible reader t
      (packed_records t)
      = ap (visible reader (program_store t).area) (laid_holds t) ∙ (unfold visible sees in rows_from (bit reader)) in
      λ i. seen (filled_store_table i) (visible-same i)

-- and so of a table that passes
module _ (t : List ℕ) (h : length t ≤ 16384) (p : passes (packed_table t) ≡ true) where
  pub program_holds : take (program_store t).count (program_store t).records ≡ records_from 0 (packed_records t)
  program_holds = laid_holds t

  pub program_store_table : store_table (program_store t) ≡ packed_table t
  program_store_table = filled_store_table t h (packed_parts t p).fills

  pub program_store_passes : passes (store_table (program_store t)) ≡ true
  program_store_passes = ap passes program_store_table ∙ p

  pub program_store_seen : (reader : ℕ) → store_seen reader (program_store t) ≡ packed_seen reader t
  program_store_seen = filled_store_seen t h (packed_parts t p).fills

-- its summary was counted first, and so agrees
pub program_agrees : (t : List ℕ) → agrees (program_summed t) ≡ true
unfolding program_summed
program_agrees t = counted_agrees (program_store t) (program_counted t)

-- So a reader's command is answered over the packed bytes as over the store with its summary.
module _ (reader : ℕ) (t : List ℕ) (h : length t ≤ 16384) (p : passes (packed_table t) ≡ true) (spaces l : List ℕ) where
  kept_seen_lem : kept_seen reader (bytes t) ≡ summed_seen reader (kept_summed (bytes t))
  unfolding kept_seen kept_summed program_summed counted_first
  kept_seen_lem = sym (seen_with (program_summed t) (program_agrees t) reader ∙ program_store_seen t h p reader)

  pub answered_over_store : answer (kept_seen reader (bytes t)) spaces l ≡ answer (summed_seen reader (kept_summed (bytes t))) spaces l
  answered_over_store = ap (λ (u : Table). answer u spaces l) kept_seen_lem

  pub command_over_bytes : (buffer : List ℕ) → length buffer ≡ 16384 →
      command_over reader (bytes t) spaces l ≡ summed_command reader (kept_summed (bytes t)) spaces l buffer
  unfolding command_over summed_command
  command_over_bytes buffer b = let room = sym b in λ i. summed_over reader (kept_summed (bytes t)) (kept_seen_lem i) spaces l (room i)

-- and over what is kept from the first accepted edit on
pub command_over_records : (reader : ℕ) (m : Summed) (spaces l buffer : List ℕ) → length buffer ≡ 16384 →
    command_over reader (records m) spaces l ≡ summed_command reader m spaces l buffer
unfolding command_over summed_command kept_seen kept_summed
command_over_records reader m spaces l buffer b = ap (λ (n : ℕ). summed_over reader m (summed_seen reader m) spaces l n) (sym b)
