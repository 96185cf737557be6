-- Check 1 and the index, of packed bytes and of words: each way through the passes. Rests on PassLaws, and on the laws of packed tables
-- and their records in listing_rules.
use Rattle.std.specs.Prelude.{Option, Some, None}
use Rattle.listing_rules.proofs.Prelude.{◌∙◌, ◌≡◌, ap, refl, sym, Bool, ◌&&◌, and-false, cond, false, false≢true, true, none, some, List, [], ◌++◌}
use Rattle.listing_rules.proofs.Prelude.{map, ◌<◌, ◌≤◌, min, ℕ, dec_le, arith, leb, drop, length, length-append, length-drop, length-map}
use Rattle.listing_rules.proofs.Prelude.{take, drop_at, length-take-le, take_at, le-leb, leb-false, leb-true, lt-leb}
use Rattle.listing_rules.specs.Lists.{every}
use Rattle.listing_rules.specs.Table.{Table, Row, rows, passes, rows_pass, rows_fill, packed_rows, packed_table}
use Rattle.listing_rules.specs.Records.{Record, record_rows, lies_inside, all_apart, laid_out, record_table, packed_records}
use Rattle.listing_rules.proofs.Bools.{and_l, and_r}
use Rattle.listing_rules.proofs.ListLaws.{map_take}
use Rattle.listing_rules.proofs.Passes.{rows_parts, packed_some}
use Rattle.listing_rules.proofs.RecordLaws.{packed_rows_are, packed_inside, packed_count}
use Rattle.records.specs.Words.{cell_of, record_of}
use Rattle.records.specs.Lent.{word_table}
use Rattle.mailbox_table.specs.Index.{rows_at, linked_words, indexing_of}
use Rattle.mailbox_table.specs.Packed.{has_room, unpacking_of, Splits}
use Rattle.mailbox_table.specs.Link.{Links, Same, words_pass}
use Rattle.mailbox_table.specs.Find.{Finds}
use Rattle.mailbox_table.proofs.AnswerLaws.{rows_decided, fails_decided}
use Rattle.mailbox_table.proofs.WordLaws.{rows_records}
use Rattle.mailbox_table.proofs.IndexLaws.{rows_length}

-- what an index answers of rows, and of none
module _ (room : ℕ) where
  indexing_none : indexing_of none room ≡ None
  unfolding indexing_of passes
  indexing_none = refl

  indexing_bad : (rs : List Row) → rows_pass rs ≡ false → indexing_of (some rs) room ≡ None
  unfolding indexing_of passes
  indexing_bad rs e = rw e

  indexing_rows : (rs : List Row) → rows_pass rs ≡ true → length rs ≤ room → indexing_of (some rs) room ≡ Some (length rs)
  unfolding indexing_of passes rows
  indexing_rows rs e h = rw (e, le-leb (length rs) room h)

  indexing_full : (rs : List Row) → min room 512 < length rs → indexing_of (some rs) room ≡ None
  unfolding indexing_of passes rows
  indexing_full rs h = go (rows_pass rs) (leb (length rs) room) refl refl
    where
      go : (a b : Bool) → rows_pass rs ≡ a → leb (length rs) room ≡ b → cond (rows_pass rs && leb (length rs) room) (Some (length rs)) None ≡ None
      go false b x y = rw x
      go true false x y = rw (x, y)
      go true true x y =
          let few = (rows_parts rs x).few in
          let k : length rs ≤ room = leb-true (length rs) room y in
          absurd (omega arith)

  -- packed bytes without rows, or with more than there is room for
  indexing_no_room : (t : Table) → has_room t room ≡ false → indexing_of t room ≡ None
  unfolding has_room
  indexing_no_room none e = indexing_none
  indexing_no_room (some rs) e = indexing_full rs (leb-false (length rs) (min room 512) e)

-- a table with room for its records has rows: they fill its bytes, which are not too many
roomy_fills : (t : List ℕ) (room : ℕ) → has_room (packed_table t) room ≡ true
    → (length t ≤ 32768) × (rows_fill 0 t ≡ true) × (length (packed_rows t) ≤ min room 512)
unfolding has_room packed_table
roomy_fills t room h = go (leb (length t) 32768) (rows_fill 0 t) refl refl
  where
    go : (a b : Bool) → leb (length t) 32768 ≡ a → rows_fill 0 t ≡ b →
        (length t ≤ 32768) × (rows_fill 0 t ≡ true) × (length (packed_rows t) ≤ min room 512)
    go true true e f = (leb-true (length t) 32768 e, f, leb-true (length (packed_rows t)) (min room 512) (rw (e, f) at h))
    go true false e f = absurd (false≢true (rw (e, f) at h))
    go false b e f = absurd (false≢true (rw e at h))

-- bytes that were turned into n records
pub record Split (t before after : List ℕ) (n : ℕ) : Type 0 where
  pub table : packed_table t ≡ some (packed_rows t)
  pub inside : every (lies_inside t) (packed_records t) ≡ true
  pub number : n ≡ length (packed_rows t)
  pub records : map record_of (take n after) ≡ packed_records t
  pub cells : take n after ≡ map cell_of (packed_records t)
  pub few : n ≤ 512
  pub fits : n ≤ length after
  pub room : length after ≡ length before
  pub stays : drop n after ≡ drop n before

pub split : {t before after : List ℕ} {r : Option ℕ} {n : ℕ} → Splits t before after r → r ≡ Some n → Split t before after n
unfolding unpacking_of
split {t} {before} {after} {r} {n} known e =
    record {
      table = packed_some t size.0 size.1;
      inside = packed_inside t size.1;
      number = s.records.0 ∙ packed_count t;
      records = s.records.1;
      cells = s.records.2;
      few = omega (arith, s.records.0, packed_count t, size.2);
      fits = omega (arith, s.records.0, packed_count t, size.2, s.room);
      room = s.room;
      stays = s.stays;
    }
  where
    s : Splits t before after (Some n)
    s = rw e at known

    has : has_room (packed_table t) (length before) ≡ true
    has = (rows_decided (has_room (packed_table t) (length before)) (length (packed_records t)) n s.answer).0

    size : (length t ≤ 32768) × (rows_fill 0 t ≡ true) × (length (packed_rows t) ≤ min (length before) 512)
    size = roomy_fills t (length before) has

-- the index of packed bytes
pub finds_no_room : {t before after : List ℕ} {r : Option ℕ} → Splits t before after r → r ≡ None →
    Finds t (packed_table t) (packed_records t) (map cell_of (packed_records t)) before after None
unfolding unpacking_of
finds_no_room {t} {before} {after} {r} s e =
    record {
      answer =
          sym (indexing_no_room (length before) (packed_table t)
          (fails_decided (has_room (packed_table t) (length before)) (length (packed_records t)) (sym e ∙ s.answer)));
      room = s.room;
      found = tt;
      stays = tt;
    }

module _ {t before middle : List ℕ} {n : ℕ} (s : Split t before middle n) where
  split_rows : rows_at t (take n middle) ≡ packed_rows t
  split_rows = rw (rows_records t (take n middle), s.records) (packed_rows_are t)

  split_length : length (take n middle) ≡ n
  split_length = length-take-le n middle s.fits

  split_passes : words_pass t (take n middle) ≡ rows_pass (packed_rows t)
  split_passes = rw (s.records, s.inside, split_rows)

  whole_length : (p : List ℕ) → length p ≡ length (take n middle) → length (p ++ drop n middle) ≡ length before
  whole_length p e = length-append p (drop n middle) ∙ omega (arith, split_length, length-drop n middle, s.fits, s.room)

  module _ {part : List ℕ} {r : Bool} (l : Links t (take n middle) part (words_pass t (take n middle)) r) where
    pub finds_bad : r ≡ false →
        Finds t (packed_table t) (packed_records t) (map cell_of (packed_records t)) before (part ++ drop n middle) None
    finds_bad e =
        record {
          answer = sym (rw s.table (indexing_bad (length before) (packed_rows t) (sym split_passes ∙ sym l.answer ∙ e)));
          room = whole_length part l.room;
          found = tt;
          stays = tt;
        }

    pub finds_rows : r ≡ true →
        Finds t (packed_table t) (packed_records t) (map cell_of (packed_records t)) before (part ++ drop n middle) (Some n)
    unfolding rows
    finds_rows e =
        record {
          answer =
              sym (rw s.table (indexing_rows (length before) (packed_rows t) (sym split_passes ∙ sym l.answer ∙ e)
              (omega (arith, s.number, s.fits, s.room))) ∙ ap Some (sym s.number));
          room = whole_length part l.room;
          found = rw (s.table, front) (s.number, same_rows, good.1, good.0 ∙ s.records, good.2 ∙ ap (linked_words t []) s.cells);
          stays = drop_at part (drop n middle) n (l.room ∙ split_length) ∙ s.stays;
        }
      where
        good : Same t (take n middle) part true
        good = rw e at l.same

        front : take n (part ++ drop n middle) ≡ part
        front = take_at part (drop n middle) n (l.room ∙ split_length)

        same_rows : rows_at t part ≡ packed_rows t
        same_rows = rw (rows_records t part, good.0, ← rows_records t (take n middle)) split_rows

-- the index of words: a table that is none
module _ (area raw : List ℕ) (count room : ℕ) where
  pub words_long : 32768 < length area → indexing_of (word_table area raw count) room ≡ None
  unfolding record_table laid_out
  words_long h = simp (lt-leb (length area) 32768 h, and-false) (indexing_none room)

  few_raw : length raw < count → indexing_of (word_table area raw count) room ≡ None
  unfolding record_table
  few_raw h = rw (length-map raw record_of, lt-leb count (length raw) h) (indexing_none room)

  -- a count that there is no room for, or that is above the rows of a table
  held_rows : count ≤ length raw → (b : Bool) → min room 512 < count →
      indexing_of (cond b (some (record_rows area (take count (map record_of raw)))) none) room ≡ None
  held_rows g false h = indexing_none room
  held_rows g true h = indexing_full room (record_rows area (take count (map record_of raw))) (omega (arith, held_length))
    where
      held_length : length (record_rows area (take count (map record_of raw))) ≡ count
      held_length =
          rw (← map_take record_of count raw, ← rows_records area (take count raw)) (rows_length area (take count raw) ∙ length-take-le count raw g)

  pub words_many : min (min (length raw) room) 512 < count → indexing_of (word_table area raw count) room ≡ None
  unfolding record_table
  words_many h = go (dec_le count (length raw))
    where
      go : Dec (count ≤ length raw) → indexing_of (word_table area raw count) room ≡ None
      go (yes g) = held_rows g (leb count (length (map record_of raw)) && laid_out area (take count (map record_of raw))) (omega arith)
      go (no g) = few_raw (omega arith)

-- words that were copied, as many as there is room for
pub record Copies (area raw before : List ℕ) (count : ℕ) (middle : List ℕ) : Type 0 where
  pub long : length area ≤ 32768
  pub many : count ≤ min (min (length raw) (length before)) 512
  pub copy : middle ≡ take count raw ++ drop count before

abbrev held : List ℕ → ℕ → List Record
held raw count = map record_of (take count raw)

module _ {area raw before : List ℕ} {count : ℕ} {middle : List ℕ} (x : Copies area raw before count middle) where
  held_length : length (take count raw) ≡ count
  held_length = length-take-le count raw (omega (arith, x.many))

  rows_number : length (rows_at area (take count raw)) ≡ count
  rows_number = rows_length area (take count raw) ∙ held_length

  copied_front : take count middle ≡ take count raw
  copied_front = rw x.copy (take_at (take count raw) (drop count before) count held_length)

  copied_rest : drop count middle ≡ drop count before
  copied_rest = rw x.copy (drop_at (take count raw) (drop count before) count held_length)

  -- the table, by where its names lie
  words_table_lem : word_table area raw count ≡ cond (every (lies_inside area) (held raw count) && all_apart (held raw count))
      (some (rows_at area (take count raw))) none
  unfolding record_table laid_out
  words_table_lem =
      rw (
        length-map raw record_of,
        le-leb count (length raw) (omega (arith, x.many)),
        le-leb (length area) 32768 x.long,
        ← map_take record_of count raw,
        rows_records area (take count raw),
      )

  not_passing : words_pass area (take count raw) ≡ false → indexing_of (word_table area raw count) (length before) ≡ None
  not_passing e = rw words_table_lem (go (every (lies_inside area) (held raw count)) (all_apart (held raw count)) refl e)
    where
      go : (a b : Bool) → every (lies_inside area) (held raw count) ≡ a →
          (every (lies_inside area) (held raw count) && rows_pass (rows_at area (take count raw))) ≡ false
          → indexing_of (cond (a && b) (some (rows_at area (take count raw))) none) (length before) ≡ None
      go false b y d = indexing_none (length before)
      go true false y d = indexing_none (length before)
      go true true y d = indexing_bad (length before) (rows_at area (take count raw)) (rw y at d)

  overlapping : all_apart (held raw count) ≡ false → indexing_of (word_table area raw count) (length before) ≡ None
  overlapping e = rw words_table_lem (simp (e, and-false) (indexing_none (length before)))

  passing : words_pass area (take count raw) ≡ true → all_apart (held raw count) ≡ true → word_table area raw count ≡ some (rows_at area (take count raw))
  passing e d = words_table_lem ∙ rw (and_l (every (lies_inside area) (held raw count)) (rows_pass (rows_at area (take count raw))) e, d)

  -- the words with what the passes left at their front
  module _ {part : List ℕ} {r : Bool} (l : Links area (take count middle) part (words_pass area (take count middle)) r) where
    part_length : length part ≡ count
    part_length = l.room ∙ ap length copied_front ∙ held_length

    pub words_front : take count (part ++ drop count middle) ≡ part
    words_front = take_at part (drop count middle) count part_length

    pub words_room : length (part ++ drop count middle) ≡ length before
    words_room = length-append part (drop count middle) ∙ omega (arith, part_length, ap length copied_rest, length-drop count before, x.many)

    fails : indexing_of (word_table area raw count) (length before) ≡ None →
        Finds area (word_table area raw count) (take count (map record_of raw)) (take count raw) before (part ++ drop count middle) None
    fails e = record { answer = sym e; room = words_room; found = tt; stays = tt }

  module _ {part : List ℕ} where
    pub words_bad : Links area (take count middle) part (words_pass area (take count middle)) false →
        Finds area (word_table area raw count) (take count (map record_of raw)) (take count raw) before (part ++ drop count middle) None
    words_bad l = fails l (not_passing (rw copied_front at (sym l.answer)))

    module _ (l : Links area (take count middle) part (words_pass area (take count middle)) true) where
      part_records : map record_of part ≡ held raw count
      part_records = l.same.0 ∙ ap (map record_of) copied_front

      pub words_overlap : all_apart (map record_of part) ≡ false →
          Finds area (word_table area raw count) (take count (map record_of raw)) (take count raw) before (part ++ drop count middle) None
      words_overlap e = fails l (overlapping (rw part_records at e))

      pub words_rows : all_apart (map record_of part) ≡ true →
          Finds area (word_table area raw count) (take count (map record_of raw)) (take count raw) before (part ++ drop count middle) (Some count)
      unfolding rows
      words_rows e =
          record {
            answer =
                sym (rw table (indexing_rows (length before) (rows_at area (take count raw)) rows_pass_lem (omega (arith, rows_number, x.many))) ∙ ap Some
                rows_number);
            room = words_room l;
            found = rw (table, words_front l) (sym rows_number, same_rows, l.same.1, part_records ∙ map_take record_of count raw, part_cells);
            stays = drop_at part (drop count middle) count (part_length l) ∙ copied_rest;
          }
        where
          passed : words_pass area (take count raw) ≡ true
          passed = rw copied_front at (sym l.answer)

          rows_pass_lem : rows_pass (rows_at area (take count raw)) ≡ true
          rows_pass_lem = and_r (every (lies_inside area) (held raw count)) (rows_pass (rows_at area (take count raw))) passed

          table : word_table area raw count ≡ some (rows_at area (take count raw))
          table = passing passed (rw part_records at e)

          part_cells : part ≡ linked_words area [] (take count raw)
          part_cells = l.same.2 ∙ ap (linked_words area []) copied_front

          same_rows : rows_at area part ≡ rows_at area (take count raw)
          same_rows = rw (rows_records area part, part_records, ← rows_records area (take count raw))
