-- The pass over the packed bytes: the row at a place, the loop's invariant, and what the pass answers. Rests on the laws of packed rows and
-- records in listing_rules, and on WordLaws.
use Rattle.std.specs.Prelude.{Option, Some, None}
use Rattle.listing_rules.proofs.Prelude.{◌∙◌, ◌≡◌, ap, refl, sym, Bool, ◌&&◌, and-false, cond, false, true, List, [], ◌++◌, ◌∷◌, append-nil, map, ◌%◌}
use Rattle.listing_rules.proofs.Prelude.{◌*◌, ◌+◌, ◌-◌, ◌<◌, ◌≤◌, min, suc, ℕ, add-zero, zero-add, add-one, arith, leb, drop, get_or, length}
use Rattle.listing_rules.proofs.Prelude.{length-drop, length-map, length-set, length-take, set, take, take_all, get_or-drop, append_snoc, drop-drop, drop-set-lt, take-suc-set, le-leb}
use Rattle.listing_rules.proofs.Prelude.{leb-false, leb-true, lt-leb}
use Rattle.listing_rules.specs.Table.{rows_fill, packed_table}
use Rattle.listing_rules.specs.Records.{Record, records_after, packed_records}
use Rattle.listing_rules.proofs.Bools.{and_l, and_r}
use Rattle.listing_rules.proofs.Passes.{packed_some, packed_none}
use Rattle.listing_rules.proofs.Rows.{at_end_lem, at_stub, at_bad, at_row}
use Rattle.listing_rules.proofs.RecordLaws.{packed_count}
use Rattle.listing_rules.proofs.RecordPlaces.{record_there, records_at, records_end}
use Rattle.mailbox_table.specs.declared.rows.Row.{Row}
use Rattle.mailbox_table.specs.Words.{word_of, Packs}
use Rattle.records.specs.Words.{cell_of, record_of}
use Rattle.mailbox_table.specs.Below.{with_marks}
use Rattle.mailbox_table.specs.Packed.{whole_there, row_there, step_at, has_room, unpacking_of, Splits}
use Rattle.mailbox_table.proofs.WordLaws.{record_word, row_cell}

-- the bytes from a place on, as the code reads them
module _ (t : List ℕ) (at : ℕ) where
  rest_whole : take (length t - at) (drop at t) ≡ drop at t
  rest_whole = take_all (length t - at) (drop at t) (omega (arith, length-drop at t))

  pub rest_length : length (take (length t - at) (drop at t)) ≡ length t - at
  rest_length = ap length rest_whole ∙ length-drop at t

  pub rest_at : (k : ℕ) → get_or (take (length t - at) (drop at t)) k 0 ≡ get_or t (at + k) 0
  rest_at k = ap (λ (l : List ℕ). get_or l k 0) rest_whole ∙ get_or-drop at t k 0

  -- and behind the four bytes before a name
  pub behind_length : length (take (length (take (length t - at) (drop at t)) - 4) (drop 4 (take (length t - at) (drop at t)))) ≡ length t - at - 4
  behind_length = simp (length-take, length-drop) (omega (arith, length-drop at t))

-- the row at a place, by the tests of the code
module _ (t : List ℕ) (at : ℕ) where
  pub step_stub : length t - at < 4 → step_at t at ≡ None
  unfolding step_at whole_there
  step_stub h = rw (lt-leb 4 (length t - at) h)

  pub step_short : length t - at - 4 < get_or t (at + 3) 0 → step_at t at ≡ None
  unfolding step_at whole_there
  step_short h = simp (lt-leb (get_or t (at + 3) 0) (length t - at - 4) h, and-false)

  pub step_whole : 4 ≤ length t - at → get_or t (at + 3) 0 ≤ length t - at - 4 → step_at t at ≡ Some (row_there t at)
  unfolding step_at whole_there
  step_whole h k = simp (le-leb 4 (length t - at) h, le-leb (get_or t (at + 3) 0) (length t - at - 4) k)

  -- the row that the code makes
  pub row_there_lem : {bits len : ℕ} → bits ≡ 256 * get_or t at 0 + get_or t (at + 1) 0 → len ≡ get_or t (at + 3) 0
      → record { flags = record { bits = bits }; start = at + 4; len = len; shared = 0 } ≡ row_there t at
  row_there_lem f l = λ i. record { flags = record { bits = f i }; start = at + 4; len = l i; shared = 0 }

  -- what a step says
  abbrev pub StepIs : Option Row → Type 0
  StepIs (Some r) = (r ≡ row_there t at) × (whole_there t at ≡ true)
  StepIs None = whole_there t at ≡ false

  pub step_is_lem : StepIs (step_at t at)
  unfolding step_at
  step_is_lem = go (whole_there t at) refl
    where
      go : (a : Bool) → whole_there t at ≡ a → StepIs (cond a (Some (row_there t at)) None)
      go true p = (refl, p)
      go false p = p

  whole_fits : whole_there t at ≡ true → (4 ≤ length t - at) × (get_or t (at + 3) 0 ≤ length t - at - 4)
  unfolding whole_there
  whole_fits w =
      let left = length t - at in
      let len = get_or t (at + 3) 0 in
      (leb-true 4 left (and_l (leb 4 left) (leb len (left - 4)) w), leb-true len (left - 4) (and_r (leb 4 left) (leb len (left - 4)) w))

-- the word of a row that begins at a place, with its readers
abbrev word_there : List ℕ → ℕ → Row → ℕ
word_there t at r = with_marks (get_or t (at + 2) 0) (word_of r)

-- a row that a step gives: where it lies, and what its word tells
module _ (t : List ℕ) (at : ℕ) (r : Row) (e : step_at t at ≡ Some r) where
  step_next : StepIs t at (Some r)
  step_next = rw e at (step_is_lem t at)

  pub step_inside : r.start + r.len ≤ length t
  step_inside = rw step_next.0 (omega (arith, whole_fits t at step_next.1))

  pub step_start : r.start ≡ at + 4
  step_start = rw step_next.0

  step_end : r.start + r.len ≡ at + 4 + get_or t (at + 3) 0
  step_end = rw step_next.0

  module _ (h : length t ≤ 32768) (b : (k : ℕ) → get_or t k 0 < 256) where
    pub step_packs : Packs r
    step_packs =
        rw step_next.0
        (record { start = omega (arith, whole_fits t at step_next.1); len = omega (arith, b (at + 3)); shared = omega arith })

    bits_fit : r.flags.bits < 65536
    bits_fit = rw step_next.0 (omega (arith, b at, b (at + 1)))

    -- to the last bit, the number of the record that stands there
    cell_there : word_there t at r ≡ cell_of (record_there t at)
    cell_there = row_cell (get_or t (at + 2) 0) r bits_fit step_packs (rw step_next.0) ∙ rw step_next.0

    word_there_lem : record_of (word_there t at r) ≡ record_there t at
    word_there_lem = record_word (get_or t (at + 2) 0) r bits_fit step_packs ∙ rw (step_next.0, readers)
      where
        readers : get_or t (at + 2) 0 % 256 ≡ get_or t (at + 2) 0
        readers = omega (arith, b (at + 2))

-- the bytes from a place on are rows, with room for them beside n rows
unfoldable pub splits : ℕ → ℕ → ℕ → List ℕ → Bool
splits limit n at t = rows_fill 0 (drop at t) && leb (n + length (records_after at 0 (drop at t))) limit

module _ (t : List ℕ) (limit n at : ℕ) where
  splits_end : length t ≤ at → n ≤ limit → splits limit n at t ≡ true
  unfolding splits
  splits_end h k = rw (at_end_lem t at h, records_end t at h, add-zero n, le-leb n limit k)

  module _ (h : at < length t) where
    splits_full : limit ≤ n → splits limit n at t ≡ false
    unfolding splits
    splits_full k =
        let more = records_after (at + 4 + get_or t (at + 3) 0) 0 (drop (at + 4 + get_or t (at + 3) 0) t) in
        rw (records_at t at h) (simp (lt-leb (n + suc (length more)) limit (omega arith), and-false))

    splits_bad : whole_there t at ≡ false → splits limit n at t ≡ false
    unfolding splits whole_there
    splits_bad e = go (leb 4 (length t - at)) refl e
      where
        go : (o : Bool) → leb 4 (length t - at) ≡ o → (o && leb (get_or t (at + 3) 0) (length t - at - 4)) ≡ false → splits limit n at t ≡ false
        go true p d = rw (at_bad t at (leb-true 4 (length t - at) p) (leb-false (get_or t (at + 3) 0) (length t - at - 4) d))
        go false p d = rw (at_stub t at h (leb-false 4 (length t - at) p))

    splits_next : whole_there t at ≡ true → splits limit n at t ≡ splits limit (n + 1) (at + 4 + get_or t (at + 3) 0) t
    unfolding splits
    splits_next w =
        let k = whole_fits t at w in
        let more = records_after (at + 4 + get_or t (at + 3) 0) 0 (drop (at + 4 + get_or t (at + 3) 0) t) in
        let e : n + suc (length more) ≡ n + 1 + length more = omega arith in
        rw (records_at t at h, at_row t at k.0 k.1, e)

-- The loop: n rows are kept as words, the words after them are as they were lent, the next row begins at `at`, and what is left decides.
pub record Splitting (t before : List ℕ) (limit : ℕ) (words : List ℕ) (n at : ℕ) : Type 0 where
  pub inside : at ≤ length t
  pub count : n ≤ limit
  pub size : length words ≡ length before
  pub later : drop n words ≡ drop n before
  pub left : splits limit n at t ≡ splits limit 0 0 t
  pub passed : packed_records t ≡ map record_of (take n words) ++ records_after at 0 (drop at t)
  pub cells : map cell_of (packed_records t) ≡ take n words ++ map cell_of (records_after at 0 (drop at t))

pub splitting_none : (t words : List ℕ) (limit : ℕ) → Splitting t words limit words 0 0
unfolding packed_records
splitting_none t words limit =
    record { inside = omega arith; count = omega arith; size = refl; later = refl; left = refl; passed = refl; cells = refl }

-- one word more
records_snoc : (ws : List ℕ) (w : ℕ) (rs : List Record) → map record_of (ws ++ w ∷ []) ++ rs ≡ map record_of ws ++ (record_of w ∷ rs)
records_snoc [] w rs = refl
records_snoc (v ∷ ws) w rs = ap (λ (l : List Record). record_of v ∷ l) (records_snoc ws w rs)

module _ {t before : List ℕ} {limit : ℕ} {words : List ℕ} {n at : ℕ} (c : Splitting t before limit words n at) where
  module _ (inside : at < length t) where
    pub splitting_full : limit ≤ n → splits limit 0 0 t ≡ false
    splitting_full h = sym c.left ∙ splits_full t limit n at inside h

    pub splitting_bad : step_at t at ≡ None → splits limit 0 0 t ≡ false
    splitting_bad e = sym c.left ∙ splits_bad t limit n at inside bad
      where
        bad : StepIs t at None
        bad = rw e at (step_is_lem t at)

    pub splitting_more : length t ≤ 32768 → ((k : ℕ) → get_or t k 0 < 256) → n < limit → limit ≤ length before → (r : Row) → step_at t at ≡ Some r
        → Splitting t before limit (set words n (word_there t at r)) (n + 1) (r.start + r.len)
    splitting_more h b k l r e =
        record {
          inside = step_inside t at r e;
          count = omega arith;
          size = length-set words n (word_there t at r) ∙ c.size;
          later =
              drop-set-lt (n + 1) words n (word_there t at r) (omega arith) ∙ sym (drop-drop 1 n words) ∙ ap (λ (l : List ℕ). drop 1 l) c.later ∙
              drop-drop 1 n before;
          left = rw (step_end t at r e) (sym (splits_next t limit n at inside (step_next t at r e).1) ∙ c.left);
          passed =
              rw (taken, step_end t at r e, records_snoc (take n words) (word_there t at r) (records_after (at + 4 + get_or t (at + 3) 0) 0 (drop (at + 4 + get_or t (at + 3) 0) t)), word_there_lem t at r e h b)
              (c.passed ∙ rw (records_at t at inside));
          cells =
              rw (
                taken,
                step_end t at r e,
                append_snoc (take n words) (word_there t at r) (map cell_of (records_after (at + 4 + get_or t (at + 3) 0) 0 (drop (at + 4 + get_or t (at + 3) 0) t))),
                cell_there t at r e h b,
              )
              (c.cells ∙ rw (records_at t at inside));
        }
      where
        taken : take (n + 1) (set words n (word_there t at r)) ≡ take n words ++ word_there t at r ∷ []
        taken = rw (add-one n) (take-suc-set words n (word_there t at r) (omega (arith, c.size)))

  splitting_done : length t ≤ at
      → (splits limit 0 0 t ≡ true) × (map record_of (take n words) ≡ packed_records t) × (take n words ≡ map cell_of (packed_records t))
  splitting_done h = (
    sym c.left ∙ splits_end t limit n at h c.count,
    sym (c.passed ∙ rw (records_end t at h) (append-nil (map record_of (take n words)))),
    sym (c.cells ∙ rw (records_end t at h) (append-nil (take n words))),
  )

-- what the pass answers
pub unpacking_long : (t : List ℕ) (room : ℕ) → 32768 < length t → unpacking_of t room ≡ None
unfolding unpacking_of has_room
unpacking_long t room h = rw (packed_none t (rw (lt-leb (length t) 32768 h)))

has_room_lem : (t : List ℕ) (room : ℕ) → length t ≤ 32768 → has_room (packed_table t) room ≡ splits (min room 512) 0 0 t
unfolding has_room splits packed_records
has_room_lem t room h = go (rows_fill 0 t) refl
  where
    go : (b : Bool) → rows_fill 0 t ≡ b → has_room (packed_table t) room ≡ (rows_fill 0 t && leb (0 + length (packed_records t)) (min room 512))
    go true e = rw (packed_some t h e, e, zero-add (length (packed_records t)), packed_count t)
    go false e = rw (packed_none t (rw (le-leb (length t) 32768 h, e)), e)

module _ {t before after : List ℕ} (limit : ℕ) (e : limit ≡ min (length before) 512) (h : length t ≤ 32768) where
  pub splits_fails : splits limit 0 0 t ≡ false → length after ≡ length before → Splits t before after None
  unfolding unpacking_of
  splits_fails d k = record { answer = rw (has_room_lem t (length before) h, ← e, d); room = k; records = tt; stays = tt }

  pub splits_rows : {n at : ℕ} → Splitting t before limit after n at → length t ≤ at → Splits t before after (Some n)
  unfolding unpacking_of
  splits_rows {n} c k =
      let w = splitting_done c k in
      let number : n ≡ length (packed_records t) = omega
      (arith, ap length w.1, length-map (take n after) record_of, length-take n after, c.size, c.count) in
      record
      { answer = rw (has_room_lem t (length before) h, ← e, w.0) (ap Some number); room = c.size; records = (number, w.1, w.2); stays = c.later }
