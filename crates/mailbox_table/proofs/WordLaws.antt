-- A row's number tells the row and its record, with marks or readers above it too, and a name that is clamped to its area is the name. Rests on the library alone.
use Rattle.listing_rules.proofs.Prelude.{◌∙◌, ◌≡◌, ap, refl, sym, List, [], ◌∷◌, map, ◌%◌, ◌*◌, ◌+◌, ◌/◌, ◌<◌, ℕ, arith}
use Rattle.listing_rules.specs.Table as Table
use Rattle.listing_rules.specs.Records.{row_of, record_rows}
use Rattle.mailbox_table.specs.declared.rows.Row.{Row}
use Rattle.mailbox_table.specs.Words.{word_of, row_of_word, with_shared, Packs}
use Rattle.records.specs.Words.{cell_of, record_of}
use Rattle.mailbox_table.specs.Below.{marks_of, with_marks}
use Rattle.mailbox_table.specs.Index.{name_at, row_at_word, rows_at}

pub row_word : (r : Row) → r.flags.bits < 65536 → Packs r → row_of_word (word_of r) ≡ r
unfolding word_of row_of_word
row_word r h p = λ i. record { flags = record { bits = bits_are i }; start = start_is_lem i; len = len_is i; shared = shared_is i }
  where
    bits_are : word_of r % 65536 ≡ r.flags.bits
    bits_are = omega arith

    start_is_lem : word_of r / 65536 % 65536 ≡ r.start
    start_is_lem = omega arith

    len_is : word_of r / 4294967296 % 256 ≡ r.len
    len_is = omega arith

    shared_is : word_of r / 1099511627776 % 256 ≡ r.shared
    shared_is = omega arith

-- a marked word has its marks, and tells its row
pub marks_with : (m w : ℕ) → m < 65536 → marks_of (with_marks m w) ≡ m
unfolding marks_of with_marks
marks_with m w h = omega arith

pub row_with : (m w : ℕ) → row_of_word (with_marks m w) ≡ row_of_word w
unfolding row_of_word with_marks
row_with m w = λ i. record { flags = record { bits = flags i }; start = start i; len = size i; shared = shared i }
  where
    v : ℕ
    v = with_marks m w

    flags : v % 65536 ≡ w % 65536
    flags = omega arith

    start : v / 65536 % 65536 ≡ w / 65536 % 65536
    start = omega arith

    size : v / 4294967296 % 256 ≡ w / 4294967296 % 256
    size = omega arith

    shared : v / 1099511627776 % 256 ≡ w / 1099511627776 % 256
    shared = omega arith

-- what a word tells of a record is what it tells of a row, and the readers above it
pub record_row : (w : ℕ) → record_of w ≡ record
    { flags = (row_of_word w).flags.bits; start = (row_of_word w).start; len = (row_of_word w).len; readers = (record_of w).readers }
unfolding record_of row_of_word
record_row w = refl

pub record_word : (m : ℕ) (r : Row) → r.flags.bits < 65536 → Packs r
    → record_of (with_marks m (word_of r)) ≡ record { flags = r.flags.bits; start = r.start; len = r.len; readers = m % 256 }
unfolding record_of with_marks
record_word m r h p =
    let e = row_with m (word_of r) ∙ row_word r h p in
    let readers : with_marks m (word_of r) / 281474976710656 % 256 ≡ m % 256 = omega arith in
    record_row (with_marks m (word_of r)) ∙ (λ i. record { flags = (e i).flags.bits; start = (e i).start; len = (e i).len; readers = readers i })

-- a word by its parts, where another number of bytes is shared
pub shared_parts : (n w : ℕ) → n < 256 → with_shared n w ≡ w % 1099511627776 + 1099511627776 * n + 281474976710656 * (w / 281474976710656)
unfolding with_shared row_of_word
shared_parts n w h = omega arith

start_part : (w : ℕ) → w % 65536 + 65536 * (w / 65536 % 65536) ≡ w % 4294967296
start_part w = omega arith

len_part : (w : ℕ) → w % 4294967296 + 4294967296 * (w / 4294967296 % 256) ≡ w % 1099511627776
len_part w = omega arith

front_parts : (w : ℕ) → w % 65536 + 65536 * (w / 65536 % 65536) + 4294967296 * (w / 4294967296 % 256) ≡ w % 1099511627776
front_parts w = ap (λ (v : ℕ). v + 4294967296 * (w / 4294967296 % 256)) (start_part w) ∙ len_part w

sum_parts : (front n top : ℕ) → front < 1099511627776 → n < 256 → top < 65536 →
    (front + 1099511627776 * n) % 281474976710656 + 281474976710656 * (top % 65536) ≡ front + 1099511627776 * n + 281474976710656 * top
sum_parts front n top f h t = omega arith

-- the row of a word with another number of shared bytes, and what stood above the row: the word with that number, to the last bit
pub marks_shared : (n w : ℕ) → n < 256 → w < 18446744073709551616 →
    with_marks (marks_of w) (word_of (record { flags = (row_of_word w).flags; start = (row_of_word w).start; len = (row_of_word w).len; shared = n }))
    ≡ with_shared n w
unfolding marks_of with_marks word_of row_of_word
marks_shared n w h g =
    ap (λ (v : ℕ). v % 281474976710656 + 281474976710656 * (w / 281474976710656 % 65536)) (ap (λ (v : ℕ). v + 1099511627776 * n) (front_parts w))
    ∙ sum_parts (w % 1099511627776) n (w / 281474976710656) (omega arith) h (omega arith)
    ∙ sym (shared_parts n w h)

-- the word of a row that shares nothing, with readers above it, is the number of its record
pub row_cell : (m : ℕ) (r : Row) → r.flags.bits < 65536 → Packs r → r.shared ≡ 0 →
    with_marks m (word_of r) ≡ cell_of (record { flags = r.flags.bits; start = r.start; len = r.len; readers = m })
unfolding with_marks word_of cell_of
row_cell m r h p e = omega (arith, e, p.start, p.len)

-- the readers of a word are the low half of what stands above its row
pub marks_readers : (w : ℕ) → marks_of w % 256 ≡ (record_of w).readers
unfolding marks_of record_of
marks_readers w = omega arith

-- a word tells numbers of its widths
pub flags_fit : (w : ℕ) → (row_of_word w).flags.bits < 65536
unfolding row_of_word
flags_fit w = omega arith

pub place_fits : (w : ℕ) → ((row_of_word w).start < 65536) × ((row_of_word w).len < 256)
unfolding row_of_word
place_fits w = (omega arith, omega arith)

-- the rows of words are those of their records
pub rows_records : (area ws : List ℕ) → rows_at area ws ≡ record_rows area (map record_of ws)
unfolding record_rows row_of record_of row_of_word name_at
rows_records area [] = refl
rows_records area (w ∷ ws) = ap (λ (rs : List Table.Row). row_at_word area w ∷ rs) (rows_records area ws)
