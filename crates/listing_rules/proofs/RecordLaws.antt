-- A packed table turned into records: its records mean its rows and pass where it passes, and every reader sees the same of both, so every
-- command and every walk is answered alike. Rests on Passes and Rows.
use Rattle.listing_rules.proofs.Prelude.{◌∙◌, ◌≡◌, ap, refl, sym, ◌||◌, false, false≢true, true, List, [], ◌∷◌, map, ◌*◌, ◌+◌, ◌≤◌, suc, zero}
use Rattle.listing_rules.proofs.Prelude.{ℕ, add-one, dec_le, arith, leb, drop, get_or, length, length-map, take, drop-drop, take-length, le-leb}
use Rattle.listing_rules.specs.Lists.{every}
use Rattle.listing_rules.specs.Table.{Table, rows, passes, row_at, rows_after, packed_rows, rows_fill, packed_table}
use Rattle.listing_rules.specs.Records.{Record, row_of, record_rows, lies_inside, apart, all_apart, laid_out, record_table, records_after}
use Rattle.listing_rules.specs.Records.{packed_records}
use Rattle.listing_rules.specs.Readers.{visible, seen, records_seen, packed_seen}
use Rattle.listing_rules.specs.Server.{served_to}
use Rattle.listing_rules.specs.Walk.{collected_by}
use Rattle.listing_rules.proofs.Bools.{and_i, or_l}
use Rattle.listing_rules.proofs.Passes.{packed_parts, packed_some}
use Rattle.listing_rules.proofs.Rows.{fills_short}

-- the record of the row whose first byte is h, at a place, with u after that byte
abbrev record_at : ℕ → ℕ → List ℕ → Record
record_at at h u = record { flags = 256 * h + get_or u 0 0; start = at + 4; len = get_or u 2 0; readers = get_or u 1 0 }

-- the bytes after a place, where the place's own byte is known
next_drop : (t : List ℕ) (at h : ℕ) (u : List ℕ) → drop at t ≡ h ∷ u → drop (suc at) t ≡ u
next_drop t at h u e = rw (← add-one at) (sym (drop-drop 1 at t) ∙ ap (λ (l : List ℕ). drop 1 l) e)

-- a record means the row that stands there
row_is : (t : List ℕ) (at h : ℕ) (u : List ℕ) → drop at t ≡ h ∷ u → row_of t (record_at at h u) ≡ row_at h u
unfolding row_of row_at
row_is t at h u e = λ i. record { flags = 256 * h + get_or u 0 0; name = take (get_or u 2 0) (bytes i) }
  where
    bytes : drop (at + 4) t ≡ drop 3 u
    bytes = sym (drop-drop 4 at t) ∙ ap (λ (l : List ℕ). drop 4 l) e

-- the records mean the rows
rows_after_lem : (t : List ℕ) (u : List ℕ) (at skip : ℕ) → drop at t ≡ u → map (row_of t) (records_after at skip u) ≡ rows_after skip u
unfolding records_after rows_after
rows_after_lem t [] at skip e = refl
rows_after_lem t (h ∷ u) at zero e =
    let first = row_is t at h u e in
    let rest = rows_after_lem t u (suc at) (suc (suc (suc (get_or u 2 0)))) (next_drop t at h u e) in
    λ i. first i ∷ rest i
rows_after_lem t (h ∷ u) at (suc k) e = rows_after_lem t u (suc at) k (next_drop t at h u e)

pub packed_rows_are : (t : List ℕ) → record_rows t (packed_records t) ≡ packed_rows t
unfolding record_rows packed_records packed_rows
packed_rows_are t = rows_after_lem t t 0 0 refl

-- "Names lie inside the area": rows that fill the bytes do not run past their end
long_enough : (k : ℕ) (u : List ℕ) → rows_fill k u ≡ true → k ≤ length u
long_enough k u e = go (dec_le k (length u))
  where
    go : Dec (k ≤ length u) → k ≤ length u
    go (yes h) = h
    go (no h) = absurd (false≢true (sym (fills_short k u (omega arith)) ∙ e))

inside_after : (t : List ℕ) (u : List ℕ) (at skip : ℕ) → length t ≡ at + length u → rows_fill skip u ≡ true →
    every (lies_inside t) (records_after at skip u) ≡ true
unfolding records_after rows_fill every lies_inside
inside_after t [] at skip l e = refl
inside_after t (h ∷ u) at zero l e =
    and_i (leb (at + 4 + get_or u 2 0) (length t)) _
    (le-leb (at + 4 + get_or u 2 0) (length t) (omega (arith, l, long_enough (suc (suc (suc (get_or u 2 0)))) u e)))
    (inside_after t u (suc at) (suc (suc (suc (get_or u 2 0)))) (omega (arith, l)) e)
inside_after t (h ∷ u) at (suc k) l e = inside_after t u (suc at) k (omega (arith, l)) e

-- "without overlap": each name ends before the next begins
apart_after : (r : Record) (u : List ℕ) (at skip : ℕ) → r.start + r.len ≤ at + skip → every (apart r) (records_after at skip u) ≡ true
unfolding records_after every apart
apart_after r [] at skip h = refl
apart_after r (x ∷ u) at zero h =
    and_i (leb (r.start + r.len) (at + 4) || leb (at + 4 + get_or u 2 0) r.start) _
    (or_l (leb (r.start + r.len) (at + 4)) (leb (at + 4 + get_or u 2 0) r.start) (le-leb (r.start + r.len) (at + 4) (omega arith)))
    (apart_after r u (suc at) (suc (suc (suc (get_or u 2 0)))) (omega arith))
apart_after r (x ∷ u) at (suc k) h = apart_after r u (suc at) k (omega arith)

all_apart_after : (u : List ℕ) (at skip : ℕ) → all_apart (records_after at skip u) ≡ true
unfolding records_after all_apart
all_apart_after [] at skip = refl
all_apart_after (h ∷ u) at zero =
    and_i (every (apart (record_at at h u)) (records_after (suc at) (suc (suc (suc (get_or u 2 0)))) u))
    (all_apart (records_after (suc at) (suc (suc (suc (get_or u 2 0)))) u))
    (apart_after (record_at at h u) u (suc at) (suc (suc (suc (get_or u 2 0)))) (omega arith))
    (all_apart_after u (suc at) (suc (suc (suc (get_or u 2 0)))))
all_apart_after (h ∷ u) at (suc k) = all_apart_after u (suc at) k

pub packed_apart : (t : List ℕ) → all_apart (packed_records t) ≡ true
unfolding packed_records
packed_apart t = all_apart_after t 0 0

pub packed_inside : (t : List ℕ) → rows_fill 0 t ≡ true → every (lies_inside t) (packed_records t) ≡ true
unfolding packed_records
packed_inside t e = inside_after t t 0 0 (omega arith) e

pub packed_count : (t : List ℕ) → length (packed_records t) ≡ length (packed_rows t)
unfolding record_rows
packed_count t = sym (length-map (packed_records t) (row_of t)) ∙ ap length (packed_rows_are t)

-- bytes that hold rows hold them as records, too
pub records_of_packed : (t : List ℕ) → length t ≤ 32768 → rows_fill 0 t ≡ true →
    record_table t (packed_records t) (length (packed_records t)) ≡ packed_table t
unfolding record_table laid_out
records_of_packed t h e =
    rw (
      take-length (packed_records t),
      le-leb (length (packed_records t)) (length (packed_records t)) (omega arith),
      le-leb (length t) 32768 h,
      packed_inside t e,
      packed_apart t,
      packed_some t h e,
      packed_rows_are t,
    )

-- and a reader sees the same of both
pub records_seen_packed : (reader : ℕ) (t : List ℕ) → length t ≤ 32768 → rows_fill 0 t ≡ true →
    records_seen reader t (packed_records t) (length (packed_records t)) ≡ packed_seen reader t
unfolding records_seen packed_seen
records_seen_packed reader t h e =
    let all = records_of_packed t h e in
    let held = take-length (packed_records t) in
    λ i. seen (all i) (visible reader t (held i))

-- Law of W4: "For every packed table that passes and its records, every command gives the same bytes and number", and every walk; for every
-- reader.
pub record AnsweredAlike (t : List ℕ) : Type 0 where
  pub both_pass : passes (record_table t (packed_records t) (length (packed_records t))) ≡ passes (packed_table t)
  pub rows_same : rows (record_table t (packed_records t) (length (packed_records t))) ≡ rows (packed_table t)
  pub seen_same : (reader : ℕ) → records_seen reader t (packed_records t) (length (packed_records t)) ≡ packed_seen reader t
  pub commands : (reader : ℕ) (spaces line buffer : List ℕ)
      → served_to reader (records_seen reader t (packed_records t) (length (packed_records t))) spaces line buffer ≡ served_to reader (packed_seen reader t)
      spaces line buffer
  pub walks : (reader o : ℕ) (scratch found pending : List ℕ)
      → collected_by reader (records_seen reader t (packed_records t) (length (packed_records t))) o scratch found pending ≡ collected_by reader
      (packed_seen reader t) o scratch found pending

pub packed_as_records : (t : List ℕ) → passes (packed_table t) ≡ true → AnsweredAlike t
packed_as_records t h =
    record {
      both_pass = ap passes all;
      rows_same = ap rows all;
      seen_same = seen_same;
      commands = λ reader spaces line buffer. ap (λ (x : Table). served_to reader x spaces line buffer) (seen_same reader);
      walks = λ reader o scratch found pending. ap (λ (x : Table). collected_by reader x o scratch found pending) (seen_same reader);
    }
  where
    all : record_table t (packed_records t) (length (packed_records t)) ≡ packed_table t
    all = let p = packed_parts t h in records_of_packed t p.size p.fills

    seen_same : (reader : ℕ) → records_seen reader t (packed_records t) (length (packed_records t)) ≡ packed_seen reader t
    seen_same reader = let p = packed_parts t h in records_seen_packed reader t p.size p.fills
