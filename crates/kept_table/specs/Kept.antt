-- What is kept in lent memory between two frames, and what one frame leaves there.
use Rattle.std.specs.Prelude.{◌≡◌, List, map, ◌++◌, Bool, true, false, cond, ◌&&◌, leb, length, take, drop, ℕ, ◌≤◌}
use Rattle.std.proofs.lemmas.List.Edits.{sets}
use Rattle.listing_rules.specs.Frames.{Kept, bytes, records, Stored, Stepped}
use Rattle.listing_rules.specs.Summary.{Summed}
use Rattle.records.specs.Numbers.{summary_of}
use Rattle.records.specs.Lent.{word_store}
use Rattle.kept_table.specs.declared.Lengths.{Lengths}
use Rattle.kept_table.specs.declared.outcome.Outcome.{Outcome}

-- what is lent: bytes for the table, numbers for its records and their summary, bytes for the namespace list and for a line of output
pub record Lent : Type 0 where
  pub table : List ℕ
  pub records : List ℕ
  pub namespaces : List ℕ
  pub out : List ℕ

abbrev pub lent : List ℕ → List ℕ → List ℕ → List ℕ → Lent
lent t w n o = record { table = t; records = w; namespaces = n; out = o }

-- The records of the first 512 numbers over the first 16,384 bytes of the area, the first so many of them rows; the next 512 numbers are their summary.
abbrev pub summed_in : ℕ → List ℕ → List ℕ → Summed
summed_in n table numbers =
    record { store = word_store numbers 512 n (take 16384 table); summary = map summary_of (take 512 (drop 512 numbers)) }

-- the numbers once these words and this summary stand there
abbrev pub numbers_with : List ℕ → List ℕ → List ℕ → List ℕ
numbers_with words sums numbers = words ++ (sums ++ drop 1024 numbers)

-- What is kept of the table: the first bytes of its area, or, once an edit was accepted, the records with their summary.
abbrev pub kept_as : Bool → ℕ → List ℕ → List ℕ → Kept
kept_as false n table words = bytes (take n table)
kept_as true n table words = records (summed_in n table words)

abbrev pub kept_of : Lengths → List ℕ → List ℕ → Kept
kept_of n table words = kept_as n.edited n.table table words

abbrev pub kept_in : Lent → Lengths → Kept
kept_in d n = kept_of n d.table d.records

-- what is stored: that, and the first bytes of the namespace list's area
abbrev pub stored_in : Lent → Lengths → Stored
stored_in d n = record { table = kept_in d n; namespaces = take n.namespaces d.namespaces }

-- how many bytes of the table's area what is kept takes up
abbrev pub reach : Lengths → ℕ
reach n = cond n.edited 16384 n.table

-- no more is kept than document 01 allows, 16,384 bytes, for which the area has room, as it has for as many bytes of names; and there
-- are numbers for 512 records and their summary
pub record Held (n : Lengths) (t w : List ℕ) : Type 0 where
  pub rows : n.table ≤ 16384
  pub table : 16384 ≤ length t
  pub records : 1024 ≤ length w

-- the same of the namespace list, of which 1,024 bytes are stored at most
pub record Within (n : Lengths) (t w m : List ℕ) : Type 0 where
  pub held : Held n t w
  pub entries : n.namespaces ≤ 1024
  pub namespaces : 1024 ≤ length m

-- The same as tests, in the same order: first by the size of the table's area and of the numbers, and by that of the namespace list's area; then of
-- the lent memory itself.
abbrev pub rows_fit : Lengths → ℕ → ℕ → Bool
rows_fit n area numbers = leb n.table 16384 && (leb 16384 area && leb 1024 numbers)

abbrev pub entries_fit : Lengths → ℕ → Bool
entries_fit n area = leb n.namespaces 1024 && leb 1024 area

abbrev pub is_held : Lengths → List ℕ → List ℕ → Bool
is_held n t w = rows_fit n (length t) (length w)

abbrev pub is_within : Lengths → List ℕ → List ℕ → List ℕ → Bool
is_within n t w m = is_held n t w && entries_fit n (length m)

abbrev pub lengths_is : ℕ → ℕ → Bool → Lengths
lengths_is table namespaces edited = record { table = table; namespaces = namespaces; edited = edited }

abbrev pub outcome_is : Lengths → ℕ → Outcome
outcome_is stored written = record { stored = stored; written = written }

-- A line of output, or none, lies at the front of the area that was `o` and is `p`, and nothing else of it changed. No line is
-- longer than two digits for each of 1 + 16,384 bytes and a line feed.
pub record Says (line o p : List ℕ) (r : ℕ) : Type 0 where
  pub written : r ≡ length line
  pub fits : length line ≤ 32771
  pub bytes : p ≡ sets o 0 line

-- The memory was `d` and is `e` after a frame: it holds what the frame leaves stored, and says what it answers. Bytes after what is
-- stored stay, and so do the numbers after the summary, and every number where no records are kept.
pub record Carries (f : Stepped) (d e : Lent) (r : Outcome) : Type 0 where
  pub table : kept_in e r.stored ≡ f.stored.table
  pub namespaces : take r.stored.namespaces e.namespaces ≡ f.stored.namespaces
  pub table_room : r.stored.table ≤ 16384
  pub namespaces_room : r.stored.namespaces ≤ 1024
  pub table_behind : drop (reach r.stored) e.table ≡ drop (reach r.stored) d.table
  pub records_behind : drop 1024 e.records ≡ drop 1024 d.records
  pub records_stay : r.stored.edited ≡ false → e.records ≡ d.records
  pub namespaces_behind : drop r.stored.namespaces e.namespaces ≡ drop r.stored.namespaces d.namespaces
  pub says : Says f.output d.out e.out r.written
