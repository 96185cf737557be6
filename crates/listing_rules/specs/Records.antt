-- Mailboxes as records beside their names (document 02, W4): what they mean, and the records of a packed table.
use Rattle.std.specs.Prelude.{List, [], ◌∷◌, map, Bool, true, cond, ◌&&◌, ◌||◌, leb, length, take, drop, get_or, ℕ, zero, suc, ◌+◌, ◌*◌}
use Rattle.std.proofs.Math.Option.{none, some}
use Rattle.listing_rules.specs.Lists.{every}
use Rattle.listing_rules.specs.Table.{Row, Table}

-- "records, each with flags, name start and name length"; W9: "Each record gains a set of eight readers"
pub record Record : Type 0 where
  pub flags : ℕ
  pub start : ℕ
  pub len : ℕ
  pub readers : ℕ

-- "over one area of name bytes": the row that a record means, and the rows that a run of records means
unfoldable pub row_of : List ℕ → Record → Row
row_of area r = record { flags = r.flags; name = take r.len (drop r.start area) }

unfoldable pub record_rows : List ℕ → List Record → List Row
record_rows area rs = map (row_of area) rs

-- "Names lie inside the area"
unfoldable pub lies_inside : List ℕ → Record → Bool
lies_inside area r = leb (r.start + r.len) (length area)

-- "without overlap": of two names, one ends where the other begins or before it
unfoldable pub apart : Record → Record → Bool
apart r q = leb (r.start + r.len) q.start || leb (q.start + q.len) r.start

unfoldable pub all_apart : List Record → Bool
all_apart [] = true
all_apart (r ∷ rs) = every (apart r) rs && all_apart rs

-- The area is "at most 32,768 bytes"; "Names lie inside the area .. without overlap; bytes may be unused".
unfoldable pub laid_out : List ℕ → List Record → Bool
laid_out area rs = leb (length area) 32768 && every (lies_inside area) rs && all_apart rs

-- The form of records: the first `count` records are the rows, those after them are spare; a count above the records lent holds no rows.
-- "records ascending by name but name bytes in any order. .. The rest of check 1 stays."
unfoldable pub record_table : List ℕ → List Record → ℕ → Table
record_table area rs count =
    let held = take count rs in
    cond (leb count (length rs) && laid_out area held) (some (record_rows area held)) none

-- "The packed form remains for the program, turned into records first": the names stay where they lie, so the packed bytes are the
-- area, and what stands before each name is unused. `at` is the place of the first byte, and the first `skip` bytes still belong to
-- the row before.
unfoldable pub records_after : ℕ → ℕ → List ℕ → List Record
records_after at skip [] = []
records_after at zero (h ∷ t) =
    record { flags = 256 * h + get_or t 0 0; start = at + 4; len = get_or t 2 0; readers = get_or t 1 0 } ∷ records_after (suc at) (suc (suc (suc (get_or t 2 0)))) t
records_after at (suc k) (h ∷ t) = records_after (suc at) k t

unfoldable pub packed_records : List ℕ → List Record
packed_records t = records_after 0 0 t
