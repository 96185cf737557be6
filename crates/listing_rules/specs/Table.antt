-- The mailbox table: its rows, however they are stored, and check 1; and the packed form.
use Rattle.std.specs.Prelude.{List, [], ◌∷◌, map, Bool, true, false, cond, ◌&&◌, ◌||◌, not, leb, length, take, drop, get_or, ℕ, zero, suc, ◌+◌, ◌*◌}
use Rattle.std.proofs.Math.Option.{Option, none, some}
use Rattle.listing_rules.specs.Bytes.{same}
use Rattle.listing_rules.specs.Lists.{every, any_of}
use Rattle.listing_rules.specs.Orders.{ascends}
use Rattle.listing_rules.specs.Names.{lawful_name, below}
use Rattle.listing_rules.specs.Flags.{no_inferiors, lawful_flags}

pub record Row : Type 0 where
  pub flags : ℕ
  pub name : List ℕ

-- A table, however it is stored: its rows; none where what is stored holds no rows.
abbrev pub Table : Type 0
Table = Option (List Row)

unfoldable pub rows : Table → List Row
rows none = []
rows (some rs) = rs

unfoldable pub names : List Row → List (List ℕ)
names rs = map (λ r. r.name) rs

-- "no row lies below a row with no inferiors"
unfoldable pub none_below : List Row → Row → Bool
none_below rs r = not (no_inferiors r.flags) || not (any_of (λ q. below r.name q.name) rs)

-- Check 1 of the rows. "At most 512 rows". "The table passes if ..: name bytes are 20 to 7E (hex) ..; no row lies below a row with no
-- inferiors. An empty table passes."
unfoldable pub rows_pass : List Row → Bool
rows_pass rs =
    leb (length rs) 512
    && every (λ r. lawful_name r.name) rs
    && every (λ r. lawful_flags r.flags) rs
    && ascends (names rs)
    && every (λ r. none_below rs r) rs

-- Check 1. What is common to every form of a table stands in `rowsPass`; each form adds its own where it gives the rows.
unfoldable pub passes : Table → Bool
passes none = false
passes (some rs) = rows_pass rs

-- "A row is flags (2 bytes, high byte first), name length 1 to 200, name." W9: "A packed row has one byte of readers .. before the name
-- length." The row whose first byte is h, with t behind it; its readers stand in its record (`Records.packedRecords`).
unfoldable pub row_at : ℕ → List ℕ → Row
row_at h t = record { flags = 256 * h + get_or t 0 0; name = take (get_or t 2 0) (drop 3 t) }

-- the rows of the bytes, of which the first `skip` still belong to the row before
unfoldable pub rows_after : ℕ → List ℕ → List Row
rows_after skip [] = []
rows_after zero (h ∷ t) = row_at h t ∷ rows_after (suc (suc (suc (get_or t 2 0)))) t
rows_after (suc k) (h ∷ t) = rows_after k t

unfoldable pub packed_rows : List ℕ → List Row
packed_rows t = rows_after 0 t

-- "rows fill it exactly": no row runs past the end
unfoldable pub rows_fill : ℕ → List ℕ → Bool
rows_fill zero [] = true
rows_fill (suc k) [] = false
rows_fill zero (h ∷ t) = rows_fill (suc (suc (suc (get_or t 2 0)))) t
rows_fill (suc k) (h ∷ t) = rows_fill k t

-- The packed form: "At most .. 32,768 bytes"; "rows fill it exactly".
unfoldable pub packed_table : List ℕ → Table
packed_table t = cond (leb (length t) 32768 && rows_fill 0 t) (some (packed_rows t)) none

-- the table has a row of this name
unfoldable pub has_row : List Row → List ℕ → Bool
has_row rs n = any_of (λ r. same r.name n) rs

-- The flags of a name: those of its row. An implied name has flags 0:
-- "it does not exist, and is neither subscribed nor remote".
unfoldable pub flags_of : List Row → List ℕ → ℕ
flags_of [] n = 0
flags_of (r ∷ rs) n = let s = flags_of rs n in cond (same r.name n) r.flags s
