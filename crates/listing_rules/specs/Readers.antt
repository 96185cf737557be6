-- Who may see which mailbox (document 02, W9): the table that a reader's commands and walks are answered from.
use Rattle.std.specs.Prelude.{List, Bool, cond, leb, take, ℕ}
use Rattle.std.proofs.Math.Option.{none, some}
use Rattle.listing_rules.specs.Bytes.{bit}
use Rattle.listing_rules.specs.Lists.{keep}
use Rattle.listing_rules.specs.Table.{Row, Table, passes, packed_table}
use Rattle.listing_rules.specs.Records.{Record, record_rows, record_table, packed_records}

-- "each command comes from reader 0 to 7"
unfoldable pub is_reader : ℕ → Bool
is_reader reader = leb reader 7

-- "a set of eight readers", "bit r for reader r"
unfoldable pub sees : ℕ → Record → Bool
sees reader r = bit reader r.readers

-- "A row hidden from the reader counts as absent": the rows that are left, of records over an area
unfoldable pub visible : ℕ → List ℕ → List Record → List Row
visible reader area rs = record_rows area (keep (sees reader) rs)

-- "Refusal 1 .. look[s] at all rows": of a table that passes, the visible rows; they pass too (law `visible-pass`).
unfoldable pub seen : Table → List Row → Table
seen all rs = cond (passes all) (some rs) none

-- the table that a reader sees of records over an area, and of packed bytes
unfoldable pub records_seen : ℕ → List ℕ → List Record → ℕ → Table
records_seen reader area rs count = seen (record_table area rs count) (visible reader area (take count rs))

unfoldable pub packed_seen : ℕ → List ℕ → Table
packed_seen reader t = seen (packed_table t) (visible reader t (packed_records t))
