-- Check 1 and the index of the rows, before the words are cleared where it fails.
use Rattle.std.specs.Prelude.{Option}
use Rattle.std.specs.Prelude.{◌≡◌, List, length, ℕ}
use Rattle.listing_rules.specs.Table.{Table, rows}
use Rattle.listing_rules.specs.Records.{Record}
use Rattle.mailbox_table.specs.Index.{indexing_of, Found}
use Rattle.mailbox_table.specs.Packed.{Stays}

-- What the passes promise of a table whose names lie in the area: as `Indexes`, but where they fail, nothing of what the words hold.
pub record Finds (area : List ℕ) (t : Table) (records : List Record) (cells before after : List ℕ) (r : Option ℕ) : Type 0 where
  pub answer : r ≡ indexing_of t (length before)
  pub room : length after ≡ length before
  pub found : Found area (rows t) records cells after r
  pub stays : Stays before after r
