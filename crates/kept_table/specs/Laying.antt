-- The store that the packed bytes become at the first accepted edit.
use Rattle.std.specs.Prelude.{Option, Some, None}
use Rattle.std.specs.Prelude.{◌≡◌, true, false, List, map, length, replicate, ℕ, ◌+◌, ◌≤◌, ◌<◌}
use Rattle.listing_rules.specs.Lists.{joined}
use Rattle.listing_rules.specs.Table.{Row, names, passes, packed_table}
use Rattle.listing_rules.specs.Frames.{program_store}
use Rattle.records.specs.Words.{cell_of}
use Rattle.records.specs.Lent.{word_store}
use Rattle.mailbox_table.specs.Index.{nth_row}

-- names that the area of 16,384 bytes has room for
abbrev pub Short : List Row → Type 0
Short rs = length (joined (names rs)) ≤ 16384

-- every name of the words lies in the area, so that it is as long as its word says
abbrev pub Inside : List ℕ → List ℕ → Type 0
Inside area words = (k : ℕ) → k < length words → (nth_row words k).start + (nth_row words k).len ≤ length area

-- a table that is short enough, and words and area that hold nothing yet
pub record Blank (t w a : List ℕ) : Type 0 where
  pub table : length t ≤ 16384
  pub words : w ≡ replicate 512 0
  pub area : a ≡ replicate 16384 0

-- The words and the area are the store of the packed table's rows, to the last bit, where the table passes; else that it does not.
abbrev pub Lays : List ℕ → List ℕ → List ℕ → Option ℕ → Type 0
Lays table words area None = passes (packed_table table) ≡ false
Lays table words area (Some n) =
    (passes (packed_table table) ≡ true)
    × (word_store words 512 n area ≡ program_store table)
    × (words ≡ map cell_of (program_store table).records)
