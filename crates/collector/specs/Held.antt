-- The table of a walk: what a reader sees of words that are all rows, over the area.
use Rattle.std.specs.Prelude.{List, map, ℕ, length}
use Rattle.listing_rules.specs.Table.{Table}
use Rattle.listing_rules.specs.Readers.{records_seen}
use Rattle.records.specs.Words.{record_of}

abbrev pub held_seen : ℕ → List ℕ → List ℕ → Table
held_seen reader area words = records_seen reader area (map record_of words) (length words)
