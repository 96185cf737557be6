-- The packed table turned into records, row by row as the code goes.
use Rattle.std.specs.Prelude.{Option, Some, None}
use Rattle.std.specs.Prelude.{◌≡◌, Bool, false, cond, ◌&&◌, List, map, ℕ, ◌+◌, ◌-◌, ◌*◌, ◌≤◌, ◌<◌, min, leb, length, take, drop, get_or}
use Rattle.std.proofs.Math.Option.{none, some}
use Rattle.listing_rules.specs.Table.{Table, packed_table}
use Rattle.listing_rules.specs.Records.{packed_records}
use Rattle.mailbox_table.specs.declared.rows.Row.{Row}
use Rattle.records.specs.Words.{cell_of, record_of}

-- a whole row stands at a place
unfoldable pub whole_there : List ℕ → ℕ → Bool
whole_there t at = leb 4 (length t - at) && leb (get_or t (at + 3) 0) (length t - at - 4)

-- the row that stands there, its name where it lies
abbrev pub row_there : List ℕ → ℕ → Row
row_there t at = record { flags = record { bits = 256 * get_or t at 0 + get_or t (at + 1) 0 }; start = at + 4; len = get_or t (at + 3) 0; shared = 0 }

unfoldable pub step_at : List ℕ → ℕ → Option Row
step_at t at = cond (whole_there t at) (Some (row_there t at)) None

-- a place where a row may begin, in a table that is not too long
pub record Placed (t : List ℕ) (at : ℕ) : Type 0 where
  pub inside : at < length t
  pub bound : length t ≤ 32768

-- the bytes hold rows, and there is room for a word for each
unfoldable pub has_room : Table → ℕ → Bool
has_room none room = false
has_room (some rs) room = leb (length rs) (min room 512)

-- The number of records, exactly if rows fill the bytes and are no more than 512 and than there is room for.
unfoldable pub unpacking_of : List ℕ → ℕ → Option ℕ
unpacking_of t room = cond (has_room (packed_table t) room) (Some (length (packed_records t))) None

-- where rows are found, the words at the front mean their records, and are the numbers of these, to the last bit
abbrev pub Unpacked : List ℕ → List ℕ → Option ℕ → Type 0
Unpacked t words None = Unit {0}
Unpacked t words (Some n) =
    (n ≡ length (packed_records t)) × (map record_of (take n words) ≡ packed_records t) × (take n words ≡ map cell_of (packed_records t))

-- where rows are found, the words after them stay as they were lent
abbrev pub Stays : List ℕ → List ℕ → Option ℕ → Type 0
Stays before after None = Unit {0}
Stays before after (Some n) = drop n after ≡ drop n before

-- What the pass over the packed bytes promises, of the lent words before and after it, and of its answer.
pub record Splits (t before after : List ℕ) (r : Option ℕ) : Type 0 where
  pub answer : r ≡ unpacking_of t (length before)
  pub room : length after ≡ length before
  pub records : Unpacked t after r
  pub stays : Stays before after r
