-- Marked rows below a name.
use Rattle.std.specs.Prelude.{Bool, ◌&&◌, List, ℕ, ◌+◌, ◌*◌, ◌/◌, ◌%◌, ◌<◌, ◌≤◌, length, take, drop}
use Rattle.listing_rules.specs.Lists.{every, any_of}
use Rattle.listing_rules.specs.Names.{below}
use Rattle.listing_rules.specs.Table.{Row, none_below}
use Rattle.octets.specs.Sets.{contains}
use Rattle.mailbox_table.specs.Index.{name_at, nth_row, nth_name, Indexed}

-- What a row is marked with stands in its word, above the 48 bits that tell the row. The members are those of who marks.
unfoldable pub marks_of : ℕ → ℕ
marks_of w = w / 281474976710656 % 65536

-- the word of the same row with these marks
unfoldable pub with_marks : ℕ → ℕ → ℕ
with_marks m w = w % 281474976710656 + 281474976710656 * m

-- the row of a word lies below p and is marked with all of m
abbrev pub marked_below : List ℕ → ℕ → List ℕ → ℕ → Bool
marked_below area m p w = below p (name_at area w) && contains (marks_of w) m

-- some such row from row k on
unfoldable pub below_from : List ℕ → List ℕ → ℕ → List ℕ → ℕ → Bool
below_from area words m p k = any_of (marked_below area m p) (drop k words)

-- the first `len` bytes of row i's name
abbrev pub prefix_of : List ℕ → List ℕ → ℕ → ℕ → List ℕ
prefix_of area words i len = take len (nth_name area words i)

-- where a scan begins: an index, one of its rows, and a length within its name
pub record Begins (area words : List ℕ) (i len : ℕ) : Type 0 where
  pub indexed : Indexed area words
  pub row : i < length words
  pub within : len ≤ (nth_row words i).len

-- no row lies below one with no inferiors
abbrev pub all_none_below : List Row → Bool
all_none_below rs = every (λ r. none_below rs r) rs
