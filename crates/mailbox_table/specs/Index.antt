-- The index of a table's rows: a word for each, over the area where the names lie.
use Rattle.std.specs.Prelude.{Option, Some, None}
use Rattle.std.specs.Prelude.{◌≡◌, true, cond, ◌&&◌, List, [], ◌∷◌, map, ℕ, ◌+◌, ◌<◌, ◌≤◌, leb, length, take, drop, get_or, replicate}
use Rattle.listing_rules.specs.Lists.{every}
use Rattle.listing_rules.specs.Orders.{ascends}
use Rattle.listing_rules.specs.Names.{lawful_name}
use Rattle.listing_rules.specs.Table as Table
use Rattle.listing_rules.specs.Table.{rows, names, passes}
use Rattle.listing_rules.specs.Records.{Record}
use Rattle.records.specs.Words.{record_of}
use Rattle.mailbox_table.specs.declared.rows.Row.{Row}
use Rattle.mailbox_table.specs.Words.{row_of_word, with_shared}
use Rattle.mailbox_table.specs.Shared.{shared_len}

-- the name of a word, in the area
unfoldable pub name_at : List ℕ → ℕ → List ℕ
name_at area w = take (row_of_word w).len (drop (row_of_word w).start area)

-- row k of the words, and its name
abbrev pub nth_row : List ℕ → ℕ → Row
nth_row words k = row_of_word (get_or words k 0)

abbrev pub nth_name : List ℕ → List ℕ → ℕ → List ℕ
nth_name area words k = name_at area (get_or words k 0)

-- the row of a word, and the rows of the words, as document 01 has them
abbrev pub row_at_word : List ℕ → ℕ → Table.Row
row_at_word area w = record { flags = (row_of_word w).flags.bits; name = name_at area w }

abbrev pub rows_at : List ℕ → List ℕ → List Table.Row
rows_at area words = map (row_at_word area) words

-- The words of an index: those of the records in row order, each with the number of bytes that its name shares with the name before it.
unfoldable pub linked_words : List ℕ → List ℕ → List ℕ → List ℕ
linked_words area before [] = []
linked_words area before (w ∷ ws) = with_shared (shared_len before (name_at area w)) w ∷ linked_words area (name_at area w) ws

-- The words are an index over the area.
pub record Indexed (area words : List ℕ) : Type 0 where
  -- names ascend by bytes
  pub ascend : ascends (names (rows_at area words)) ≡ true
  -- the first shares nothing, and each other what it shares with the name before
  pub first : (nth_row words 0).shared ≡ 0
  pub shares : (k : ℕ) → k + 1 < length words → (nth_row words (k + 1)).shared ≡ shared_len (nth_name area words k) (nth_name area words (k + 1))
  -- no name is empty, and each lies in the area
  pub full : (k : ℕ) → k < length words → 0 < (nth_row words k).len
  pub inside : (k : ℕ) → k < length words → (nth_row words k).start + (nth_row words k).len ≤ length area

-- the names of the rows are lawful
abbrev pub Lawful : List Table.Row → Type 0
Lawful rs = every (λ (r : Table.Row). lawful_name r.name) rs ≡ true

-- What may be relied on of the index of a table that passes.
pub record Index (area words : List ℕ) : Type 0 where
  -- the words are an index over the area
  pub indexed : Indexed area words
  -- of as many rows as a table has at most
  pub few : length words ≤ 512
  pub lawful : Lawful (rows_at area words)

-- The number of rows, exactly if the table passes and there is room for a word for each: with room for 512, if it passes.
unfoldable pub indexing_of : Table.Table → ℕ → Option ℕ
indexing_of t room = cond (passes t && leb (length (rows t)) room) (Some (length (rows t))) None

-- where rows are found, the words at the front are their index over the area, and mean their records; every bit of them is decided by `cells`,
-- the words of these records
abbrev pub Found : List ℕ → List Table.Row → List Record → List ℕ → List ℕ → Option ℕ → Type 0
Found area rs records cells words None = Unit {0}
Found area rs records cells words (Some n) =
    (n ≡ length rs)
    × (rows_at area (take n words) ≡ rs)
    × Indexed area (take n words)
    × (map record_of (take n words) ≡ records)
    × (take n words ≡ linked_words area [] cells)

-- the lent words that hold no row: after the rows they stay as they were lent, and on failure every word is zero
abbrev pub Rest : List ℕ → List ℕ → Option ℕ → Type 0
Rest before after None = after ≡ replicate (length before) 0
Rest before after (Some n) = drop n after ≡ drop n before

-- What an index promises of a table with these records and their words `cells`, whose names lie in the area, of the lent words before and
-- after it, and of its answer.
pub record Indexes (area : List ℕ) (t : Table.Table) (records : List Record) (cells before after : List ℕ) (r : Option ℕ) : Type 0 where
  pub answer : r ≡ indexing_of t (length before)
  pub room : length after ≡ length before
  pub found : Found area (rows t) records cells after r
  pub rest : Rest before after r
