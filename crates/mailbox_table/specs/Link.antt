-- One pass over words in row order: each row is judged against the name before it, and its word gets what the two share.
use Rattle.std.specs.Prelude.{Option, Some, None}
use Rattle.std.specs.Prelude.{◌≡◌, Bool, true, false, cond, ◌&&◌, List, [], ◌∷◌, map, ℕ, length, take, drop}
use Rattle.listing_rules.specs.Lists.{every}
use Rattle.listing_rules.specs.Orders.{byte_order, is_lt}
use Rattle.listing_rules.specs.Names.{lawful_name}
use Rattle.listing_rules.specs.Flags.{lawful_flags}
use Rattle.listing_rules.specs.Table as Table
use Rattle.listing_rules.specs.Table.{rows_pass}
use Rattle.listing_rules.specs.Records.{lies_inside}
use Rattle.mailbox_table.specs.declared.rows.Row.{Row}
use Rattle.records.specs.Words.{record_of}
use Rattle.mailbox_table.specs.Words.{row_of_word}
use Rattle.mailbox_table.specs.Shared.{shared_len}
use Rattle.mailbox_table.specs.Index.{name_at, rows_at, linked_words, Indexed}

-- the name of a row of the code, in the area
abbrev pub name_in : List ℕ → Row → List ℕ
name_in area r = take r.len (drop r.start area)

-- the rows are lawful and ascend from x on
unfoldable pub rows_right : List ℕ → List Table.Row → Bool
rows_right x [] = true
rows_right x (r ∷ rs) =
    (lawful_flags r.flags && lawful_name r.name && is_lt (byte_order x r.name)) && rows_right r.name rs

-- a word whose name lies in the area, is lawful as its flags are, and comes after the name before it
unfoldable pub good_word : List ℕ → List ℕ → ℕ → Bool
good_word area x w =
    lies_inside area (record_of w)
    && (lawful_flags (row_of_word w).flags.bits && lawful_name (name_at area w) && is_lt (byte_order x (name_at area w)))

-- its row with what the name shares with the one before
abbrev pub linked_row : List ℕ → List ℕ → ℕ → Row
linked_row area x w =
    record { flags = (row_of_word w).flags; start = (row_of_word w).start; len = (row_of_word w).len; shared = shared_len x (name_at area w) }

unfoldable pub step_of : List ℕ → List ℕ → ℕ → Option Row
step_of area x w = cond (good_word area x w) (Some (linked_row area x w)) None

-- every word is good after the one before it, the first after x
unfoldable pub linked : List ℕ → List ℕ → List ℕ → Bool
linked area x [] = true
linked area x (w ∷ ws) = good_word area x w && linked area (name_at area w) ws

-- where a pass over the words ends well, they are the index of the same records, to the last bit
abbrev pub Same : List ℕ → List ℕ → List ℕ → Bool → Type 0
Same area before after false = Unit {0}
Same area before after true = (map record_of after ≡ map record_of before) × Indexed area after × (after ≡ linked_words area [] before)

-- What a pass over words promises that is to answer `due`, of the words before and after it, and of its answer.
pub record Links (area before after : List ℕ) (due r : Bool) : Type 0 where
  pub answer : r ≡ due
  pub room : length after ≡ length before
  pub same : Same area before after r

-- check 1 of the rows of words, and that their names lie in the area
abbrev pub words_pass : List ℕ → List ℕ → Bool
words_pass area ws = every (lies_inside area) (map record_of ws) && rows_pass (rows_at area ws)
