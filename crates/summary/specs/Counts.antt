-- What rows add to the number of a summary, and the numbers that an index of rows has by counting.
use Rattle.std.specs.Prelude.{Result, Ok, Err, Bool, cond, List, [], ◌∷◌, map, ℕ, ◌+◌, ◌*◌, leb, length, take}
use Rattle.std.proofs.Math.Option.{none}
use Rattle.listing_rules.specs.Names.{below}
use Rattle.listing_rules.specs.Table.{Table}
use Rattle.listing_rules.specs.Summary.{is_subscribed_local, is_subscribed_remote, is_existing_local, is_existing_remote, one, afresh, same_summaries}
use Rattle.octets.specs.declared.refusals.Refusal.{Refusal}
use Rattle.octets.specs.Refusals.{number_of}
use Rattle.records.specs.Numbers.{summary_word, summary_of}
use Rattle.records.specs.Lent.{word_table}
use Rattle.mailbox_table.specs.Index.{name_at, rows_at}
use Rattle.mailbox_table.specs.Words.{row_of_word}

-- what a row with these flags adds
unfoldable pub one_word : ℕ → ℕ
one_word f =
    one (is_subscribed_local f) + 65536 * one (is_subscribed_remote f) + 4294967296 * one (is_existing_local f) + 281474976710656 * one (is_existing_remote f)

-- what the rows of words below p add up to
unfoldable pub sum_below : List ℕ → List ℕ → List ℕ → ℕ
sum_below area p [] = 0
sum_below area p (w ∷ ws) = cond (below p (name_at area w)) (one_word (row_of_word w).flags.bits) 0 + sum_below area p ws

-- what counting afresh gives, as numbers
unfoldable pub fresh_words : List ℕ → List ℕ → List ℕ
fresh_words area words = map summary_word (afresh (rows_at area words))

-- the numbers of the rows, as many as there are words, tell what counting afresh gives
unfoldable pub words_agree : List ℕ → List ℕ → List ℕ → Bool
words_agree area words sums = same_summaries (map summary_of (take (length words) sums)) (afresh (rows_at area words))

-- the number of an answer: that of its refusal, or 0
abbrev pub number_or_0 : {A : Type 0} → Result A Refusal → ℕ
number_or_0 (Ok a) = 0
number_or_0 (Err e) = number_of e

-- the table of words that a first summary is counted for: there is a number for each row
abbrev pub numbered_table : List ℕ → ℕ → List ℕ → List ℕ → Table
numbered_table raw count area sums = cond (leb count (length sums)) (word_table area raw count) none
