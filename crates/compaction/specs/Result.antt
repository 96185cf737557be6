-- What a compaction over words returns, and every bit of the words that it leaves.
use Rattle.std.specs.Prelude.{Result, Ok, Err, cond, List, ◌++◌, ℕ, eqb, take, drop}
use Rattle.listing_rules.specs.Table.{passes}
use Rattle.listing_rules.specs.Summary.{summed_table}
use Rattle.records.specs.Lent.{word_summed}
use Rattle.subscriptions.specs.declared.Change.{Change}
use Rattle.compaction.specs.Moves.{moved_words}

-- all words of the rows changed, and there are as many rows as before
abbrev pub rows_changed : ℕ → Change
rows_changed count = record { from = 0; to = count; count = count }

-- by its number: where it is 0 the words of the rows changed, and else it is a refusal
unfoldable pub compacted_is : ℕ → ℕ → Result Change ℕ
compacted_is number count = cond (eqb number 0) (Ok (rows_changed count)) (Err number)

-- where the table passes, the words of its rows have moved, and those after them stay; else all stay
unfoldable pub cells_compacted : List ℕ → ℕ → ℕ → List ℕ → List ℕ → List ℕ
cells_compacted ws lent count area sums =
    cond (passes (summed_table (word_summed ws lent count area sums))) (moved_words (take count ws) area ++ drop count ws) ws
