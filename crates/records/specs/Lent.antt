-- The table that lent memory holds: as records, and as the numbers that stand for them; and with the summary that is lent beside them.
use Rattle.std.specs.Prelude.{List, map, ℕ, min, length, take}
use Rattle.listing_rules.specs.Table.{Table}
use Rattle.listing_rules.specs.Records.{record_table}
use Rattle.listing_rules.specs.Subscriptions.{Store}
use Rattle.listing_rules.specs.Summary.{Summed, summed_table, summed_seen}
use Rattle.records.specs.declared.Record.{Record}
use Rattle.records.specs.Words.{meant, record_of}
use Rattle.records.specs.Numbers.{summary_of}

-- the first `count` of the words are the rows, over the area of name bytes
abbrev pub word_table : List ℕ → List ℕ → ℕ → Table
word_table area ws count = record_table area (map record_of ws) count

-- the store of lent records, of which the first `count` are rows, and of words that stand for records, of which `lent` are lent
abbrev pub lent_store : List Record → ℕ → List ℕ → Store
lent_store rs count area = record { records = map meant rs; count = count; area = area }

abbrev pub word_store : List ℕ → ℕ → ℕ → List ℕ → Store
word_store ws lent count area = record { records = map record_of (take lent ws); count = count; area = area }

-- "Keep, for each record, four numbers": a record is lent only if the run has a number for it, and a number is looked at only if it has a record
abbrev pub lent_summed : List Record → ℕ → List ℕ → List ℕ → Summed
lent_summed rs count area sums = record { store = lent_store (take (length sums) rs) count area; summary = map summary_of (take (length rs) sums) }

-- of words, the first `lent`, as many are lent as there are words and numbers
abbrev pub lent_of : List ℕ → ℕ → List ℕ → ℕ
lent_of ws lent sums = min lent (min (length ws) (length sums))

abbrev pub word_summed : List ℕ → ℕ → ℕ → List ℕ → List ℕ → Summed
word_summed ws lent count area sums =
    record { store = word_store ws (lent_of ws lent sums) count area; summary = map summary_of (take (lent_of ws lent sums) sums) }

-- all of the words, with a run of numbers of any length beside them
abbrev pub words_summed : List ℕ → ℕ → List ℕ → List ℕ → Summed
words_summed ws count area sums = record { store = record { records = map record_of ws; count = count; area = area }; summary = map summary_of sums }

-- the table that check 1 judges, and what a reader sees of it
abbrev pub lent_table : List Record → ℕ → List ℕ → List ℕ → Table
lent_table rs count area sums = summed_table (lent_summed rs count area sums)

abbrev pub lent_seen : ℕ → List Record → ℕ → List ℕ → List ℕ → Table
lent_seen reader rs count area sums = summed_seen reader (lent_summed rs count area sums)

abbrev pub words_table : List ℕ → ℕ → List ℕ → List ℕ → Table
words_table ws count area sums = summed_table (words_summed ws count area sums)

abbrev pub words_seen : ℕ → List ℕ → ℕ → List ℕ → List ℕ → Table
words_seen reader ws count area sums = summed_seen reader (words_summed ws count area sums)
