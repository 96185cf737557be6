-- The rows that a reader sees, of an index.
use Rattle.std.specs.Prelude.{cond, List, [], ◌∷◌, ℕ, ◌^◌, min}
use Rattle.listing_rules.specs.Readers.{is_reader, sees}
use Rattle.records.specs.Words.{record_of}
use Rattle.mailbox_table.specs.Words.{row_of_word, with_shared}

-- the set of one reader, which is empty where there is no such reader
unfoldable pub member_of : ℕ → ℕ
member_of reader = cond (is_reader reader) (2 ^ reader) 0

-- The words of records that the reader sees. Each shares with the one before it what all from there on share with theirs, so the least of
-- these; `low` is the least since the last word that was seen.
unfoldable pub seen_from : ℕ → ℕ → List ℕ → List ℕ
seen_from reader low [] = []
seen_from reader low (w ∷ ws) =
    let least = min low (row_of_word w).shared in
    let later = seen_from reader least ws in
    let behind = seen_from reader 255 ws in
    cond (sees reader (record_of w)) (with_shared least w ∷ behind) later

unfoldable pub seen_words : ℕ → List ℕ → List ℕ
seen_words reader ws = seen_from reader 255 ws
