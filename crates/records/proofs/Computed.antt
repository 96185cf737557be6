-- Numbers of records and of summaries, computed: where each field stands, with values that fill its width; and that a count says how many of the
-- records are rows. Rests on the definitions alone.
use Rattle.listing_rules.proofs.Prelude.{◌≡◌, refl, [], ◌∷◌, some}
use Rattle.listing_rules.specs.Records.{Record}
use Rattle.listing_rules.specs.Summary.{Summary}
use Rattle.listing_rules.proofs.Keys.{open_lists, open_records}
use Rattle.records.specs.Words.{cell_of, record_of}
use Rattle.records.specs.Numbers.{summary_word, summary_of}
use Rattle.records.specs.Lent.{word_table}

abbrev full : Record
full = record { flags = 0xF1E2; start = 0xD3C4; len = 0xB5; readers = 0xA6 }

cell_computed : cell_of full ≡ 0x00A600B5D3C4F1E2
unfolding cell_of
cell_computed = refl

-- the bits between length and readers, and those above the readers, say nothing of the record
record_computed : record_of 0x77A688B5D3C4F1E2 ≡ full
unfolding record_of
record_computed = refl

abbrev counts : Summary
counts = record { subscribed_local = 0xF1E2; subscribed_remote = 0xD3C4; existing_local = 0xB5A6; existing_remote = 0x9788 }

summary_computed : summary_word counts ≡ 0x9788B5A6D3C4F1E2
unfolding summary_word
summary_computed = refl

counts_computed : summary_of 0x9788B5A6D3C4F1E2 ≡ counts
unfolding summary_of
counts_computed = refl

-- of two records, the first is a row
row_computed : word_table (97 ∷ 98 ∷ []) (0x00FF000100000001 ∷ 0x00FF000100010002 ∷ []) 1 ≡ some (record { flags = 1; name = 97 ∷ [] } ∷ [])
unfolding record_of open_lists open_records
row_computed = refl
