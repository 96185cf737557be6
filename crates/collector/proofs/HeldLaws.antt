-- The table of a walk: what a reader sees of the index of a table with its summary, and of the index of a packed table, is what it sees of that table. Rests
-- on ReaderLaws, RecordLaws, SummaryAlike and SummaryCommands of listing_rules.
use Rattle.listing_rules.proofs.Prelude.{◌∙◌, ◌≡◌, ap, sym, true, List, map, ℕ, arith, length, length-map, length-take-le, take, take-length}
use Rattle.listing_rules.specs.Table.{passes, packed_table}
use Rattle.listing_rules.specs.Records.{Record, row_of, record_rows, record_table, packed_records}
use Rattle.listing_rules.specs.Readers.{records_seen, packed_seen}
use Rattle.listing_rules.specs.Subscriptions.{store_table, store_seen}
use Rattle.listing_rules.proofs.Passes.{rows_parts}
use Rattle.listing_rules.proofs.ReaderLaws.{held_parts, records_seen_passes, front_seen_alike}
use Rattle.listing_rules.proofs.RecordLaws.{packed_as_records}
use Rattle.listing_rules.proofs.SummaryAlike.{grown_parts}
use Rattle.listing_rules.proofs.SummaryCommands.{seen_with}
use Rattle.records.specs.Words.{record_of}
use Rattle.records.specs.Lent.{words_summed, words_table, words_seen}
use Rattle.collector.specs.Held.{held_seen}

-- words `index` that tell the counted records of a table that passes: a reader sees of them what it sees of the table
held_seen_lem : (reader : ℕ) (area : List ℕ) (rs : List Record) (count : ℕ) (index : List ℕ) → passes (record_table area rs count) ≡ true
    → map record_of index ≡ take count rs → held_seen reader area index ≡ records_seen reader area rs count
unfolding record_rows
held_seen_lem reader area rs count index ok told =
    let parts = held_parts area rs count ok in
    let size : length (take count rs) ≡ count = length-take-le count rs parts.enough in
    let few = (rows_parts (record_rows area (take count rs)) parts.rows_pass_lem).few in
    let alike = front_seen_alike reader area rs count count (omega (arith, parts.enough, few, size, length-map (take count rs) (row_of area))) in
    let many = sym (length-map index record_of) ∙ ap length told ∙ size in
    (λ i. records_seen reader area (told i) (many i)) ∙ alike.1 (alike.0 ∙ records_seen_passes reader area rs count ∙ ok)

-- of a table that passes with its summary
pub summed_held : (reader : ℕ) (words : List ℕ) (count : ℕ) (area sums index : List ℕ) → passes (words_table words count area sums) ≡ true
    → map record_of index ≡ take count (map record_of words) → held_seen reader area index ≡ words_seen reader words count area sums
unfolding store_table store_seen
summed_held reader words count area sums index ok told =
    let parts = grown_parts (words_summed words count area sums) ok in
    held_seen_lem reader area (map record_of words) count index parts.0 told ∙ sym (seen_with (words_summed words count area sums) parts.1 reader)

-- and of a packed table
pub packed_held : (reader : ℕ) (t index : List ℕ) → passes (packed_table t) ≡ true → map record_of index ≡ packed_records t
    → held_seen reader t index ≡ packed_seen reader t
packed_held reader t index ok told =
    let alike = packed_as_records t ok in
    held_seen_lem reader t (packed_records t) (length (packed_records t)) index (alike.both_pass ∙ ok) (told ∙ sym (take-length (packed_records t)))
    ∙ alike.seen_same reader
