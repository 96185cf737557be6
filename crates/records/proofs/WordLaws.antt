-- A record's number tells the record. Rests on arithmetic alone.
use Rattle.listing_rules.proofs.Prelude.{◌≡◌, ◌%◌, ◌/◌, ◌<◌, arith}
use Rattle.records.specs.declared.Record.{Record}
use Rattle.records.specs.Words.{cell_of, word_of, record_of, meant}

pub word_tells : (r : Record) → r.flags < 65536 → r.start < 65536 → r.len < 256 → r.readers < 256 → record_of (word_of r) ≡ meant r
unfolding cell_of word_of record_of meant
word_tells r f s l d = λ i. record { flags = flags_are i; start = start_is_lem i; len = len_is i; readers = readers_are i }
  where
    flags_are : word_of r % 65536 ≡ r.flags
    flags_are = omega arith

    start_is_lem : word_of r / 65536 % 65536 ≡ r.start
    start_is_lem = omega arith

    len_is : word_of r / 4294967296 % 256 ≡ r.len
    len_is = omega arith

    readers_are : word_of r / 281474976710656 % 256 ≡ r.readers
    readers_are = omega arith
