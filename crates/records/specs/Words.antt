-- A lent record, what it means, and the number that stands for it.
use Rattle.std.specs.Prelude.{ℕ, ◌+◌, ◌*◌, ◌/◌, ◌%◌}
use Rattle.listing_rules.specs.Records.{Record as Meant}
use Rattle.records.specs.declared.Record.{Record}

-- the record of the definitions, field by field
unfoldable pub meant : Record → Meant
meant r = record { flags = r.flags; start = r.start; len = r.len; readers = r.readers }

-- the number of a record: 16 bits of flags, 16 of the start and 8 of the length, the flags lowest; then 8 that are 0, and 8 of the readers
unfoldable pub cell_of : Meant → ℕ
cell_of m = m.flags + 65536 * m.start + 4294967296 * m.len + 281474976710656 * m.readers

unfoldable pub word_of : Record → ℕ
word_of r = cell_of (meant r)

-- what a number tells, as the definitions have it and as the code has it; the bits between length and readers, and those above, tell nothing
unfoldable pub record_of : ℕ → Meant
record_of w =
    record { flags = w % 65536; start = w / 65536 % 65536; len = w / 4294967296 % 256; readers = w / 281474976710656 % 256 }

unfoldable pub struct_of : ℕ → Record
struct_of w =
    record { flags = w % 65536; start = w / 65536 % 65536; len = w / 4294967296 % 256; readers = w / 281474976710656 % 256 }
