-- A row of the index as one number.
use Rattle.std.specs.Prelude.{ℕ, ◌+◌, ◌-◌, ◌*◌, ◌/◌, ◌%◌, ◌<◌}
use Rattle.mailbox_table.specs.declared.rows.Row.{Row}

-- 16 bits of flags, 16 of the start, 8 of the length and 8 of what is shared, the flags lowest
unfoldable pub word_of : Row → ℕ
word_of r = r.flags.bits + 65536 * r.start + 4294967296 * r.len + 1099511627776 * r.shared

unfoldable pub row_of_word : ℕ → Row
row_of_word w =
    record {
      flags = record { bits = w % 65536 };
      start = w / 65536 % 65536;
      len = w / 4294967296 % 256;
      shared = w / 1099511627776 % 256;
    }

-- the word of the same record with this number of bytes shared
unfoldable pub with_shared : ℕ → ℕ → ℕ
with_shared n w = w - 1099511627776 * (row_of_word w).shared + 1099511627776 * n

-- what a row needs so that its number tells it
pub record Packs (r : Row) : Type 0 where
  pub start : r.start < 65536
  pub len : r.len < 256
  pub shared : r.shared < 256
