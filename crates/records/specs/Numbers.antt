-- The summary of a record (document 02, W13) as one number.
use Rattle.std.specs.Prelude.{ℕ, ◌+◌, ◌*◌, ◌/◌, ◌%◌}
use Rattle.listing_rules.specs.Summary.{Summary}

-- 16 bits a count, in the paper's order, the first lowest
unfoldable pub summary_word : Summary → ℕ
summary_word m = m.subscribed_local + 65536 * m.subscribed_remote + 4294967296 * m.existing_local + 281474976710656 * m.existing_remote

-- what a number says; what stands above the last count's 16 bits, which no number of 64 bits has, belongs to it
unfoldable pub summary_of : ℕ → Summary
summary_of w =
    record {
      subscribed_local = w % 65536;
      subscribed_remote = w / 65536 % 65536;
      existing_local = w / 4294967296 % 65536;
      existing_remote = w / 281474976710656;
    }
