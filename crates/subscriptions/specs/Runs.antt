-- Free runs as the code finds them: on a map of the area.
use Rattle.std.specs.Prelude.{Option as Maybe, Some, None}
use Rattle.std.specs.Prelude.{◌≡◌, List, map, Bool, false, ◌&&◌, not, leb, ltb, length, get_or, ℕ}
use Rattle.std.proofs.Math.Option.{Option, none, some}
use Rattle.listing_rules.specs.Lists.{any_of}
use Rattle.listing_rules.specs.Subscriptions.{uses}
use Rattle.records.specs.Words.{record_of}

unfoldable pub run_is : Option ℕ → Maybe ℕ
run_is none = None
run_is (some k) = Some k

-- a place lies between two places, or in the name of one of the words
unfoldable pub used_between : ℕ → ℕ → ℕ → Bool
used_between start end j = leb start j && ltb j end

unfoldable pub used_by : List ℕ → ℕ → Bool
used_by words j = any_of (uses j) (map record_of words)

-- the places that are used are no longer free, the others are what they were
pub record Unmarks (used : ℕ → Bool) (before after : List Bool) : Type 0 where
  pub size : length after ≡ length before
  pub marks : (j : ℕ) → get_or after j false ≡ (get_or before j false && not (used j))
