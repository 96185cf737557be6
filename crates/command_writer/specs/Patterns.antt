-- The code's pattern, which names places of a packed list, in the terms of the definitions; and when a canonical pattern is short enough.
use Rattle.std.specs.Prelude.{◌≡◌, Bool, ◌||◌, List, ◌∷◌, ◌++◌, ℕ, ◌+◌, ◌-◌, ◌≤◌, leb, length, take, drop, get_or}
use Rattle.listing_rules.specs.Bytes.{is_empty}
use Rattle.listing_rules.specs.Joining.{packed_patterns}
use Rattle.command_writer.specs.declared.patterns.Pattern.{Pattern}

-- the bytes of the pattern that the code's one stands for
abbrev pub pattern_bytes : List ℕ → Pattern → List ℕ
pattern_bytes l p = take (p.end - p.start) (drop p.start l)

-- What is known of the pattern that begins at a place of the list l.
pub record PatternAt (l : List ℕ) (at : ℕ) (p : Pattern) : Type 0 where
  -- it is a part of the list
  pub ordered : p.start ≤ p.end
  pub inside : p.end ≤ length l
  -- the next one begins after its length byte and as many bytes, in the list or after it
  pub onward : p.next ≡ at + 1 + get_or l at 0
  -- it is the first of the patterns from there on
  pub first : packed_patterns (drop at l) ≡ pattern_bytes l p ∷ packed_patterns (drop p.next l)

-- "at most 255 bytes"
abbrev pub short : List ℕ → Bool
short p = leb (length p) 255

-- the same of the canonical pattern of a pattern, if it has one
unfoldable pub short_after : List ℕ → List ℕ → Bool
short_after r p = is_empty p || short (r ++ p)
