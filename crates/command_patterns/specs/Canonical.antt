-- The canonical patterns of a command, counted, measured and packed.
use Rattle.std.specs.Prelude.{◌≡◌, Bool, true, List, ◌∷◌, map, ℕ, ◌≤◌, ◌%◌, leb, length}
use Rattle.listing_rules.specs.Lists.{every, joined}
use Rattle.listing_rules.specs.Command.{canonical}
use Rattle.command_tokens.specs.declared.Span.{Span}
use Rattle.command_tokens.specs.Spans.{span_bytes}
use Rattle.command_patterns.specs.declared.Patterns.{Patterns}
use Rattle.command_patterns.specs.declared.Measured.{Measured}
use Rattle.command_patterns.specs.Places.{held}

-- the reference and each pattern that is not empty
abbrev pub canonical_of : List ℕ → Span → Patterns → List (List ℕ)
canonical_of s r p = canonical (span_bytes s r) (held s p)

-- a canonical pattern is at most 255 bytes long
abbrev pub short : List ℕ → Bool
short p = leb (length p) 255

-- few and short patterns, as those of a command that lists are (laws `listing-few`, `subscriptions-few`)
pub record Few (ps : List (List ℕ)) : Type 0 where
  pub few : length ps ≤ 8
  pub brief : every short ps ≡ true

abbrev pub measured_is : List (List ℕ) → Measured
measured_is ps = record { count = length ps; fit = every short ps }

-- a length byte and the bytes; of a length above 255, what it is over whole 256s
abbrev pub packed_one : List ℕ → List ℕ
packed_one p = length p % 256 ∷ p

-- each of the patterns so: what `packed` of document 01 is for patterns of at most 255 bytes (law `packed-short`)
unfoldable pub packed_bytes : List (List ℕ) → List ℕ
packed_bytes ps = joined (map packed_one ps)
