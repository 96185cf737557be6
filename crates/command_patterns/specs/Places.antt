-- The patterns of a command: eight places, and how many patterns were read.
use Rattle.std.specs.Prelude.{Option as Maybe, Some, None}
use Rattle.std.specs.Prelude.{◌≡◌, cond, List, [], ◌∷◌, ◌++◌, map, ℕ, ◌+◌, ◌-◌, leb, length, take, drop, set, replicate}
use Rattle.std.proofs.Math.Option.{Option, none, some}
use Rattle.listing_rules.specs.Tokens.{Got, got, ◌>>=◌}
use Rattle.command_tokens.specs.declared.Span.{Span}
use Rattle.command_patterns.specs.declared.Patterns.{Patterns}
use Rattle.command_tokens.specs.declared.Cursor.{Cursor}
use Rattle.command_tokens.specs.Spans.{span_bytes, Lies, nowhere}

abbrev pub no_patterns : Patterns
no_patterns = record { spans = replicate 8 nowhere; count = 0 }

-- one pattern more; the ninth and those after it are counted as nine and have no place
unfoldable pub with_span : Patterns → Span → Patterns
with_span p t = cond (leb 8 p.count) (record { spans = p.spans; count = 9 }) (record { spans = set p.spans p.count t; count = p.count + 1 })

-- the bytes of the patterns in their places
unfoldable pub held : List ℕ → Patterns → List (List ℕ)
held s p = map (span_bytes s) (take p.count p.spans)

-- the same, unless there were more than eight
unfoldable pub kept : List ℕ → Patterns → Option (List (List ℕ))
kept s p = cond (leb p.count 8) (some (held s p)) none

-- "At most 8 patterns": the paper's list, unless it is longer
unfoldable pub eight : List (List ℕ) → Option (List (List ℕ))
eight ps = cond (leb (length ps) 8) (some ps) none

-- the patterns of a list after those that were read before it
unfoldable pub join_to : List (List ℕ) → Got (List (List ℕ)) → Option (Got (Option (List (List ℕ))))
join_to done g = some (got (eight (done ++ g.val)) g.rest)

unfoldable pub up_to_eight : Option (Got (List (List ℕ))) → Option (Got (Option (List (List ℕ))))
up_to_eight x = x >>= join_to []

-- patterns that were read, and what is left of the line after them
unfoldable pub patterns_is : List ℕ → Maybe (Patterns × Cursor) → Option (Got (Option (List (List ℕ))))
patterns_is s (Some (p, c)) = some (got (kept s p) (drop c.at s))
patterns_is s None = none

-- every place lies inside the line
abbrev pub Places : List ℕ → List Span → Type 0
Places s [] = Unit {0}
Places s (t ∷ ts) = Lies s t × Places s ts

pub record Placed (s : List ℕ) (p : Patterns) : Type 0 where
  pub size : length p.spans ≡ 8
  pub places : Places s p.spans
  -- and those after the patterns are empty
  pub unused : drop p.count p.spans ≡ replicate (8 - p.count) nowhere

-- the places of patterns that were read
unfoldable pub PlacedIn : List ℕ → Maybe (Patterns × Cursor) → Type 0
PlacedIn s (Some (p, c)) = Placed s p
PlacedIn s None = Unit {0}
