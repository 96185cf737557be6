-- What a span of the line stands for.
use Rattle.std.specs.Prelude.{Bool, true, false, cond, ◌&&◌, not, List, [], ◌∷◌, ℕ, ◌-◌, ◌≤◌, eqb, length, take, drop}
use Rattle.command_tokens.specs.declared.Span.{Span}

-- the bytes of a quoted string without the backslashes that escape; the flag says that a backslash stands just before
unfoldable pub plain : Bool → List ℕ → List ℕ
plain esc [] = []
plain esc (x ∷ xs) =
    let skipped = plain true xs in
    let kept = x ∷ plain false xs in
    cond (not esc && eqb x 92) skipped kept

-- the bytes between the span's places, as they stand in the line
unfoldable pub raw_bytes : List ℕ → Span → List ℕ
raw_bytes s t = take (t.end - t.start) (drop t.start s)

-- the bytes that the span means: of a quoted string those without its escapes
unfoldable pub span_bytes : List ℕ → Span → List ℕ
span_bytes s t = cond t.quoted (plain false (raw_bytes s t)) (raw_bytes s t)

-- the span lies inside the line
pub record Lies (s : List ℕ) (t : Span) : Type 0 where
  pub order : t.start ≤ t.end
  pub inside : t.end ≤ length s

-- no part of the line
abbrev pub nowhere : Span
nowhere = record { start = 0; end = 0; quoted = false }
