-- What the cursor's methods answer, in the terms of document 01: a token is its bytes and what is left of the line behind it.
use Rattle.std.specs.Prelude.{Option as Maybe, Some, None}
use Rattle.std.specs.Prelude.{◌≡◌, Bool, true, false, cond, ◌||◌, List, [], ◌∷◌, ℕ, suc, ◌+◌, ◌≤◌, ◌<◌, eqb, length, drop}
use Rattle.std.proofs.Math.Option.{Option, none, some}
use Rattle.listing_rules.specs.Bytes.{text}
use Rattle.listing_rules.specs.Tokens.{Got, got, ◌>>=◌, after, astring, run, tag_byte, atom_byte, astring_byte, pattern_byte, digit_byte, line_byte}
use Rattle.command_tokens.specs.declared.Span.{Span}
use Rattle.command_tokens.specs.declared.Cursor.{Cursor}
use Rattle.command_tokens.specs.declared.tokens.Class.{Class}
use Rattle.command_tokens.specs.declared.tokens.Class.TheVariants.{Tag, Atom, Astring, Pattern, Digit}
use Rattle.command_tokens.specs.declared.tokens.Quote.{Quote}
use Rattle.command_tokens.specs.declared.tokens.Quote.TheVariants.{More, End, Bad}
use Rattle.command_tokens.specs.Spans.{span_bytes}

-- the paper's test for each class of bytes
abbrev pub class_byte : Class → ℕ → Bool
class_byte Tag = tag_byte
class_byte Atom = atom_byte
class_byte Astring = astring_byte
class_byte Pattern = pattern_byte
class_byte Digit = digit_byte

-- a token as the paper reads it
unfoldable pub token_is : List ℕ → Maybe (Span × Cursor) → Option (Got (List ℕ))
token_is s (Some (t, c)) = some (got (span_bytes s t) (drop c.at s))
token_is s None = none

-- what is left of the line, as the paper has it
unfoldable pub behind_is : List ℕ → Maybe Cursor → Option (List ℕ)
behind_is s (Some c) = some (drop c.at s)
behind_is s None = none

-- a token read at `at`: it ends further on, inside the line
pub record Ahead (s : List ℕ) (at : ℕ) (t : Span) (c : Cursor) : Type 0 where
  pub order : t.start ≤ t.end
  pub within : t.end ≤ c.at
  pub past : at < c.at
  pub inside : c.at ≤ length s

unfoldable pub TokenIn : List ℕ → ℕ → Maybe (Span × Cursor) → Type 0
TokenIn s at (Some (t, c)) = Ahead s at t c
TokenIn s at None = Unit {0}

-- a token that is not quoted: it begins where it was read
pub record Bare (s : List ℕ) (at : ℕ) (t : Span) (c : Cursor) : Type 0 where
  pub bare : t.quoted ≡ false
  pub front : t.start ≡ at
  pub ahead : Ahead s at t c

unfoldable pub BareIn : List ℕ → ℕ → Maybe (Span × Cursor) → Type 0
BareIn s at (Some (t, c)) = Bare s at t c
BareIn s at None = Unit {0}

unfoldable pub BehindIn : List ℕ → ℕ → Maybe Cursor → Type 0
BehindIn s at (Some c) = (at < c.at) × (c.at ≤ length s)
BehindIn s at None = Unit {0}

-- the place behind the longest run of bytes that pass the test
unfoldable pub run_end : (ℕ → Bool) → List ℕ → ℕ → ℕ
run_end p s at = at + length (run p (drop at s)).val

-- what a byte of a quoted string does: an escaped one is a quote or a backslash; else a quote ends the string, and other bytes are
-- those of a line
unfoldable pub quoted_step : Bool → ℕ → Quote
quoted_step true b = cond (eqb b 34 || eqb b 92) (More false) Bad
quoted_step false b = cond (eqb b 34) End (cond (line_byte b) (More (eqb b 92)) Bad)

-- how many bytes stand before the quote that closes the string
unfoldable pub closing : Bool → List ℕ → Option ℕ
closing esc [] = none
closing esc (x ∷ xs) = elim (quoted_step esc x) [ More e ↦ (closing e xs >>= λ k. some (suc k)) | End ↦ some 0 | Bad ↦ none ]

-- the token of a quoted string that began at `b`, of which `i` is the next place
unfoldable pub closed_at : ℕ → ℕ → Option ℕ → Maybe (Span × Cursor)
closed_at b i none = None
closed_at b i (some k) = Some ((record { start = b; end = i + k; quoted = true }), (record { at = i + k + 1 }))

-- "a space and the reference (astring)"
unfoldable pub argument : List ℕ → Option (Got (List ℕ))
argument t = after (text " ") t >>= λ u. astring u
