-- What the reader's steps find at a place of the line: the definitions' readers, which take what is left of the line, in terms of
-- the place that it begins at.
use Rattle.std.specs.Prelude.{Option as Maybe, Some, None}
use Rattle.std.specs.Prelude.{◌≡◌, true, false, List, [], ℕ, ◌≤◌, ◌<◌, length, drop}
use Rattle.std.proofs.Math.Option.{Option, none, some}
use Rattle.std.proofs.lemmas.List.Edits.{sets}
use Rattle.listing_rules.specs.Tokens.{Got, got, after, with_first, unquoted, ◌>>=◌}
use Rattle.listing_rules.specs.Options.{Criteria, criteria_number}
use Rattle.listing_rules.specs.Lines.{attribute_names}
use Rattle.listing_rules.specs.LineReader.{read_chosen}
use Rattle.list_line.specs.Members.{set_of}
use Rattle.list_line.specs.declared.criteria.Criteria.{Criteria as CriteriaBits}
use Rattle.line_reader.specs.declared.Chosen.{Chosen}
use Rattle.line_reader.specs.declared.Piece.{Piece}
use Rattle.line_reader.specs.declared.Piece.TheVariants.{Byte, End, Missing as NoPiece}

-- the text t at the place `at`
abbrev pub Skips : List ℕ → ℕ → List ℕ → Maybe ℕ → Type 0
Skips l at t (Some e) = (after t (drop at l) ≡ some (drop e l)) × (e ≤ length l)
Skips l at t None = after t (drop at l) ≡ none

-- the attributes from the place `from` on
pub record Chooses (l : List ℕ) (from : ℕ) (r : Chosen) : Type 0 where
  pub chosen : r.bits ≡ set_of (read_chosen true attribute_names (drop from l)).val
  pub rest : (read_chosen true attribute_names (drop from l)).rest ≡ drop r.at l
  pub inside : r.at ≤ length l

-- the next byte of a quoted string
abbrev pub Next : List ℕ → ℕ → Piece → Type 0
Next l i (Byte b j) = (unquoted false (drop i l) ≡ (unquoted false (drop j l) >>= λ g. some (with_first b g))) × (i < j) × (j ≤ length l)
Next l i (End j) = (unquoted false (drop i l) ≡ some (got [] (drop j l))) × (j ≤ length l)
Next l i NoPiece = unquoted false (drop i l) ≡ none

-- a quoted string from the place `from` on, read to the front of a buffer that was `d` and is `e` then; none stands there, or one
-- that is longer than the buffer
abbrev pub Names : List ℕ → ℕ → List ℕ → List ℕ → Maybe (ℕ × ℕ) → Type 0
Names l from d e (Some (n, j)) = (s : List ℕ) × (unquoted false (drop from l) ≡ some (got s (drop j l))) × (j ≤ length l) × (n ≡ length s) × (n ≤ length d) × (e ≡ sets d 0 s)
Names l from d e None = (g : Got (List ℕ)) → unquoted false (drop from l) ≡ some g → length d < length g.val

-- what stands behind the name
unfoldable pub tail_is : Option Criteria → Maybe CriteriaBits
tail_is none = None
tail_is (some c) = Some (record { bits = criteria_number c })
