-- The text of the patterns from a place of the list on. Rests on PackedPatterns and OptionWords.
use Rattle.listing_rules.proofs.Prelude.{◌∙◌, ◌≡◌, ap, refl, sym, Bool, false, true, List, [], ◌++◌, ◌≤◌, map, ℕ, drop, length}
use Rattle.listing_rules.specs.Lines.{spaced}
use Rattle.listing_rules.specs.LineReader.{separated}
use Rattle.listing_rules.specs.Joining.{packed_patterns, string_text}
use Rattle.command_writer.specs.declared.patterns.Pattern.{Pattern}
use Rattle.command_writer.specs.Patterns.{pattern_bytes, PatternAt}
use Rattle.command_writer.proofs.PackedPatterns.{patterns_end}
use Rattle.command_writer.proofs.OptionWords.{tail_text, tail_next, tail_none, gap_word}

abbrev pub text_from : Bool → List ℕ → ℕ → List ℕ
text_from first l at = tail_text first (map string_text (packed_patterns (drop at l)))

pub text_whole : (l : List ℕ) → spaced (map string_text (packed_patterns l)) ≡ text_from true l 0
unfolding tail_text
text_whole l = refl

pub text_here : (first : Bool) {l : List ℕ} {at : ℕ} {p : Pattern} → PatternAt l at p
    → text_from first l at ≡ (separated first [] ++ string_text (pattern_bytes l p)) ++ text_from false l p.next
text_here first {l} {at} {p} f =
    ap (λ (ps : List (List ℕ)). tail_text first (map string_text ps)) f.first
    ∙ tail_next first (string_text (pattern_bytes l p)) (map string_text (packed_patterns (drop p.next l)))
    ∙ ap (λ (x : List ℕ). x ++ text_from false l p.next) (sym (gap_word first (string_text (pattern_bytes l p))))

pub text_end : (first : Bool) (l : List ℕ) (at : ℕ) → length l ≤ at → text_from first l at ≡ []
text_end first l at h = rw (patterns_end l at h) (tail_none first)
