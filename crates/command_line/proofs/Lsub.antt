-- What stands after the word LSUB, as the code reads it: a reference, one pattern, the end of the line; and 8. Rests on Refusing, and on
-- Filling of command_patterns.
use Rattle.listing_rules.proofs.Prelude.{◌∙◌, ◌≡◌, ap, subst, sym, Bool, cond, false, true, none, some, List, [], ◌∷◌, ◌<◌, ◌≤◌, ℕ, arith, drop}
use Rattle.listing_rules.proofs.Prelude.{length}
use Rattle.listing_rules.specs.Bytes.{is_empty}
use Rattle.listing_rules.specs.Lists.{every}
use Rattle.listing_rules.specs.Tokens.{Got, got, ◌>>=◌, pattern}
use Rattle.listing_rules.specs.Command.{Parsed, refused, subscriptions, canonical, lsub_args, judged_lsub, or_refuse}
use Rattle.command_tokens.specs.declared.Span.{Span}
use Rattle.command_tokens.specs.Spans.{span_bytes, Lies}
use Rattle.command_patterns.specs.declared.Patterns.{Patterns}
use Rattle.command_patterns.specs.Places.{no_patterns, with_span, Placed}
use Rattle.command_patterns.specs.Canonical.{canonical_of}
use Rattle.command_patterns.proofs.Filling.{Filled, filled_none, filled_with, placed_filled}
use Rattle.command_line.specs.Commands.{short}
use Rattle.command_line.proofs.Refusing.{read_on, read_off, refuse_bind, referred, referred_is, line_ends, line_goes_on}

-- after the pattern: the end of the line, and the judgement
after_pattern : List ℕ → List ℕ → Got (List ℕ) → Parsed
after_pattern tag ref p = or_refuse 4 (cond (is_empty p.rest) (some (record { reference = ref; pat = p.val })) none) (judged_lsub tag)

-- after the space before the pattern
pub one_pattern : List ℕ → List ℕ → List ℕ → Parsed
one_pattern tag ref v = or_refuse 4 (pattern v) (after_pattern tag ref)

-- LSUB, part by part
pub lsub_is : (tag t : List ℕ) → or_refuse 4 (lsub_args t) (judged_lsub tag) ≡ referred t (one_pattern tag)
unfolding lsub_args one_pattern after_pattern
lsub_is tag t =
    referred_is t (λ r v. pattern v >>= λ p. cond (is_empty p.rest) (some (record { reference = r.val; pat = p.val })) none) (judged_lsub tag)
    (one_pattern tag) (λ r v. refuse_bind (pattern v) _ (judged_lsub tag))

module _ (tag ref v : List ℕ) where
  pub pattern_off : pattern v ≡ none → one_pattern tag ref v ≡ refused 4
  unfolding one_pattern
  pattern_off e = read_off 4 _ e

  module _ (s : List ℕ) (i : ℕ) (p : List ℕ) (e : pattern v ≡ some (got p (drop i s))) where
    pub pattern_goes_on : i < length s → one_pattern tag ref v ≡ refused 4
    unfolding one_pattern after_pattern got
    pattern_goes_on h = read_on 4 (after_pattern tag ref) e ∙ line_goes_on s i _ (judged_lsub tag) h

    pub pattern_ends : length s ≤ i → one_pattern tag ref v ≡ judged_lsub tag (record { reference = ref; pat = p })
    unfolding one_pattern after_pattern got
    pattern_ends h = read_on 4 (after_pattern tag ref) e ∙ line_ends s i _ (judged_lsub tag) h

-- one pattern in the places of a command: its canonical forms, and with them 8 or the subscriptions
module _ (s : List ℕ) (r t : Span) (p : Patterns) (placed : p ≡ with_span no_patterns t) (lies : Lies s t) where
  filled : Filled s p (span_bytes s t ∷ [])
  filled = subst (λ (x : Patterns). Filled s x (span_bytes s t ∷ [])) (sym placed) (filled_with s no_patterns [] t (filled_none s) lies)

  pub one_placed : Placed s p
  one_placed = placed_filled s p _ filled

  pub one_counts : p.count ≤ 8
  one_counts = omega (arith, filled.count)

  judged_as : (tag : List ℕ) (o : Bool) → every short (canonical_of s r p) ≡ o →
      judged_lsub tag (record { reference = span_bytes s r; pat = span_bytes s t }) ≡ cond o (subscriptions tag (canonical_of s r p)) (refused 8)
  unfolding judged_lsub
  judged_as tag o e =
      ap (λ (ps : List (List ℕ)). cond (every short (canonical (span_bytes s r) ps)) (subscriptions tag (canonical (span_bytes s r) ps)) (refused 8))
      (sym (filled.bytes (omega arith))) ∙ rw e

  pub lsub_long : (tag : List ℕ) → every short (canonical_of s r p) ≡ false → judged_lsub tag (record { reference = span_bytes s r; pat = span_bytes s t }) ≡ refused 8
  lsub_long tag e = judged_as tag false e

  pub lsub_fits : (tag : List ℕ) → every short (canonical_of s r p) ≡ true → judged_lsub tag (record { reference = span_bytes s r; pat = span_bytes s t }) ≡ subscriptions tag (canonical_of s r p)
  lsub_fits tag e = judged_as tag true e
