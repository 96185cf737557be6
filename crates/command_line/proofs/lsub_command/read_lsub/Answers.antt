-- `read_lsub`: part by part off the grammar, or 8, or the command of the parts. Rests on Lsub, Refusing and Judging.
use Rattle.listing_rules.proofs.Prelude.{◌∙◌, ◌≡◌, ap, sym, drop, not-false, not-true}
use Rattle.std.specs.Prelude.{Err}
use Rattle.std.proofs.Common.{rules}
use Rattle.octets.specs.declared.refusals.Refusal.TheVariants.{Grammar, Patterns as RefusedPatterns}
use Rattle.listing_rules.specs.Lists.{every}
use Rattle.listing_rules.specs.Command.{judged_lsub}
use Rattle.command_tokens.specs.Spans.{span_bytes, Lies}
use Rattle.command_tokens.proofs.Binds.{token_found, token_missing, token_ahead, behind_at, behind_nothing}
use Rattle.command_tokens.proofs.Cuts.{lies_ahead}
use Rattle.command_patterns.specs.declared.Patterns.{Patterns}
use Rattle.command_patterns.specs.declared.Measured.{Measured}
use Rattle.command_patterns.specs.Places.{no_patterns, with_span}
use Rattle.command_patterns.specs.Canonical.{canonical_of}
use Rattle.command_line.specs.declared.reading.Word.TheVariants.{Lsub}
use Rattle.command_line.specs.Words.{worded_as}
use Rattle.command_line.specs.Commands.{meaning_of, meaning_as, patterns_of, short}
use Rattle.command_line.proofs.Judging.{command_of, inside_lsub, refuses}
use Rattle.command_line.proofs.Refusing.{reference_off, reference_alone, reference_read}
use Rattle.command_line.proofs.Lsub.{one_pattern, lsub_is, pattern_off, pattern_goes_on, pattern_ends, one_placed, one_counts, lsub_long}
use Rattle.command_line.proofs.Lsub.{lsub_fits}
use Rattle.command_line.proofs.lsub_command.read_lsub.Goals as goal
use Rattle.command_line.proofs.lsub_command.read_lsub.Goals.{In_ok-third, After-measure-size}

pub returns-in_err-reference : goal.returns-in_err-reference
unfolding worded_as
returns-in_err-reference c =
    let off : c.from_residual.result ≡ Err Grammar = search rules in
    rw off (refuses _ Grammar (lsub_is _ _ ∙ reference_off _ _
    (token_missing _ c.argument.ensures.result_value c.in_err-reference.ensures.ok_part)))

pub returns-in_err-third : goal.returns-in_err-third
unfolding worded_as
returns-in_err-third c =
    let off : c.from_residual-in_err-third.result ≡ Err Grammar = search rules in
    rw off (refuses _ Grammar (lsub_is _ _ ∙ reference_alone _ _ _ _
    (token_found _ c.argument.ensures.result_value c.in_ok-reference.ensures.ok_part)
    (behind_nothing _ c.space.ensures.result_value c.in_err-third.ensures.ok_part)))

-- the space before the pattern
spaced : (c : In_ok-third) → worded_as Lsub (span_bytes c.args.text.now c.args.tag) (drop c.args.first.at c.args.text.now) ≡
    one_pattern (span_bytes c.args.text.now c.args.tag) (span_bytes c.args.text.now c.in_ok-reference.reference) (drop c.in_ok-third.third.at c.args.text.now)
unfolding worded_as
spaced c =
    lsub_is _ _ ∙ reference_read _ (one_pattern _) _ _ (token_found _ c.argument.ensures.result_value c.in_ok-reference.ensures.ok_part) _
    (behind_at _ c.space.ensures.result_value c.in_ok-third.ensures.ok_part)

pub returns-in_err-pattern : goal.returns-in_err-pattern
returns-in_err-pattern c =
    let off : c.from_residual-in_err-pattern.result ≡ Err Grammar = search rules in
    rw off (refuses _ Grammar (spaced (goal.at.returns-in_err-pattern c).In_ok-third ∙ pattern_off _ _ _
    (token_missing _ c.pattern.ensures.result_value c.in_err-pattern.ensures.ok_part)))

pub returns-then-rest-text : goal.returns-then-rest-text
returns-then-rest-text c =
    refuses _ Grammar
    (spaced (goal.at.returns-then-rest-text c).In_ok-third ∙ pattern_goes_on _ _ _ c.args.text.now c.in_ok-pattern.rest.at _
    (token_found _ c.pattern.ensures.result_value c.in_ok-pattern.ensures.ok_part) c.if-rest-text.true)

-- ---- the end of the line, and the judgement

module _ (c : After-measure-size) where
  placed : c.with-patterns.result ≡ with_span no_patterns c.in_ok-pattern.pattern
  placed = c.with-patterns.ensures ∙ ap (λ (p : Patterns). with_span p c.in_ok-pattern.pattern) c.none-none.ensures

  lies : Lies c.args.text.now c.in_ok-pattern.pattern
  lies = lies_ahead _ _ _ _ (token_ahead _ _ c.pattern.ensures.token_in c.in_ok-pattern.ensures.ok_part)

  ended : one_pattern (span_bytes c.args.text.now c.args.tag) (span_bytes c.args.text.now c.in_ok-reference.reference) (drop c.in_ok-third.third.at c.args.text.now) ≡
      judged_lsub (span_bytes c.args.text.now c.args.tag)
      (record { reference = span_bytes c.args.text.now c.in_ok-reference.reference; pat = span_bytes c.args.text.now c.in_ok-pattern.pattern })
  ended =
      pattern_ends _ _ _ c.args.text.now c.in_ok-pattern.rest.at _
      (token_found _ c.pattern.ensures.result_value c.in_ok-pattern.ensures.ok_part) c.if-rest-text.false

  fits : every short (canonical_of c.args.text.now c.in_ok-reference.reference c.with-patterns.result) ≡ c.measure-size.result.fit
  fits = sym (ap (λ (m : Measured). m.fit) c.measure-size.ensures)

pub returns-then-not-size : goal.returns-then-not-size
returns-then-not-size c =
    let at = goal.at.returns-then-not-size c in
    let m = at.After-measure-size in
    refuses _ RefusedPatterns (spaced at.In_ok-third ∙ ended m ∙ lsub_long _ c.in_ok-reference.reference c.in_ok-pattern.pattern _
    (placed m) (lies m) _ (fits m ∙ not-true _ c.if-not-size.true))

pub returns : goal.returns
unfolding meaning_of meaning_as patterns_of command_of
returns c =
    let at = goal.at.returns c in
    let m = at.After-measure-size in
    let ref = c.in_ok-reference.reference in
    record {
      means =
          sym (spaced at.In_ok-third ∙ ended m ∙ lsub_fits _ ref c.in_ok-pattern.pattern _ (placed m) (lies m) _
          (fits m ∙ not-false _ c.if-not-size.false));
      inside = λ h. inside_lsub _ _ ref _ h
          (lies_ahead _ _ _ _ (token_ahead _ _ c.argument.ensures.token_in c.in_ok-reference.ensures.ok_part))
          (one_placed _ ref _ _ (placed m) (lies m)) (one_counts _ ref _ _ (placed m) (lies m));
    }
