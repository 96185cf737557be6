-- `read_patterns`: a list in parentheses, or one pattern. Rests on Filling, and on Binds of command_tokens.
use Rattle.listing_rules.proofs.Prelude.{◌∙◌, ap, subst, sym, Option, some, List, [], ◌∷◌, ℕ, arith, drop}
use Rattle.listing_rules.specs.Tokens.{got}
use Rattle.command_tokens.specs.Spans.{span_bytes}
use Rattle.command_tokens.proofs.Binds.{token_found, token_missing, token_ahead}
use Rattle.command_tokens.proofs.Bytes.{inside}
use Rattle.command_tokens.proofs.Cuts.{lies_ahead}
use Rattle.command_patterns.specs.declared.Patterns.{Patterns}
use Rattle.command_patterns.specs.Places.{with_span, up_to_eight, patterns_is, PlacedIn}
use Rattle.command_patterns.proofs.Filling.{Filled, filled_none, filled_with, kept_filled, placed_filled, patterns_list, patterns_off}
use Rattle.command_patterns.proofs.Filling.{patterns_single}
use Rattle.command_patterns.proofs.places.read_patterns.Goals as goal

pub overflow_add-at : goal.overflow_add-at
overflow_add-at c =
    omega (arith, inside c.args.text.now c.args.first.at (omega arith))

-- a list
pub returns-then-byte_at-eq40 : goal.returns-then-byte_at-eq40
returns-then-byte_at-eq40 c =
    record { result_value = c.read_parted.ensures.result_value ∙ sym (ap up_to_eight (patterns_list _ c.args.first.at (sym c.byte_at.ensures ∙ c.if-byte_at-eq40.true))); placed = c.read_parted.ensures.placed }

-- neither
pub returns-in_err-span : goal.returns-in_err-span
unfolding patterns_is PlacedIn
returns-in_err-span c = rw c.from_residual.ensures (record {
  result_value = sym (patterns_off c.args.text.now _ (λ e. c.if-byte_at-eq40.false (c.byte_at.ensures ∙ e))
      (token_missing _ c.pattern.ensures.result_value c.in_err-span.was));
  placed = tt;
})

-- one pattern
pub returns : goal.returns
unfolding patterns_is PlacedIn
returns c =
    let line = c.args.text.now in
    let span = c.in_ok-span.span in
    let bytes = span_bytes line span in
    let found = c.in_ok-span.was in
    let with = c.with.ensures ∙ ap (λ (p : Patterns). with_span p span) c.none-none.ensures in
    let one = subst (λ (p : Patterns). Filled line p (bytes ∷ [])) (sym with) (filled_with line _ [] span (filled_none line) (lies_ahead _ _ _ _ (token_ahead _ _ c.pattern.ensures.token_in found))) in record {
      result_value = ap (λ (x : Option (List (List ℕ))). some (got x (drop c.in_ok-span.next.at line))) (kept_filled _ _ _ one)
          ∙ sym (patterns_single line _ _ _ (λ e. c.if-byte_at-eq40.false (c.byte_at.ensures ∙ e)) (token_found _ c.pattern.ensures.result_value found));
      placed = placed_filled _ _ _ one;
    }
