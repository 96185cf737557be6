-- `read_parted`: the places hold the patterns that were read, and what is left of the list comes to the rest. Rests on Filling, and on
-- Parted of command_tokens.
use Rattle.listing_rules.proofs.Prelude.{◌∙◌, ◌≡◌, ap, subst, sym, Option, some, List, [], ◌++◌, ◌∷◌, ◌+◌, ◌<◌, ℕ, arith, drop, length}
use Rattle.listing_rules.specs.Tokens.{got, pattern}
use Rattle.command_tokens.specs.Spans.{span_bytes}
use Rattle.command_tokens.specs.Tokens.{Ahead}
use Rattle.command_tokens.proofs.Binds.{token_found, token_missing, token_ahead}
use Rattle.command_tokens.proofs.Bytes.{inside}
use Rattle.command_tokens.proofs.Cuts.{lies_ahead}
use Rattle.command_tokens.proofs.Parted.{parting_first, parting_off, parting_close, parting_other, parting_space}
use Rattle.command_patterns.specs.declared.Patterns.{Patterns}
use Rattle.command_patterns.specs.Places.{join_to, up_to_eight, patterns_is, PlacedIn}
use Rattle.command_patterns.proofs.Filling.{Filled, filled_none, filled_with, kept_filled, placed_filled, join_more}
use Rattle.command_patterns.proofs.places.read_parted.Goals as goal
use Rattle.command_patterns.proofs.places.read_parted.Goals.{After-byte_at-b}

pub loop-span-init : goal.loop-span-init
unfolding up_to_eight
loop-span-init c = ([], rw c.none-found.ensures (filled_none _), parting_first pattern (join_to []) _ _)

-- no pattern
pub returns-in_err-span : goal.returns-in_err-span
unfolding patterns_is PlacedIn
returns-in_err-span c = rw c.from_residual.ensures (record {
  result_value = sym (parting_off pattern _ _ _ _ c.loop-span.invariant.2 (token_missing _ c.pattern.ensures.result_value c.in_err-span.was));
  placed = tt;
})

-- a pattern, the places with it, and the byte behind it
module _ (c : After-byte_at-b) where
  abbrev bytes : List ℕ
  bytes = span_bytes c.args.text.now c.in_ok-span.span

  read : pattern (drop c.loop-span.at c.args.text.now) ≡ some (got bytes (drop c.in_ok-span.next.at c.args.text.now))
  read = token_found _ c.pattern.ensures.result_value c.in_ok-span.was

  ahead : Ahead c.args.text.now c.loop-span.at c.in_ok-span.span c.in_ok-span.next
  ahead = token_ahead _ _ c.pattern.ensures.token_in c.in_ok-span.was

  more : Filled c.args.text.now c.with-found.result (c.loop-span.invariant.0 ++ (bytes ∷ []))
  more =
      subst (λ (p : Patterns). Filled c.args.text.now p (c.loop-span.invariant.0 ++ (bytes ∷ []))) (sym c.with-found.ensures)
      (filled_with _ _ _ _ c.loop-span.invariant.1 (lies_ahead _ _ _ _ ahead))

  further : 0 < c.byte_at-b.result → c.in_ok-span.next.at < length c.args.text.now
  further h = inside c.args.text.now _ (omega (arith, c.byte_at-b.ensures))

-- a pattern and the closing parenthesis
pub returns-then-b-eq41 : goal.returns-then-b-eq41
unfolding patterns_is PlacedIn join_to got
returns-then-b-eq41 c =
    let at = (goal.at.returns-then-b-eq41 c).After-byte_at-b in
    let a : Ahead c.args.text.now c.loop-span.at c.in_ok-span.span c.in_ok-span.next = ahead at in
    let last =
    parting_close pattern _ _ _ _ c.loop-span.invariant.2 _ _ (read at) a.past a.inside
    (sym c.byte_at-b.ensures ∙ c.if-b-eq41.true) in
    record {
      result_value =
          ap (λ (x : Option (List (List ℕ))). some (got x (drop (c.in_ok-span.next.at + 1) c.args.text.now))) (kept_filled _ _ _ (more at))
          ∙ sym last;
      placed = placed_filled _ _ _ (more at);
    }

-- a pattern and another byte
pub returns-then-b-ne32 : goal.returns-then-b-ne32
unfolding patterns_is PlacedIn
returns-then-b-ne32 c =
    let at = (goal.at.returns-then-b-ne32 c).After-byte_at-b in
    let a : Ahead c.args.text.now c.loop-span.at c.in_ok-span.span c.in_ok-span.next = ahead at in
    let byte = c.byte_at-b.ensures in
    record {
      result_value =
          sym (parting_other pattern _ _ _ _ c.loop-span.invariant.2 _ _ (read at) a.past a.inside (λ e. c.if-b-eq41.false (byte ∙ e))
          (λ e. c.if-b-ne32.true (byte ∙ e)));
      placed = tt;
    }

pub overflow_add-result : goal.overflow_add-result
overflow_add-result c = omega (arith, further (goal.at.overflow_add-result c).After-byte_at-b (omega arith))

pub overflow_add-at : goal.overflow_add-at
overflow_add-at c = omega (arith, further (goal.at.overflow_add-at c).After-byte_at-b (omega arith))

pub loop-span-smaller : goal.loop-span-smaller
loop-span-smaller c =
    let at = (goal.at.loop-span-smaller c).After-byte_at-b in
    omega (arith, (ahead at).past, further at (omega arith))

-- a pattern and a space
pub loop-span-preserved : goal.loop-span-preserved
loop-span-preserved c =
    let at = (goal.at.loop-span-preserved c).After-byte_at-b in
    let a : Ahead c.args.text.now c.loop-span.at c.in_ok-span.span c.in_ok-span.next = ahead at in (
      c.loop-span.invariant.0 ++ (bytes at ∷ []),
      more at,
      parting_space pattern _ _ _ _ _ c.loop-span.invariant.2 _ _ (read at) a.past a.inside (sym c.byte_at-b.ensures ∙ c.if-b-ne32.false)
          (join_more _ (bytes at)),
    )
