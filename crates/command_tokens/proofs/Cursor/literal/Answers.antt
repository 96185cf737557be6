-- `Cursor::literal`: the digits, the end of the header, and then as many bytes as the number says, if they are there. Rests on Numbers and Binds.
use Rattle.listing_rules.proofs.Prelude.{◌∙◌, sym, arith, length-drop}
use Rattle.command_tokens.specs.Tokens.{token_is, TokenIn}
use Rattle.command_tokens.proofs.Binds.{token_found, token_missing, bare_ahead, behind_at, behind_nothing, behind_ahead}
use Rattle.command_tokens.proofs.Numbers.{literal_none, literal_open, literal_long, literal_cut, literal_whole, digits_number, bytes_token}
use Rattle.command_tokens.proofs.Cursor.literal.Goals as goal

pub returns-in_err-digits : goal.returns-in_err-digits
unfolding token_is TokenIn
returns-in_err-digits c = rw c.from_residual.ensures (record {
  result_value = sym (literal_none _ (token_missing _ c.run.ensures.result_value c.in_err-digits.was));
  token_in = tt;
})

pub returns-in_err-first : goal.returns-in_err-first
unfolding token_is TokenIn
returns-in_err-first c = rw c.from_residual-in_err-first.ensures (record {
  result_value = sym (literal_open _ _ _ (token_found _ c.run.ensures.result_value c.in_ok-digits.was)
      (behind_nothing _ c.header_end.ensures.result_value c.in_err-first.was));
  token_in = tt;
})

pub returns-then-size-gt-MAX_LITERAL : goal.returns-then-size-gt-MAX_LITERAL
unfolding token_is TokenIn
returns-then-size-gt-MAX_LITERAL c =
    let s = c.args.text.now in record {
      result_value = sym (literal_long _ _ _ (token_found s c.run.ensures.result_value c.in_ok-digits.was) _
          (digits_number s _ c.run.ensures.bare_in c.in_ok-digits.was c.number-size.ensures c.raw.ensures) _
          (behind_at s c.header_end.ensures.result_value c.in_ok-first.was) c.if-size-gt-MAX_LITERAL.true);
      token_in = tt;
    }

pub overflow_sub-text : goal.overflow_sub-text
overflow_sub-text c =
    omega (arith, (behind_ahead _ _ c.header_end.ensures.behind_in c.in_ok-first.was).1)

pub returns-then-text-start : goal.returns-then-text-start
unfolding token_is TokenIn
returns-then-text-start c =
    let s = c.args.text.now in record {
      result_value = sym (literal_cut _ _ _ (token_found s c.run.ensures.result_value c.in_ok-digits.was) _
          (digits_number s _ c.run.ensures.bare_in c.in_ok-digits.was c.number-size.ensures c.raw.ensures) _
          (behind_at s c.header_end.ensures.result_value c.in_ok-first.was)
          (omega (arith, c.if-text-start.true, length-drop c.in_ok-first.first.at s)));
      token_in = tt;
    }

pub returns : goal.returns
unfolding TokenIn
returns c =
    let s = c.args.text.now in
    let start = c.in_ok-first.first.at in
    let n = c.number-size.result in
    let digits = (bare_ahead s _ c.run.ensures.bare_in c.in_ok-digits.was).ahead in
    let header = behind_ahead s _ c.header_end.ensures.behind_in c.in_ok-first.was in record {
      result_value = bytes_token s start n ∙ sym (literal_whole _ _ _ (token_found s c.run.ensures.result_value c.in_ok-digits.was) n
          (digits_number s _ c.run.ensures.bare_in c.in_ok-digits.was c.number-size.ensures c.raw.ensures) _
          (behind_at s c.header_end.ensures.result_value c.in_ok-first.was) (omega arith)
          (omega (arith, c.if-text-start.false, header.1, length-drop start s)));
      token_in = record { order = omega arith; within = omega arith; past = omega (arith, digits.past, header.0); inside = omega (arith, c.if-text-start.false, header.1) };
    }
