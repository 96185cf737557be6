-- `Cursor::string_or`: the first byte tells a quoted string, a literal and a bare run apart. Rests on Bytes and Binds.
use Rattle.listing_rules.proofs.Prelude.{◌∙◌, sym, arith}
use Rattle.command_tokens.proofs.Binds.{bare_token}
use Rattle.command_tokens.proofs.Bytes.{string_quoted, string_literal, string_bare, token_later}
use Rattle.command_tokens.proofs.Cursor.string_or.Goals as goal

pub returns-then-b-eq-QUOTE : goal.returns-then-b-eq-QUOTE
returns-then-b-eq-QUOTE c =
    record { result_value = c.quoted.ensures.result_value ∙ sym (string_quoted _ _ c.args.self.at (sym c.byte_at-b.ensures ∙ c.if-b-eq-QUOTE.true)); token_in = token_later _ _ _ _ (omega arith) c.quoted.ensures.token_in }

pub returns-then-b-eq123 : goal.returns-then-b-eq123
returns-then-b-eq123 c =
    record { result_value = c.literal.ensures.result_value ∙ sym (string_literal _ _ c.args.self.at (sym c.byte_at-b.ensures ∙ c.if-b-eq123.true)); token_in = token_later _ _ _ _ (omega arith) c.literal.ensures.token_in }

pub returns : goal.returns
returns c =
    record {
      result_value = c.run.ensures.result_value ∙ sym (string_bare _ _ c.args.self.at (λ e. c.if-b-eq-QUOTE.false (c.byte_at-b.ensures ∙ e))
          (λ e. c.if-b-eq123.false (c.byte_at-b.ensures ∙ e)));
      token_in = bare_token _ _ _ c.run.ensures.bare_in;
    }
