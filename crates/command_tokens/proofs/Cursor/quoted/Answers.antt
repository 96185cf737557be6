-- `Cursor::quoted`: what is left of a quoted string is read byte by byte, up to the quote that closes it. Rests on Quoting.
use Rattle.command_tokens.specs.Tokens.{TokenIn, token_is}
use Rattle.listing_rules.proofs.Prelude.{◌∙◌, ap, sym, arith}
use Rattle.command_tokens.proofs.Quoting.{quoted_out, quoted_more, quoted_end, quoted_bad, closed_is}
use Rattle.command_tokens.proofs.Cursor.quoted.Goals as goal

pub returns-in-End : goal.returns-in-End
unfolding TokenIn
returns-in-End c = record {
  result_value = ap (token_is _) (sym (quoted_end _ _ _ _ (omega arith) (sym c.quoted_step.ensures ∙ c.in-End.is)) ∙ c.loop-end.invariant.1) ∙ closed_is _ _;
  token_in = record { order = omega arith; within = omega arith; past = omega arith; inside = omega arith };
}

pub returns-in-Bad : goal.returns-in-Bad
unfolding TokenIn
returns-in-Bad c = record {
  result_value = ap (token_is _) (sym (quoted_bad _ _ _ _ (omega arith) (sym c.quoted_step.ensures ∙ c.in-Bad.is)) ∙ c.loop-end.invariant.1) ∙ closed_is _ _;
  token_in = tt;
}

pub loop-end-preserved : goal.loop-end-preserved
loop-end-preserved c =
    (omega arith, sym (quoted_more _ _ _ _ (omega arith) _ (sym c.quoted_step.ensures ∙ c.in-More.is)) ∙ c.loop-end.invariant.1)

pub returns : goal.returns
unfolding TokenIn
returns c = record {
  result_value = ap (token_is _) (sym (quoted_out _ _ _ _ (omega arith)) ∙ c.loop-end.invariant.1) ∙ closed_is _ _;
  token_in = tt;
}
