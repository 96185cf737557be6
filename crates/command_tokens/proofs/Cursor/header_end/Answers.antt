-- `Cursor::header_end`: a closing brace, CR and LF, one byte after the other. Rests on Binds and Bytes.
use Rattle.listing_rules.proofs.Prelude.{◌∙◌, sym, [], ◌∷◌, arith}
use Rattle.listing_rules.specs.Bytes.{text, crlf}
use Rattle.command_tokens.specs.Tokens.{behind_is, BehindIn}
use Rattle.command_tokens.proofs.Binds.{bind_none, bind_go, behind_at, behind_nothing, behind_ahead}
use Rattle.command_tokens.proofs.Bytes.{after_then, behind_later}
use Rattle.command_tokens.proofs.Cursor.header_end.Goals as goal

pub returns-in_err-second : goal.returns-in_err-second
unfolding text crlf behind_is BehindIn
returns-in_err-second c = rw c.from_residual.ensures (record {
  result_value = sym (after_then 125 (13 ∷ 10 ∷ []) _ ∙ bind_none _ (behind_nothing _ c.byte.ensures.result_value c.in_err-second.was));
  behind_in = tt;
})

pub returns-in_err-third : goal.returns-in_err-third
unfolding text crlf behind_is BehindIn
returns-in_err-third c = rw c.from_residual-in_err-third.ensures (record {
  result_value = sym (after_then 125 (13 ∷ 10 ∷ []) _ ∙ bind_go _ (behind_at _ c.byte.ensures.result_value c.in_ok-second.was) ∙ after_then 13
      (10 ∷ []) _ ∙ bind_none _ (behind_nothing _ c.byte-2.ensures.result_value c.in_err-third.was));
  behind_in = tt;
})

pub returns : goal.returns
unfolding text crlf
returns c =
    let s = c.args.text.now in
    let two = behind_ahead s _ c.byte.ensures.behind_in c.in_ok-second.was in
    let three = behind_ahead s _ c.byte-2.ensures.behind_in c.in_ok-third.was in record {
      result_value = c.byte-3.ensures.result_value ∙ sym (after_then 125 (13 ∷ 10 ∷ []) _ ∙ bind_go _
          (behind_at s c.byte.ensures.result_value c.in_ok-second.was) ∙ after_then 13 (10 ∷ []) _ ∙ bind_go _
          (behind_at s c.byte-2.ensures.result_value c.in_ok-third.was));
      behind_in = behind_later s _ _ _ (omega (arith, two.0, three.0)) c.byte-3.ensures.behind_in;
    }
