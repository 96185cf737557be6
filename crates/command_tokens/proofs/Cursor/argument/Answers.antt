-- `Cursor::argument`: a space, and the astring after it. Rests on Binds.
use Rattle.listing_rules.proofs.Prelude.{◌∙◌, sym}
use Rattle.command_tokens.specs.Tokens.{token_is, TokenIn, argument}
use Rattle.command_tokens.proofs.Binds.{bind_none, bind_go, behind_at, behind_nothing, behind_ahead}
use Rattle.command_tokens.proofs.Bytes.{token_later}
use Rattle.command_tokens.proofs.Cursor.argument.Goals as goal

pub returns-in_err-next : goal.returns-in_err-next
unfolding token_is TokenIn argument
returns-in_err-next c =
    rw c.from_residual.ensures (record { result_value = sym (bind_none _ (behind_nothing _ c.space.ensures.result_value c.in_err-next.was)); token_in = tt })

pub returns : goal.returns
unfolding argument
returns c =
    let next = c.in_ok-next.was in
    record { result_value = c.astring.ensures.result_value ∙ sym (bind_go _ (behind_at _ c.space.ensures.result_value next)); token_in = token_later _ _ _ _ (behind_ahead _ _ c.space.ensures.behind_in next).0 c.astring.ensures.token_in }
