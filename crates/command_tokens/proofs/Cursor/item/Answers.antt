-- `Cursor::item`: an astring, of which only the place behind it counts. Rests on Binds.
use Rattle.listing_rules.specs.Tokens.{got}
use Rattle.listing_rules.proofs.Prelude.{sym}
use Rattle.command_tokens.specs.Tokens.{behind_is, BehindIn}
use Rattle.command_tokens.specs.Values.{string_item}
use Rattle.command_tokens.proofs.Binds.{bind_none, bind_go, token_found, token_missing, token_ahead}
use Rattle.command_tokens.proofs.Cursor.item.Goals as goal

pub returns-in_err-next : goal.returns-in_err-next
unfolding behind_is BehindIn string_item
returns-in_err-next c =
    rw c.from_residual.ensures (record { result_value = sym (bind_none _ (token_missing _ c.astring.ensures.result_value c.in_err-next.was)); behind_in = tt })

pub returns : goal.returns
unfolding behind_is BehindIn string_item got
returns c =
    let a = token_ahead _ _ c.astring.ensures.token_in c.in_ok-next.was in
    record { result_value = sym (bind_go _ (token_found _ c.astring.ensures.result_value c.in_ok-next.was)); behind_in = (a.past, a.inside) }
