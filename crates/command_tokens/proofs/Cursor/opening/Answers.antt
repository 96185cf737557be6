-- `Cursor::opening`: a space, and then an opening parenthesis. Rests on Binds and Bytes.
use Rattle.listing_rules.proofs.Prelude.{◌∙◌, sym, [], ◌∷◌}
use Rattle.command_tokens.specs.Tokens.{behind_is, BehindIn}
use Rattle.command_tokens.proofs.Bytes.{after_then, behind_later}
use Rattle.command_tokens.proofs.Binds.{bind_none, bind_go, behind_at, behind_nothing, behind_ahead}
use Rattle.listing_rules.specs.Bytes.{text}
use Rattle.command_tokens.proofs.Cursor.opening.Goals as goal

pub returns-in_err-next : goal.returns-in_err-next
unfolding text behind_is BehindIn
returns-in_err-next c =
    rw c.from_residual.ensures (record { result_value = sym (after_then 32 (40 ∷ []) _ ∙ bind_none _ (behind_nothing _ c.byte.ensures.result_value c.in_err-next.was)); behind_in = tt })

pub returns : goal.returns
unfolding text
returns c =
    record { result_value = c.byte-2.ensures.result_value ∙ sym (after_then 32 (40 ∷ []) _ ∙ bind_go _ (behind_at _ c.byte.ensures.result_value c.in_ok-next.was)); behind_in = behind_later _ _ _ _ (behind_ahead _ _ c.byte.ensures.behind_in c.in_ok-next.was).0 c.byte-2.ensures.behind_in }
