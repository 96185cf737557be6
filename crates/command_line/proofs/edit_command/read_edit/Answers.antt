-- `read_edit`: no name, something after the name, or the command with the name. Rests on Edits.
use Rattle.std.specs.Prelude.{◌≡◌, Err}
use Rattle.std.proofs.Common.{rules}
use Rattle.octets.specs.declared.refusals.Refusal.TheVariants.{Grammar}
use Rattle.command_tokens.proofs.Binds.{token_found, token_missing, token_ahead}
use Rattle.command_tokens.proofs.Cuts.{lies_ahead}
use Rattle.command_line.proofs.Edits.{name_off, name_goes_on, name_ends, no_name, one_name}
use Rattle.command_line.proofs.edit_command.read_edit.Goals as goal

pub returns-in_err-name : goal.returns-in_err-name
returns-in_err-name c =
    let off : c.from_residual.result ≡ Err Grammar = search rules in
    rw off (no_name _ _ _ (name_off _ (token_missing _ c.argument.ensures.result_value c.in_err-name.ensures.ok_part)))

pub returns-then-rest-text : goal.returns-then-rest-text
returns-then-rest-text c =
    let read = token_found _ c.argument.ensures.result_value c.in_ok-name.ensures.ok_part in
    no_name _ _ _ (name_goes_on _ c.args.text.now c.in_ok-name.rest.at _ read c.if-rest-text.true)

pub returns : goal.returns
returns c =
    let found = c.in_ok-name.ensures.ok_part in
    let read = token_found _ c.argument.ensures.result_value found in
    let lies = lies_ahead _ _ _ _ (token_ahead _ _ c.argument.ensures.token_in found) in
    one_name _ _ _ c.in_ok-name.name (name_ends _ c.args.text.now c.in_ok-name.rest.at _ read c.if-rest-text.false) lies c.named.ensures
