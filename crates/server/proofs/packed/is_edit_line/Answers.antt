-- `server::packed::is_edit_line` meets its contract: the kind of the command that was read, and no refusal is an edit. By EditLaws.
use Rattle.listing_rules.proofs.Prelude.{◌∙◌, ap}
use Rattle.listing_rules.specs.Command.{is_edit}
use Rattle.server.specs.Edits.{Reading}
use Rattle.server.proofs.EditLaws.{reads, kind_is_lem}
use Rattle.server.proofs.packed.is_edit_line.Goals as goal

pub returns-in_default : goal.returns-in_default
unfolding is_edit
returns-in_default c = ap is_edit c.in_default.ensures.result_value

pub returns : goal.returns
returns c =
    let told : Reading c.args.line.now c.read_command.result = record { means = c.read_command.ensures.result_value; inside = c.read_command.ensures.inside } in
    c.is_edit.ensures ∙ kind_is_lem _ _ (reads _ _ told _ c.in-Ok.is)
