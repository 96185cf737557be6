-- `server::edit::edit_line` meets its contract: the name is spelled in its buffer, and what `edit` returns is answered. By EditAnswers.
use Rattle.listing_rules.proofs.Prelude.{◌∙◌, ◌≡◌, ap, sym, ℕ, arith, length, length-replicate}
use Rattle.listing_rules.proofs.LineLength.{edit_short}
use Rattle.command_tokens.specs.Spans.{span_bytes}
use Rattle.command_line.proofs.Edits.{name_short}
use Rattle.command_tokens.proofs.Binds.{bare_bytes}
use Rattle.server.proofs.EditLaws.{kind_is_lem}
use Rattle.server.proofs.EditAnswers.{line_refused, line_done}
use Rattle.server.proofs.edit.edit_line.Goals as goal

pub put_spelled-n-requires : goal.put_spelled-n-requires
put_spelled-n-requires c =
    let a = c.args in
    omega
    (arith, name_short a.asked.line.now a.asked.command, edit_short _ (sym (kind_is_lem _ _ c.args.asked.reads) ∙ c.requires), ap length c.filled-name.ensures ∙ length-replicate {A = ℕ} 2048 0)

pub returns-in-Err : goal.returns-in-Err
returns-in-Err c =
    let tag_is : c.raw-tag.result.now ≡ span_bytes c.args.asked.line.now c.args.asked.command.tag = c.raw-tag.ensures ∙ sym (bare_bytes _ _ c.args.asked.reads.inside.bare) in
    λ spaces listed.
    line_refused _ _ _ _ _ _ c.args.out.now c.args.asked.reads c.requires spaces listed _ _ _ _ c.is_subscribe-subscribe.ensures
    c.put_spelled-n.ensures.bytes tag_is c.ok_fits-fits.ensures c.in-Err.refusal _ c.edit.result _
    c.edit.ensures c.in-Err.is c.unchanged.ensures

pub returns-in-Ok : goal.returns-in-Ok
returns-in-Ok c =
    let tag_is : c.raw-tag.result.now ≡ span_bytes c.args.asked.line.now c.args.asked.command.tag = c.raw-tag.ensures ∙ sym (bare_bytes _ _ c.args.asked.reads.inside.bare) in
    λ spaces listed.
    line_done _ _ _ _ _ _ c.args.out.now c.args.asked.reads c.requires spaces listed _ _ _ _ c.is_subscribe-subscribe.ensures
    c.put_spelled-n.ensures.bytes tag_is c.ok_fits-fits.ensures c.in-Ok.change _ c.edit.result _ _
    c.edit.ensures c.in-Ok.is c.put_ok_line-end.ensures
