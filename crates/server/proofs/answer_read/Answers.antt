-- `server::answer_read` meets its contract: refusal 2, the refusals of the line, 16, and what `respond` gives over the rows that the reader sees.
-- By Order and EditLaws; the rows seen by SeenLaws of mailbox_table.
use Rattle.listing_rules.proofs.Prelude.{◌∙◌, subst, sym, length-take-le}
use Rattle.std.proofs.lemmas.Result.{err_from_is_err_and}
use Rattle.octets.specs.declared.refusals.Refusal.TheVariants.{Namespaces, Reader}
use Rattle.mailbox_table.specs.Index.{Index}
use Rattle.mailbox_table.specs.Seen.{seen_words}
use Rattle.mailbox_table.proofs.SeenLaws.{seen_index}
use Rattle.server.proofs.EditLaws.{reads, refuses, no_edit, kind_is_lem}
use Rattle.server.proofs.Order.{refused_with_lem, seen_2, seen_16, seen_on, seen_refused, seen_first}
use Rattle.server.proofs.answer_read.Goals as goal

pub returns-then-not-check : goal.returns-then-not-check
returns-then-not-check c =
    rw (seen_2 _ _ _ _ (sym c.check.ensures ∙ c.if-not-check.true)) (refused_with_lem Namespaces _)

pub returns-in_err-command : goal.returns-in_err-command
returns-in_err-command c =
    let listed = sym c.check.ensures ∙ c.if-not-check.false in
    let p = err_from_is_err_and c.from_residual.result c.from_residual.ensures.1 in
    let refusal-is = refuses _ _ c.requires.reads _ c.in_err-command.was in
    rw (p.1, p.2, ← seen_refused c.args.area.now (seen_words c.args.reader c.args.index.now) c.args.namespaces.now c.args.line.now listed _ refusal-is)
    (refused_with_lem _ _)

pub returns-then-is_edit : goal.returns-then-is_edit
returns-then-is_edit c =
    let listed = sym c.check.ensures ∙ c.if-not-check.false in
    let told = reads _ _ c.requires.reads _ c.in_ok-command.was in
    let edits = sym (kind_is_lem _ _ told) ∙ sym c.is_edit.ensures ∙ c.if-is_edit.true in
    rw (seen_16 _ _ _ _ listed edits) (refused_with_lem Reader _)

pub slice_bounds-rows-end : goal.slice_bounds-rows-end
slice_bounds-rows-end c = (seen_first _ _ _ _ c.see_rows-seen.ensures).0

pub slice_bounds-rows-end-2 : goal.slice_bounds-rows-end-2
slice_bounds-rows-end-2 c = sym (length-take-le _ _ (seen_first _ _ _ _ c.see_rows-seen.ensures).0)

pub invariant_of-rows : goal.invariant_of-rows
invariant_of-rows c =
    record { index = subst (Index c.args.area.now) (sym (seen_first _ _ _ _ c.see_rows-seen.ensures).1) (seen_index c.args.reader c.requires.index) }

pub invariant_of-respond : goal.invariant_of-respond
invariant_of-respond c = record { reads = reads _ _ c.requires.reads _ c.in_ok-command.was }

pub returns : goal.returns
returns c =
    let listed = sym c.check.ensures ∙ c.if-not-check.false in
    let told = reads _ _ c.requires.reads _ c.in_ok-command.was in
    let plain = no_edit _ _ told (sym c.is_edit.ensures ∙ c.if-is_edit.false) in
    rw (seen_on _ _ _ _ listed plain, ← (seen_first _ _ _ _ c.see_rows-seen.ensures).1) c.respond.ensures
