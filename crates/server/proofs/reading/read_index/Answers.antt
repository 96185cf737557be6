-- `server::reading::read_index` meets its contract: refusal 2, the refusals of the line, and what `respond` gives. By Order and EditLaws.
use Rattle.listing_rules.proofs.Prelude.{◌∙◌, sym}
use Rattle.std.proofs.lemmas.Result.{err_from_is_err_and}
use Rattle.octets.specs.declared.refusals.Refusal.TheVariants.{Namespaces}
use Rattle.server.specs.Edits.{Reading}
use Rattle.server.proofs.EditLaws.{reads}
use Rattle.server.proofs.Order.{refused_with_lem, index_2, index_on, reply_refused}
use Rattle.server.proofs.reading.read_index.Goals as goal

pub returns-then-not-check : goal.returns-then-not-check
returns-then-not-check c =
    let bad = sym c.check.ensures ∙ c.if-not-check.true in
    rw (index_2 _ _ _ _ bad) (refused_with_lem Namespaces _)

pub returns-in_err-command : goal.returns-in_err-command
returns-in_err-command c =
    let good = sym c.check.ensures ∙ c.if-not-check.false in
    let p = err_from_is_err_and c.from_residual.result c.from_residual.ensures.1 in
    rw (
      p.1,
      p.2,
      index_on c.args.rows.area.now c.args.rows.words.now _ _ good,
      ← reply_refused c.args.rows.area.now c.args.rows.words.now c.args.namespaces.now c.args.line.now _ c.in_err-command.ensures.result_value,
    )
    (refused_with_lem _ _)

pub invariant_of-respond : goal.invariant_of-respond
invariant_of-respond c =
    let told : Reading c.args.line.now c.read_command.result = record { means = c.read_command.ensures.result_value; inside = c.read_command.ensures.inside } in
    record { reads = reads _ _ told _ c.in_ok-command.was }

pub returns : goal.returns
returns c =
    let good = sym c.check.ensures ∙ c.if-not-check.false in
    rw (index_on _ _ _ _ good) c.respond.ensures
