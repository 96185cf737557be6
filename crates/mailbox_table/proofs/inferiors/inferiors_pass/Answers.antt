-- `mailbox_table::inferiors::inferiors_pass` meets its contract: the rows from i on decide. By InferiorLaws.
use Rattle.listing_rules.proofs.Prelude.{◌∙◌, sym}
use Rattle.listing_rules.specs.Table.{none_below}
use Rattle.mailbox_table.specs.Index.{rows_at}
use Rattle.mailbox_table.proofs.InferiorLaws.{every_more, every_stop, every_end}
use Rattle.mailbox_table.proofs.inferiors.inferiors_pass.Goals as goal

pub returns-then-not-row_passes : goal.returns-then-not-row_passes
returns-then-not-row_passes c =
    let a = c.args.rows in
    let table = rows_at _ a.words.now in
    sym (every_stop (λ q. none_below table q) _ a.words.now _ c.loop-i-test.true (sym c.row_passes.ensures ∙ c.if-not-row_passes.true))
    ∙ c.loop-i.invariant

pub loop-i-preserved : goal.loop-i-preserved
loop-i-preserved c =
    let a = c.args.rows in
    let table = rows_at _ a.words.now in
    sym (every_more (λ q. none_below table q) _ a.words.now _ c.loop-i-test.true (sym c.row_passes.ensures ∙ c.if-not-row_passes.false))
    ∙ c.loop-i.invariant

pub returns : goal.returns
returns c =
    let a = c.args.rows in
    let table = rows_at _ a.words.now in
    sym (every_end (λ q. none_below table q) _ a.words.now _ c.loop-i-test.false) ∙ c.loop-i.invariant
