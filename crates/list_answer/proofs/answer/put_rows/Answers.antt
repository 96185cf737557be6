-- `list_answer::answer::put_rows` meets its contract: the text of the rows before row i is put. By RowTexts and Putting.
use Rattle.listing_rules.proofs.Prelude.{refl, rules}
use Rattle.list_answer.specs.Prefixes.{prefixes}
use Rattle.list_answer.specs.Shown.{text_of}
use Rattle.list_answer.proofs.RowTexts.{rows_step, rows_end}
use Rattle.list_answer.proofs.Putting.{putting_none, putting_more, putting_end}
use Rattle.list_answer.proofs.answer.put_rows.Goals as goal

pub loop-i-init : goal.loop-i-init
unfolding prefixes
loop-i-init c = λ ready. putting_none _ _ (search rules) (search rules) refl

pub loop-i-preserved : goal.loop-i-preserved
loop-i-preserved c =
    let area = c.args.view.area.now in
    let words = c.args.view.words.now in
    let text = text_of area words c.args.view.patterns.now c.args.view.question in
    λ ready.
    let step = rows_step area words ready.index.indexed text _ c.loop-i-test.true in
    putting_more (c.loop-i.invariant ready) _ _ step (c.put_row-to.ensures ready)

pub returns : goal.returns
returns c =
    let a = c.args in
    let text = text_of _ a.view.words.now _ a.view.question in
    λ ready. putting_end (c.loop-i.invariant ready) (rows_end _ _ ready.index.indexed text c.loop-i.i c.loop-i-test.false)
