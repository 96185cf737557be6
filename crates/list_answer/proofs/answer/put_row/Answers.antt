-- `list_answer::answer::put_row` meets its contract: the text of the beginnings of at most k bytes is put. By RowTexts and Putting.
use Rattle.listing_rules.proofs.Prelude.{◌∙◌, ◌≡◌, ap, Bool, ◌||◌, cond, ◌-◌, ◌<◌, arith, length, rules}
use Rattle.command_line.specs.OptionSets.{options_is}
use Rattle.mailbox_table.specs.declared.rows.Row.{Row as Place}
use Rattle.mailbox_table.specs.Index.{nth_name}
use Rattle.mailbox_table.proofs.IndexLaws.{name_length}
use Rattle.pattern.specs.Packed.{unpacked}
use Rattle.list_answer.specs.Shown.{text_of}
use Rattle.list_answer.proofs.RowTexts.{beyond, beyond_step, beyond_end, first_shown, first_range}
use Rattle.list_answer.proofs.Putting.{putting_none, putting_more, putting_end}
use Rattle.list_answer.proofs.answer.put_row.Goals as goal

pub loop-k-init : goal.loop-k-init
loop-k-init c =
    let area = c.args.view.area.now in
    let words = c.args.view.words.now in
    let question = c.args.view.question in
    let o = options_is _ in
    let ps = unpacked _ in
    let i = c.args.i in
    let deep = c.is_recursive.result || question.levels in
    let first : c.first_length-first.result ≡ cond deep _ _ = c.first_length-first.ensures ∙ ap (λ (r : Place). cond deep r.shared (r.len - 1)) c.of_word-row.ensures in
    λ ready.
    let asked = ap (λ (b : Bool). b || question.levels) c.is_recursive.ensures ∙ ap (λ (b : Bool). o.sel_recursive || b) ready.knows in
    let range = first_range area words ready.index.indexed question.word o ps i c.requires deep in (
      omega (arith, first, range.0),
      putting_none _ _ (search rules) (search rules)
          (ap (beyond _ (nth_name area words i)) first ∙ first_shown area words ready.index.indexed _ o ps i c.requires deep asked),
    )

pub loop-k-preserved : goal.loop-k-preserved
loop-k-preserved c =
    let a = c.args in
    let text = text_of a.view.area.now a.view.words.now a.view.patterns.now a.view.question in
    let name = nth_name a.view.area.now a.view.words.now a.i in
    let size = ap (λ (r : Place). r.len) c.of_word-row.ensures in
    λ ready.
    let here = c.loop-k.invariant ready in
    let inside : c.loop-k.k < length name = omega (arith, name_length ready.index.indexed _ c.requires, size, c.loop-k-test.true) in
    let put = c.put_name-to.ensures ready
    (record { row = c.requires; beyond = omega (arith, here.0); within = omega (arith, size, c.loop-k-test.true) }) in (
      omega (arith, here.0),
      putting_more here.1 _ _ (beyond_step text name _ inside) put,
    )

pub returns : goal.returns
returns c =
    let a = c.args in
    let text = text_of a.view.area.now a.view.words.now a.view.patterns.now a.view.question in
    let name = nth_name _ a.view.words.now _ in
    let size = ap (λ (r : Place). r.len) c.of_word-row.ensures in
    λ ready.
    putting_end (c.loop-k.invariant ready).1
    (beyond_end text name _ (omega (arith, name_length ready.index.indexed _ c.requires, size, c.loop-k-test.false)))
