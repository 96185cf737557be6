-- `list_answer::marks::mark_rows` meets its contract: the words before the loop's index are marked. By Marking.
use Rattle.listing_rules.proofs.Prelude.{◌∙◌, ◌≡◌, ap, refl, List, ℕ, get_or, set}
use Rattle.mailbox_table.specs.Below.{with_marks}
use Rattle.list_answer.specs.Marks.{marked_word}
use Rattle.list_answer.proofs.Marking.{marked_more, marked_all}
use Rattle.list_answer.proofs.marks.mark_rows.Goals as goal

pub loop-word-init : goal.loop-word-init
loop-word-init c = refl

pub loop-word-preserved : goal.loop-word-preserved
unfolding marked_word
loop-word-preserved c =
    let a = c.args in
    let mark = marked_word a.area.now a.patterns.now a.question in
    let i = c.loop-word.word-index in
    let w = get_or c.loop-word.words i 0 in
    let made : c.with_marks.result ≡ mark w = c.with_marks.ensures ∙ ap (λ (m : ℕ). with_marks m w) c.marks_for-marks.ensures in
    ap (set c.loop-word.words i) made
    ∙ ap (λ (l : List ℕ). set l i (mark (get_or l i 0))) c.loop-word.invariant
    ∙ marked_more mark a.words.now i c.loop-word-test.true

pub returns : goal.returns
returns c = c.loop-word.invariant ∙ marked_all _ c.args.words.now c.loop-word.word-index c.loop-word-test.false
