-- `list_answer::answer::write_answer` meets its contract: the marked words are an index of the same rows. By Marking.
use Rattle.listing_rules.proofs.Prelude.{◌∙◌, ◌≡◌, ap, subst, sym, List, ℕ, arith, map}
use Rattle.list_answer.specs.Marks.{marked_word}
use Rattle.list_answer.specs.Ready.{Ready}
use Rattle.list_answer.proofs.Marking.{marked_ready, marked_reply}
use Rattle.list_answer.proofs.answer.write_answer.Goals as goal

pub returns-then-n-gt-MAX_ROWS : goal.returns-then-n-gt-MAX_ROWS
returns-then-n-gt-MAX_ROWS c = λ index. absurd (omega (arith, index.few, c.if-n-gt-MAX_ROWS.true))

pub returns : goal.returns
returns c =
    let a = c.args in
    let mark = marked_word a.area.now a.patterns.now a.question in
    let marked : c.mark_rows.new.words ≡ map mark a.words.now = c.mark_rows.ensures ∙ ap (map mark) c.copy_from_slice.ensures.after in
    λ index.
    let ready = subst (λ (ws : List ℕ). Ready a.area.now ws a.patterns.now a.question) (sym marked)
    (marked_ready _ _ _ _ index c.requires) in
    rw (← marked_reply _ _ _ _ _ _ marked) (c.write_marked.ensures ready)
