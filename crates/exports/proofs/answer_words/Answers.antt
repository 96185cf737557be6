-- `exports::answer_words` meets its contract: the promise of `server::answer_words` over the words that are lent, in C's form. By WordLaws.
use Rattle.exports.specs.Outcomes.{done_case}
use Rattle.exports.proofs.WordLaws.{size, result, bytes, area_is, summary_is, words_are, moved}
use Rattle.exports.proofs.answer_words.Goals as goal

pub slice_bounds-answer_words-end-2 : goal.slice_bounds-answer_words-end-2
slice_bounds-answer_words-end-2 c =
    let a = c.args in
    size a.words.now a.lent a.count a.reader a.area.now a.summary.now a.namespaces.now a.line.now a.out.now _
    c.least-n.ensures

pub returns : goal.returns
unfolding done_case
returns c =
    let a = c.args in
    let n = c.least-n.ensures in
    let x = c.answer_words-stored.ensures in
    rw c.command_done.ensures (record { result = result _ _ _ _ _ _ _ _ _ _ n _ _ _ _ _ x; bytes = bytes _ _ _ _ _ _ _ _ _ _ n _ _ _ _ _ x; area = area_is _ _ _ _ _ _ _ _ _ _ n _ _ _ _ _ x; summary = summary_is _ _ _ _ _ _ _ _ _ _ n _ _ _ _ _ x; words = (words_are _ _ _ _ _ _ _ _ _ _ n _ _ _ _ _ x, moved _ _ _ _ _ _ _ _ _ _ n _ _ _ _ _ x) })
