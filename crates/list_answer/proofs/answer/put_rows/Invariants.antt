-- What holds at each turn of the loop of `put_rows`: the text of the rows before row i is put.
use Rattle.list_answer.specs.Ready.{Ready}
use Rattle.list_answer.specs.Shown.{text_of, rows_text}
use Rattle.list_answer.proofs.RowTexts.{text_from}
use Rattle.list_answer.proofs.Putting.{Putting}
use Rattle.list_answer.proofs.answer.put_rows.Given as goal

abbrev pub invariant-loop-i : goal.invariant-loop-i
invariant-loop-i l =
    Ready l.view.area.now l.view.words.now l.view.patterns.now l.view.question →
    Putting l.initial.buf l.buf l.at l.to (text_from (text_of l.view.area.now l.view.words.now l.view.patterns.now l.view.question) l.view.area.now l.view.words.now l.i) (rows_text l.view.area.now l.view.words.now l.view.patterns.now l.view.question)
