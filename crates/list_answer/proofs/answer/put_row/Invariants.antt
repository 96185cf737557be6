-- What holds at each turn of the loop of `put_row`: the text of the beginnings of at most k bytes is put.
use Rattle.listing_rules.proofs.Prelude.{List, ◌≤◌, ℕ}
use Rattle.mailbox_table.specs.Index.{nth_row, nth_name}
use Rattle.list_answer.specs.Ready.{Ready}
use Rattle.list_answer.specs.Shown.{text_of}
use Rattle.list_answer.proofs.RowTexts.{beyond}
use Rattle.list_answer.proofs.Putting.{Putting}
use Rattle.list_answer.proofs.answer.put_row.Given as goal

abbrev pub invariant-loop-k : goal.invariant-loop-k
invariant-loop-k l =
    let text : ℕ → List ℕ = beyond (text_of l.view.area.now l.view.words.now l.view.patterns.now l.view.question) (nth_name l.view.area.now l.view.words.now l.i) in
    let shared = (nth_row l.view.words.now l.i).shared in
    Ready l.view.area.now l.view.words.now l.view.patterns.now l.view.question → (shared ≤ l.k) × Putting l.initial.buf l.buf l.at l.to (text l.k) (text shared)
