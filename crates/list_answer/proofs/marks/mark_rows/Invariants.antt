-- What holds at each turn of the loop of `mark_rows`: the words before its index are marked.
use Rattle.listing_rules.proofs.Prelude.{◌≡◌}
use Rattle.list_answer.specs.Marks.{marked_word}
use Rattle.list_answer.proofs.Marking.{marked_up_to}
use Rattle.list_answer.proofs.marks.mark_rows.Given as goal

abbrev pub invariant-loop-word : goal.invariant-loop-word
invariant-loop-word l =
    l.words ≡ marked_up_to (marked_word l.area l.patterns l.question) l.word-index l.initial.words
