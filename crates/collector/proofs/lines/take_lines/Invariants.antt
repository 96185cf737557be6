-- What holds at each turn of the loop of `take_lines`.
use Rattle.listing_rules.proofs.Prelude.{length}
use Rattle.collector.proofs.AnswerLaws.{Taking}
use Rattle.collector.proofs.lines.take_lines.Given as goal

abbrev pub invariant-loop-line : goal.invariant-loop-line
invariant-loop-line l = Taking l.options l.answer l.initial.progress l.initial.found l.initial.pending l.found l.pending l.progress (length l.yielded)
