-- What holds at each turn of a loop of `gather`, and what falls.
use Rattle.listing_rules.proofs.Prelude.{length}
use Rattle.compaction.proofs.GatherLaws.{Gathering}
use Rattle.compaction.proofs.gather.gather.Given as goal

abbrev pub invariant-loop-i : goal.invariant-loop-i
invariant-loop-i l = Gathering l.marks l.initial.area l.area l.places (length l.initial.places) l.i l.end
