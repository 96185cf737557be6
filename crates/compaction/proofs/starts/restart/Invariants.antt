-- What holds at each turn of the loop of `restart`.
use Rattle.compaction.specs.Moves.{restarted}
use Rattle.compaction.proofs.StartLaws.{Mapped}
use Rattle.compaction.proofs.starts.restart.Given as goal

abbrev pub invariant-loop-i : goal.invariant-loop-i
invariant-loop-i l = Mapped (restarted l.places) l.initial.words l.words l.i
