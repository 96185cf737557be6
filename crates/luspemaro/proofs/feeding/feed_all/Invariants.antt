-- What holds at each turn of a loop of `feed_all`, and what falls.
use Rattle.listing_rules.proofs.Prelude.{length}
use Rattle.listing_rules.proofs.Prelude.{◌-◌, length}
use Rattle.kept_table.specs.Kept.{lent}
use Rattle.luspemaro.proofs.TurnLaws.{SoFar}
use Rattle.luspemaro.proofs.feeding.feed_all.Given as goal

abbrev pub invariant-loop-used : goal.invariant-loop-used
invariant-loop-used l =
    SoFar l.bytes (lent l.initial.table l.initial.records l.initial.namespaces l.initial.out) l.initial.line l.initial.state (lent l.table l.records l.namespaces l.out) l.line l.state l.used l.frames l.written

abbrev pub decreases-loop-used : goal.decreases-loop-used
decreases-loop-used l =
    length l.bytes - l.used
