-- What holds at each turn of a loop of `serve`, and what falls.
use Rattle.luspemaro.proofs.ServeLaws.{Along}
use Rattle.kept_table.specs.Kept.{lent}
use Rattle.listing_rules.proofs.Prelude.{◌-◌, length}
use Rattle.luspemaro.proofs.serving.serve.Given as goal

abbrev pub invariant-loop-at : goal.invariant-loop-at
invariant-loop-at l =
    Along l.bytes (lent l.initial.table l.initial.records l.initial.namespaces l.initial.out) l.initial.line l.initial.state l.initial.frames (lent l.table l.records l.namespaces l.out) l.line l.state l.frames l.at

abbrev pub decreases-loop-at : goal.decreases-loop-at
decreases-loop-at l =
    length l.bytes - l.at
