-- What holds at each turn of the loop of `run`.
use Rattle.luspemaro.proofs.ServeLaws.{Stands}
use Rattle.kept_table.specs.Kept.{lent}
use Rattle.session.specs.Feeding.{start_is}
use Rattle.luspemaro.specs.Serving.{memory}
use Rattle.listing_rules.proofs.Prelude.{◌≡◌, ◌-◌, ◌^◌, length}
use Rattle.luspemaro.proofs.run.Given as goal

abbrev pub invariant-loop-turn : goal.invariant-loop-turn
invariant-loop-turn l =
    Stands (memory (lent l.initial.table l.initial.records l.initial.namespaces l.initial.out) l.initial.line start_is) (lent l.table l.records l.namespaces l.out) l.line l.place (2 ^ 64 - 1 - l.turn)
    × (length l.table ≡ length l.initial.table)
    × (length l.records ≡ length l.initial.records)
    × (length l.namespaces ≡ length l.initial.namespaces)
    × (length l.line ≡ length l.initial.line)
    × (length l.out ≡ length l.initial.out)
