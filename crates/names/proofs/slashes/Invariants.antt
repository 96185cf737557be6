-- What holds at each turn of a loop of `slashes`, and what falls.
use Rattle.listing_rules.proofs.Prelude.{◌≡◌}
use Rattle.listing_rules.proofs.Prelude.{◌≡◌, ◌+◌, ◌≤◌, drop}
use Rattle.names.specs.Slashes.{slash_count}
use Rattle.names.proofs.slashes.Given as goal

abbrev pub invariant-loop-b : goal.invariant-loop-b
invariant-loop-b l = (l.n ≤ l.b-index) × (l.n + slash_count (drop l.b-index l.name) ≡ slash_count l.name)
