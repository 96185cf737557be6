-- What holds at each turn of a loop of `check`, and what falls.
use Rattle.listing_rules.proofs.Prelude.{◌≡◌}
use Rattle.listing_rules.proofs.Prelude.{◌≡◌, ◌-◌, ◌≤◌, drop, length}
use Rattle.listing_rules.specs.Namespaces.{namespaces_pass}
use Rattle.namespace_list.proofs.Passing.{rest_passes}
use Rattle.namespace_list.proofs.check.Given as goal

abbrev pub invariant-loop-at : goal.invariant-loop-at
invariant-loop-at l = (l.count ≤ 4) × (rest_passes l.class l.count (drop l.at l.list) ≡ namespaces_pass l.list)

abbrev pub decreases-loop-at : goal.decreases-loop-at
decreases-loop-at l = length l.list - l.at
