-- What holds at each turn of a loop of `count_of`, and what falls.
use Rattle.listing_rules.proofs.Prelude.{◌≡◌, length}
use Rattle.listing_rules.proofs.Prelude.{◌≡◌, ◌+◌, ◌-◌, ◌≤◌, drop, length}
use Rattle.listing_rules.specs.Namespaces.{entries, of_class}
use Rattle.namespace_list.proofs.count_of.Given as goal

abbrev pub invariant-loop-at : goal.invariant-loop-at
invariant-loop-at l = (l.count ≤ l.at) × (l.count + length (of_class l.class (entries (drop l.at l.list))) ≡ length (of_class l.class (entries l.list)))

abbrev pub decreases-loop-at : goal.decreases-loop-at
decreases-loop-at l = length l.list - l.at
