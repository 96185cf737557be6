-- What holds at each turn of a loop of `no_pair`, and what falls.
use Rattle.listing_rules.proofs.Prelude.{◌≡◌}
use Rattle.listing_rules.proofs.Prelude.{◌≡◌, ◌&&◌, ◌-◌, ◌≤◌, drop}
use Rattle.names.specs.Slashes.{no_pair}
use Rattle.names.proofs.no_pair.Given as goal

abbrev pub invariant-loop-i : goal.invariant-loop-i
invariant-loop-i l = (1 ≤ l.i) × ((l.ok && no_pair (drop (l.i - 1) l.name)) ≡ no_pair l.name)
