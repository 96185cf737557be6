-- What holds at each turn of the loop of `put_all`.
use Rattle.listing_rules.proofs.Prelude.{◌≡◌, ◌-◌, ◌≤◌, min, length, take, sets}
use Rattle.octets.proofs.put_all.Given as goal

abbrev pub invariant-loop-i : goal.invariant-loop-i
invariant-loop-i l = (l.i ≤ l.n) × (l.n ≡ min (length l.s) (length l.initial.buf - l.at)) × (l.buf ≡ sets l.initial.buf l.at (take l.i l.s))
