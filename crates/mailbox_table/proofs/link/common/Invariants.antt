-- What holds at each turn of the loop of `common`.
use Rattle.listing_rules.proofs.Prelude.{◌≡◌, ◌+◌, ◌≤◌, drop}
use Rattle.mailbox_table.specs.Shared.{shared_len}
use Rattle.mailbox_table.proofs.link.common.Given as goal

abbrev pub invariant-loop-i : goal.invariant-loop-i
invariant-loop-i l = (l.i ≤ l.n) × (l.i + shared_len (drop l.i l.a) (drop l.i l.b) ≡ shared_len l.a l.b)
