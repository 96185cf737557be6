-- What holds at each turn of the loop of `quoted`.
use Rattle.listing_rules.proofs.Prelude.{◌≡◌, false, ◌≤◌, drop}
use Rattle.command_tokens.specs.Tokens.{closing, closed_at}
use Rattle.command_tokens.proofs.Cursor.quoted.Given as goal

abbrev pub invariant-loop-end : goal.invariant-loop-end
invariant-loop-end l = (l.start ≤ l.end) × (closed_at l.start l.end (closing l.escaped (drop l.end l.text)) ≡ closed_at l.start l.start (closing false (drop l.start l.text)))
