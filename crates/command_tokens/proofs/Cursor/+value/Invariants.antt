-- What holds at each turn of the loop of `Cursor::value`, and what falls: there and at a call of its own the bytes that are left.
use Rattle.listing_rules.proofs.Prelude.{◌≡◌, ◌-◌, ◌≤◌, drop, length}
use Rattle.command_tokens.specs.Values.{value_of}
use Rattle.command_tokens.proofs.Cursor.+value.Given as goal

abbrev pub decreases-value : goal.decreases-value
decreases-value l = length l.text.now - l.self.at

abbrev pub invariant-loop-at : goal.invariant-loop-at
invariant-loop-at l = (l.initial.at ≤ l.at) × (value_of (drop l.at l.text) ≡ value_of (drop l.initial.at l.text))

abbrev pub decreases-loop-at : goal.decreases-loop-at
decreases-loop-at l = length l.text - l.at
