-- What holds at each turn of the loop of `plain_len`.
use Rattle.listing_rules.proofs.Prelude.{◌≡◌, length, false, ◌+◌, ◌≤◌, drop}
use Rattle.command_tokens.specs.Spans.{plain}
use Rattle.command_tokens.proofs.spans.plain_len.Given as goal

abbrev pub invariant-loop-b : goal.invariant-loop-b
invariant-loop-b l = (l.n ≤ l.b-index) × (l.n + length (plain l.escaped (drop l.b-index l.s)) ≡ length (plain false l.s))
