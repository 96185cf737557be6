-- What holds at each turn of the loop of `number`.
use Rattle.listing_rules.proofs.Prelude.{◌≡◌, ◌≤◌, min, drop}
use Rattle.listing_rules.specs.Tokens.{decimal}
use Rattle.command_tokens.proofs.literals.number.Given as goal

abbrev pub invariant-loop-digit : goal.invariant-loop-digit
invariant-loop-digit l = (l.n ≤ 1025) × (min (decimal l.n (drop l.digit-index l.digits)) 1025 ≡ min (decimal 0 l.digits) 1025)
