-- What holds at each turn of the loop of `put_plain`.
use Rattle.listing_rules.proofs.Prelude.{◌≡◌, ◌++◌, false, List, ℕ, drop}
use Rattle.octets.specs.Put.{Put}
use Rattle.command_tokens.specs.Spans.{plain}
use Rattle.command_tokens.proofs.spans.put_plain.Given as goal

abbrev pub invariant-loop-b : goal.invariant-loop-b
invariant-loop-b l = (acc : List ℕ) × Put l.initial.buf l.buf l.at acc l.to × (acc ++ plain l.escaped (drop l.b-index l.s) ≡ plain false l.s)
