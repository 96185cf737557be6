-- What holds at each turn of a loop of `name_bytes`, and what falls.
use Rattle.listing_rules.proofs.Prelude.{◌≡◌}
use Rattle.listing_rules.specs.Names.{name_byte}
use Rattle.listing_rules.proofs.Prelude.{◌≡◌, ◌&&◌, drop}
use Rattle.listing_rules.specs.Bytes.{all}
use Rattle.listing_rules.specs.Names.{name_byte}
use Rattle.names.proofs.name_bytes.Given as goal

abbrev pub invariant-loop-b : goal.invariant-loop-b
invariant-loop-b l = (l.ok && all name_byte (drop l.b-index l.name)) ≡ all name_byte l.name
