-- `names::name_byte` meets its contract: the test is the definition, opened.
use Rattle.listing_rules.proofs.Prelude.{refl}
use Rattle.listing_rules.specs.Bytes.{within}
use Rattle.listing_rules.specs.Names.{name_byte}
use Rattle.names.proofs.name_byte.Goals as goal

pub returns : goal.returns
unfolding name_byte within
returns c = refl
