-- `octets::raised_byte` meets its contract: the library's capital letters are those of `raise`.
use Rattle.std.proofs.Common.{arith}
use Rattle.std.proofs.lemmas.Bool.Decides.{nat_tests}
use Rattle.listing_rules.specs.Bytes.{raise, within}
use Rattle.octets.proofs.raised_byte.Goals as goal

pub returns : goal.returns
unfolding raise within
returns c = grind (arith, nat_tests, c.to_ascii_uppercase.ensures.value)
