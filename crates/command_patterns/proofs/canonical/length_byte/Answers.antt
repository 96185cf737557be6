-- `length_byte`: what a sum is over whole 256s, it is over the width of the machine's numbers too.
use Rattle.std.proofs.Math.Nat.{mod-mod_of_dvd}
use Rattle.std.proofs.lemmas.Nat.Gcd.{dvd_of_mod-eq-zero}
use Rattle.listing_rules.proofs.Prelude.{◌+◌, refl}
use Rattle.command_patterns.proofs.canonical.length_byte.Goals as goal

pub returns : goal.returns
returns c = mod-mod_of_dvd 256 (c.args.head + c.args.tail) (dvd_of_mod-eq-zero 256 refl)
