-- `frames::hexadecimal::pair_value` meets its contract, by arithmetic: two values below 16 make a byte.
use Rattle.frames.specs.Hexadecimal.{pair_of}
use Rattle.listing_rules.proofs.Prelude.{arith}
use Rattle.frames.proofs.hexadecimal.pair_value.Goals as goal

pub returns : goal.returns
unfolding pair_of
returns c = omega arith
