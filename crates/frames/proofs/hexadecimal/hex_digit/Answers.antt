-- `frames::hexadecimal::hex_digit` meets its contract: its test is that of `hexDigit`.
use Rattle.listing_rules.proofs.Prelude.{le-leb, lt-leb}
use Rattle.listing_rules.specs.Frames.{hex_digit}
use Rattle.frames.proofs.hexadecimal.hex_digit.Goals as goal

pub returns-then-d-le9 : goal.returns-then-d-le9
unfolding hex_digit
returns-then-d-le9 c = rw (le-leb _ 9 c.if-d-le9.true)

pub returns : goal.returns
unfolding hex_digit
returns c = rw (lt-leb _ 9 c.if-d-le9.false)
