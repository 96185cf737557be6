-- `frames::hexadecimal::digit_value` meets its contract. Rests on DigitLaws.
use Rattle.listing_rules.proofs.Prelude.{◌∙◌, arith}
use Rattle.frames.proofs.DigitLaws.{value_small, value_or}
use Rattle.frames.proofs.hexadecimal.digit_value.Goals as goal

pub returns : goal.returns
returns c =
    let e = c.unwrap_or.ensures ∙ value_or c.args.c _ c.read_digit.ensures in
    (e, omega (arith, e, value_small c.args.c))
