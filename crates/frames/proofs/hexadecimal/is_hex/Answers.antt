-- `frames::hexadecimal::is_hex` meets its contract: the characters have bytes exactly if all are digits. Rests on DigitLaws.
use Rattle.std.proofs.Common.{rules, tests}
use Rattle.std.proofs.lemmas.Iterator.{YieldsList-from_slice}
use Rattle.std.proofs.lemmas.Iterator.Search.{all_from_yields_List}
use Rattle.listing_rules.proofs.Prelude.{◌∙◌, sym}
use Rattle.frames.proofs.DigitLaws.{hex_odd, hex_even, found, all_found}
use Rattle.frames.proofs.hexadecimal.is_hex.Goals as goal

pub returns-then-line-ne0 : goal.returns-then-line-ne0
returns-then-line-ne0 c = sym (hex_odd _ c.if-line-ne0.true)

pub returns : goal.returns
returns c =
    let line = c.args.line.now in
    let by_call = all_from_yields_List found _ _ _ c.all.ensures.ran (YieldsList-from_slice line cc) (λ x b q k. search (rules, tests)) in
    by_call ∙ all_found line ∙ hex_even line c.if-line-ne0.false
