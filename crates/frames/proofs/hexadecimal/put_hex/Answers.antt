-- `frames::hexadecimal::put_hex` meets its contract. The loop's invariant: all but the digits of the bytes from a place on is written.
-- Rests on DigitLaws and Pieces.
use Rattle.listing_rules.proofs.Prelude.{[], ◌∷◌, ◌+◌, drop, get_or, rules}
use Rattle.listing_rules.specs.Frames.{hex}
use Rattle.frames.proofs.DigitLaws.{hex_at, hex_end}
use Rattle.frames.proofs.Pieces.{pieces_none, pieces_more, pieces_all}
use Rattle.frames.proofs.hexadecimal.put_hex.Goals as goal

pub loop-b-init : goal.loop-b-init
loop-b-init c = pieces_none _ _ _ (search rules) (search rules)

pub loop-b-preserved : goal.loop-b-preserved
loop-b-preserved c =
    let s = c.args.bytes.now in
    let i = c.loop-b.b-index in
    pieces_more (hex (get_or s i 0 ∷ [])) (hex (drop (i + 1) s)) c.loop-b.invariant (hex_at s i c.loop-b-test.true) c.put_pair-to.ensures

pub returns : goal.returns
returns c =
    pieces_all c.loop-b.invariant (hex_end _ _ c.loop-b-test.false)
