-- `frames::hexadecimal::put_decoded` meets its contract. The loop's invariant: all but the pairs from a place on is written. Rests on
-- DigitLaws and Pieces.
use Rattle.listing_rules.proofs.Prelude.{sym, [], ◌∷◌, ◌+◌, ◌*◌, ◌≡◌, arith, drop, get_or, rules}
use Rattle.frames.specs.Hexadecimal.{pair_of, decoded}
use Rattle.frames.proofs.DigitLaws.{decoded_at, decoded_end}
use Rattle.frames.proofs.Pieces.{pieces_none, pieces_more, pieces_all}
use Rattle.frames.proofs.hexadecimal.put_decoded.Goals as goal

pub loop-i-init : goal.loop-i-init
loop-i-init c = pieces_none _ _ _ (search rules) (search rules)

pub loop-i-preserved : goal.loop-i-preserved
loop-i-preserved c =
    let s = c.args.line.now in
    let at = 2 * c.loop-i.i in
    let next : 2 * (c.loop-i.i + 1) ≡ at + 2 = omega arith in
    rw next (pieces_more (pair_of (get_or s at 0) (get_or s (at + 1) 0) ∷ []) (decoded (drop (at + 2) s)) c.loop-i.invariant
    (decoded_at s at (omega (arith, c.loop-i-test.true))) (rw (sym c.pair_value.ensures) c.put-to.ensures))

pub returns : goal.returns
returns c =
    pieces_all c.loop-i.invariant (decoded_end c.args.line.now (2 * c.loop-i.i) (omega (arith, c.loop-i-test.false)))
