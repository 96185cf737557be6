-- What holds at each turn of a loop of `put_decoded`.
use Rattle.listing_rules.proofs.Prelude.{◌*◌, drop}
use Rattle.frames.specs.Hexadecimal.{decoded}
use Rattle.frames.proofs.Pieces.{Pieces}
use Rattle.frames.proofs.hexadecimal.put_decoded.Given as goal

abbrev pub invariant-loop-i : goal.invariant-loop-i
invariant-loop-i l = Pieces l.initial.buf l.buf l.at l.to (decoded (drop (2 * l.i) l.line)) (decoded l.line)
