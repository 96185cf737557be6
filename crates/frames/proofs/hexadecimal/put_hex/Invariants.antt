-- What holds at each turn of a loop of `put_hex`.
use Rattle.listing_rules.proofs.Prelude.{drop}
use Rattle.listing_rules.specs.Frames.{hex}
use Rattle.frames.proofs.Pieces.{Pieces}
use Rattle.frames.proofs.hexadecimal.put_hex.Given as goal

abbrev pub invariant-loop-b : goal.invariant-loop-b
invariant-loop-b l = Pieces l.initial.buf l.buf l.at l.to (hex (drop l.b-index l.bytes)) (hex l.bytes)
