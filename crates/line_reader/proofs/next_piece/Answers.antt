-- `next_piece` meets its contract, by the bytes that stand at the place (`Naming`).
use Rattle.line_reader.proofs.Naming.{piece_out, piece_end, piece_byte, piece_escaped, piece_bad}
use Rattle.line_reader.proofs.next_piece.Goals as goal

pub returns-then-line-i : goal.returns-then-line-i
returns-then-line-i c = piece_out _ _ c.if-line-i.true

pub returns-then-b-eq-QUOTE : goal.returns-then-b-eq-QUOTE
returns-then-b-eq-QUOTE c =
    piece_end _ _ c.if-line-i.false c.if-b-eq-QUOTE.true

pub returns-then-b-ne-BACKSLASH : goal.returns-then-b-ne-BACKSLASH
returns-then-b-ne-BACKSLASH c =
    piece_byte _ _ c.if-line-i.false c.if-b-eq-QUOTE.false c.if-b-ne-BACKSLASH.true

pub returns-then-escaped : goal.returns-then-escaped
returns-then-escaped c =
    rw c.byte_at-escaped.ensures (piece_escaped _ _ c.if-line-i.false c.if-b-ne-BACKSLASH.false
    (rw c.byte_at-escaped.ensures at c.if-escaped.true))

pub returns : goal.returns
returns c =
    piece_bad _ _ c.if-line-i.false c.if-b-ne-BACKSLASH.false (rw c.byte_at-escaped.ensures at c.if-escaped.false)
