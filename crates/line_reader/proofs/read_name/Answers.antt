-- `read_name` meets its contract. The loop's invariant is `Naming`: the bytes read so far, and what is left of the name.
use Rattle.listing_rules.proofs.Prelude.{subst, arith}
use Rattle.line_reader.specs.Parts.{Next}
use Rattle.line_reader.specs.declared.Piece.TheVariants.{Byte}
use Rattle.line_reader.proofs.Naming.{naming_none, naming_byte, naming_full, naming_end, naming_torn}
use Rattle.line_reader.proofs.read_name.Goals as goal

pub loop-b-init : goal.loop-b-init
loop-b-init c = naming_none _ _ _

pub returns-then-name-len : goal.returns-then-name-len
returns-then-name-len c =
    let told : Next c.args.line.now c.loop-b.i (Byte c.in-Byte.b c.in-Byte.next) = subst (Next _ _) c.in-Byte.is c.next_piece.ensures in
    naming_full c.loop-b.invariant _ _ told c.if-name-len.true

pub loop-b-smaller : goal.loop-b-smaller
loop-b-smaller c =
    let told : Next c.args.line.now c.loop-b.i (Byte c.in-Byte.b c.in-Byte.next) = subst (Next _ _) c.in-Byte.is c.next_piece.ensures in
    omega (arith, told)

pub loop-b-preserved : goal.loop-b-preserved
loop-b-preserved c =
    let told : Next c.args.line.now c.loop-b.i (Byte c.in-Byte.b c.in-Byte.next) = subst (Next _ _) c.in-Byte.is c.next_piece.ensures in
    naming_byte c.loop-b.invariant _ _ told c.if-name-len.false

pub returns-in-End : goal.returns-in-End
returns-in-End c =
    naming_end c.loop-b.invariant _ (rw c.in-End.is at c.next_piece.ensures)

pub returns-in-Missing : goal.returns-in-Missing
returns-in-Missing c =
    naming_torn c.loop-b.invariant (rw c.in-Missing.is at c.next_piece.ensures)
