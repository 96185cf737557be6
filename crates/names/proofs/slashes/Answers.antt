-- `names::slashes` meets its contract: those counted and those from i on are all. By the laws of slashes in NameShape.
use Rattle.listing_rules.proofs.Prelude.{arith, eqb, get_or}
use Rattle.names.proofs.NameShape.{digit_small, slash_more, slash_end}
use Rattle.names.proofs.slashes.Goals as goal

pub loop-b-init : goal.loop-b-init
loop-b-init c = omega arith

pub overflow_add-n : goal.overflow_add-n
overflow_add-n c =
    omega (arith, digit_small (eqb (get_or c.args.name.now c.loop-b.b-index 0) 47))

pub loop-b-preserved : goal.loop-b-preserved
loop-b-preserved c =
    let s = c.args.name.now in
    let i = c.loop-b.b-index in
    omega (arith, digit_small (eqb (get_or s i 0) 47), slash_more s i c.loop-b-test.true)

pub returns : goal.returns
returns c =
    omega (arith, slash_end c.args.name.now _ c.loop-b-test.false)
