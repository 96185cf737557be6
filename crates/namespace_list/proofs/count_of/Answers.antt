-- `count_of` meets its contract: those counted, and those of the class from `at` on, are all of the class.
use Rattle.listing_rules.proofs.Prelude.{ap, arith, length}
use Rattle.namespace_list.proofs.Entries.{class_here, class_other, class_end}
use Rattle.listing_rules.proofs.Prelude.{length}
use Rattle.namespace_list.proofs.count_of.Goals as goal

pub loop-at-init : goal.loop-at-init
loop-at-init c = (omega arith, omega arith)

pub loop-at-preserved-then-e-class : goal.loop-at-preserved-then-e-class
loop-at-preserved-then-e-class c =
    (omega arith, omega (arith, ap length (class_here c.entry_at-e.ensures _ c.if-e-class.true)))

pub loop-at-preserved : goal.loop-at-preserved
loop-at-preserved c =
    (omega arith, omega (arith, ap length (class_other c.entry_at-e.ensures _ c.if-e-class.false)))

pub returns : goal.returns
returns c =
    omega (arith, ap length (class_end c.args.list.now _ c.args.class c.loop-at-test.false))
