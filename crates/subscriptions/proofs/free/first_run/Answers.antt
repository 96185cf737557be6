-- `subscriptions::free::first_run` meets its contract: the bytes from `from` up to i are free and too few, and no run begins before
-- them. By RunLaws.
use Rattle.listing_rules.proofs.Prelude.{arith}
use Rattle.subscriptions.proofs.RunLaws.{passed_none, passed_free, passed_found, passed_used, passed_end}
use Rattle.subscriptions.proofs.free.first_run.Goals as goal
use Rattle.subscriptions.proofs.free.first_run.Goals.{then-not-free, else-not-free+else-len-i}

pub loop-i-init : goal.loop-i-init
loop-i-init c = passed_none _ _ c.requires

pub overflow_sub-i : goal.overflow_sub-i
overflow_sub-i c = omega (arith, c.loop-i.invariant.order)

pub returns-then-len-i : goal.returns-then-len-i
returns-then-len-i c =
    passed_found c.loop-i.invariant c.loop-i-test.true c.if-not-free.false c.if-len-i.true

pub loop-i-preserved : goal.loop-i-preserved
loop-i-preserved c =
    elim c.if-not-free.branch [
      | then-not-free w ↦ rw w.from-is (passed_used c.loop-i.invariant c.loop-i-test.true w.if-not-free.true)
      | else-not-free+else-len-i w ↦ rw w.from-is (passed_free c.loop-i.invariant c.loop-i-test.true w.if-not-free.false w.if-len-i.false)
    ]

pub returns : goal.returns
returns c = passed_end c.loop-i.invariant c.loop-i-test.false
