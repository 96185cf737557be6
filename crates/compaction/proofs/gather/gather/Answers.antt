-- `compaction::gather::gather` meets its contract: the bytes before i are gathered. By GatherLaws.
use Rattle.listing_rules.proofs.Prelude.{◌<◌, arith, length}
use Rattle.compaction.proofs.GatherLaws.{gathering_none, gathering_free, gathering_used, gathering_all, end_most}
use Rattle.compaction.proofs.gather.gather.Goals as goal
use Rattle.compaction.proofs.gather.gather.Goals.{then-not-free, else-not-free}

pub loop-i-init : goal.loop-i-init
loop-i-init c = let a = c.args in gathering_none _ _ _

pub overflow_cast-places : goal.overflow_cast-places
overflow_cast-places c = omega (arith, end_most c.loop-i.invariant, c.loop-i-test.true, c.requires.0, c.requires.1)

pub overflow_add-end : goal.overflow_add-end
overflow_add-end c = omega (arith, end_most c.loop-i.invariant, c.loop-i-test.true, c.requires.0, c.requires.1)

pub bounds-area-end : goal.bounds-area-end
bounds-area-end c =
    omega (arith, end_most c.loop-i.invariant, c.loop-i.invariant.size, c.loop-i-test.true, c.requires.1)

pub loop-i-preserved : goal.loop-i-preserved
loop-i-preserved c =
    let v = c.loop-i.invariant in
    let here : c.loop-i.i < length c.args.area.now = omega (arith, c.loop-i-test.true, c.requires.1) in
    elim c.if-not-free.branch [
      | then-not-free w ↦ rw (w.area-is, w.end-is) (gathering_used v c.requires.1 here c.requires.2 w.if-not-free.true)
      | else-not-free w ↦ rw (w.area-is, w.end-is) (gathering_free v c.requires.1 here c.requires.2 w.if-not-free.false)
    ]

pub returns : goal.returns
returns c = gathering_all c.loop-i.invariant c.requires.1 c.requires.2 (omega (arith, c.loop-i-test.false, c.requires.1))
