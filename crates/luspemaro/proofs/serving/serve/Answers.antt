-- `luspemaro::serving::serve` meets its contract. The loop's invariant: the first bytes are answered. Rests on ServeLaws.
use Rattle.luspemaro.proofs.ServeLaws.{along_none, along_takes, along_more, serves_all, serves_none, whole_by}
use Rattle.listing_rules.proofs.Prelude.{refl, arith}
use Rattle.luspemaro.proofs.serving.serve.Goals as goal

pub loop-at-init : goal.loop-at-init
loop-at-init c =
    along_none _ _ _ _ _ (omega arith) c.requires

pub answer_some-round-requires : goal.answer_some-round-requires
answer_some-round-requires c =
    c.loop-at.invariant.ready_on

pub returns-in-Err : goal.returns-in-Err
returns-in-Err c =
    rw
    c.write_failed.ensures (serves_none _ _ _ _ _ c.answer_some-round.ensures.ready_on)

pub overflow_add-at : goal.overflow_add-at
overflow_add-at c =
    omega
    (arith, (along_takes c.loop-at.invariant c.loop-at-test.true c.answer_some-round.ensures).0)

pub loop-at-smaller : goal.loop-at-smaller
loop-at-smaller c =
    let w = along_takes c.loop-at.invariant c.loop-at-test.true c.answer_some-round.ensures in
    omega (arith, w.0, w.1)

pub loop-at-preserved : goal.loop-at-preserved
loop-at-preserved c =
    along_more c.loop-at.invariant _ _ _ c.loop-at-test.true c.answer_some-round.ensures (whole_by _ c.in_default.not-Err)
    c.answer_some-round.auto.table c.answer_some-round.auto.records
    c.answer_some-round.auto.namespaces c.answer_some-round.auto.line c.answer_some-round.auto.out _ c.advance-frames.ensures

pub returns : goal.returns
returns c =
    rw c.place_at.ensures
    (serves_all c.loop-at.invariant _ refl refl (omega (arith, c.loop-at-test.false)))
