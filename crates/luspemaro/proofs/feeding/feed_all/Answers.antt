-- `luspemaro::feeding::feed_all` meets its contract. Rests on TurnLaws.
use Rattle.listing_rules.proofs.Prelude.{◌+◌, ◌<◌, ◌≤◌, arith, length}
use Rattle.luspemaro.proofs.TurnLaws.{so_far_none, dead, takes, writes, so_far_more, turn_ends, turn_full}
use Rattle.listing_rules.proofs.Prelude.{length}
use Rattle.luspemaro.proofs.feeding.feed_all.Goals as goal

pub loop-used-init : goal.loop-used-init
loop-used-init c =
    so_far_none _ _ _ _ c.requires

pub returns-then-out-written-lt-MAX_LINE : goal.returns-then-out-written-lt-MAX_LINE
returns-then-out-written-lt-MAX_LINE c =
    rw c.turn_of.ensures (turn_full c.loop-used.invariant c.if-out-written-lt-MAX_LINE.true)

pub returns-in_default : goal.returns-in_default
returns-in_default c =
    absurd (dead c.loop-used.invariant _ _ _ c.if-out-written-lt-MAX_LINE.false c.feed.ensures c.in_default.is)

pub overflow_add-used : goal.overflow_add-used
overflow_add-used c =
    let took : (c.loop-used.used + c.in-Some.taken.used ≤ length c.args.bytes.now) × (0 < c.in-Some.taken.used) × (c.in-Some.taken.written ≤ 32771) =
    let more = c.loop-used-test.true in
    let room = c.if-out-written-lt-MAX_LINE.false in
    let w = takes c.loop-used.invariant _ _ _ _ _ _ _ more room c.feed.ensures c.in-Some.is in
    (w.0, w.1, writes c.loop-used.invariant _ _ _ _ _ _ _ more room c.feed.ensures c.in-Some.is) in
    omega (arith, took.0)

pub overflow_add-written : goal.overflow_add-written
overflow_add-written c =
    let took : (c.loop-used.used + c.in-Some.taken.used ≤ length c.args.bytes.now) × (0 < c.in-Some.taken.used) × (c.in-Some.taken.written ≤ 32771) =
    let more = c.loop-used-test.true in
    let room = c.if-out-written-lt-MAX_LINE.false in
    let w = takes c.loop-used.invariant _ _ _ _ _ _ _ more room c.feed.ensures c.in-Some.is in
    (w.0, w.1, writes c.loop-used.invariant _ _ _ _ _ _ _ more room c.feed.ensures c.in-Some.is) in
    omega (arith, took.2, c.if-out-written-lt-MAX_LINE.false, c.loop-used.invariant.out)

pub overflow_sub-used : goal.overflow_sub-used
overflow_sub-used c =
    let took : (c.loop-used.used + c.in-Some.taken.used ≤ length c.args.bytes.now) × (0 < c.in-Some.taken.used) × (c.in-Some.taken.written ≤ 32771) =
    let more = c.loop-used-test.true in
    let room = c.if-out-written-lt-MAX_LINE.false in
    let w = takes c.loop-used.invariant _ _ _ _ _ _ _ more room c.feed.ensures c.in-Some.is in
    (w.0, w.1, writes c.loop-used.invariant _ _ _ _ _ _ _ more room c.feed.ensures c.in-Some.is) in
    omega (arith, took.1)

pub bounds-bytes-used : goal.bounds-bytes-used
bounds-bytes-used c =
    let took : (c.loop-used.used + c.in-Some.taken.used ≤ length c.args.bytes.now) × (0 < c.in-Some.taken.used) × (c.in-Some.taken.written ≤ 32771) =
    let more = c.loop-used-test.true in
    let room = c.if-out-written-lt-MAX_LINE.false in
    let w = takes c.loop-used.invariant _ _ _ _ _ _ _ more room c.feed.ensures c.in-Some.is in
    (w.0, w.1, writes c.loop-used.invariant _ _ _ _ _ _ _ more room c.feed.ensures c.in-Some.is) in
    omega (arith, took.0, took.1)

pub overflow_add-frames : goal.overflow_add-frames
overflow_add-frames c =
    let took : (c.loop-used.used + c.in-Some.taken.used ≤ length c.args.bytes.now) × (0 < c.in-Some.taken.used) × (c.in-Some.taken.written ≤ 32771) =
    let more = c.loop-used-test.true in
    let room = c.if-out-written-lt-MAX_LINE.false in
    let w = takes c.loop-used.invariant _ _ _ _ _ _ _ more room c.feed.ensures c.in-Some.is in
    (w.0, w.1, writes c.loop-used.invariant _ _ _ _ _ _ _ more room c.feed.ensures c.in-Some.is) in
    omega (arith, took.0, took.1, c.loop-used.invariant.few, c.ends_frame-frames.ensures.1)

pub loop-used-smaller : goal.loop-used-smaller
loop-used-smaller c =
    let took : (c.loop-used.used + c.in-Some.taken.used ≤ length c.args.bytes.now) × (0 < c.in-Some.taken.used) × (c.in-Some.taken.written ≤ 32771) =
    let more = c.loop-used-test.true in
    let room = c.if-out-written-lt-MAX_LINE.false in
    let w = takes c.loop-used.invariant _ _ _ _ _ _ _ more room c.feed.ensures c.in-Some.is in
    (w.0, w.1, writes c.loop-used.invariant _ _ _ _ _ _ _ more room c.feed.ensures c.in-Some.is) in
    omega (arith, took.0, took.1)

pub loop-used-preserved : goal.loop-used-preserved
loop-used-preserved c =
    rw c.ends_frame-frames.ensures.0
    (so_far_more c.loop-used.invariant _ _ _ _ _ _ _ c.loop-used-test.true c.if-out-written-lt-MAX_LINE.false c.feed.ensures c.in-Some.is c.feed.auto.table
    c.feed.auto.records c.feed.auto.namespaces c.feed.auto.line c.feed.auto.out)

pub returns : goal.returns
returns c =
    rw c.turn_of-2.ensures (turn_ends c.loop-used.invariant (omega (arith, c.loop-used-test.false)))
