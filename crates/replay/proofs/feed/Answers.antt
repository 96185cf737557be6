-- `replay::feed` meets its contract: each turn of its loop takes the characters before the next line feed, and the line feed. By FeedLaws.
use Rattle.listing_rules.proofs.Prelude.{◌∙◌, refl, sym, arith}
use Rattle.replay.proofs.GatherLaws.{gathered_stopped}
use Rattle.replay.proofs.FeedLaws.{part_start, part_end, part_stopped, line_inside, part_some, part_line, part_counted, feed_taken}
use Rattle.replay.proofs.feed.Goals as goal

pub returns-then-not-is_ready : goal.returns-then-not-is_ready
returns-then-not-is_ready c =
    (sym c.is_ready.ensures ∙ c.if-not-is_ready.true, refl)

pub loop-at-init : goal.loop-at-init
loop-at-init c =
    part_start _ _ _ _ (sym c.is_ready.ensures ∙ c.if-not-is_ready.false)

pub returns-then-held : goal.returns-then-held
returns-then-held c =
    feed_taken refl (sym c.is_ready.ensures ∙ c.if-not-is_ready.false)
    (part_stopped c.loop-at.invariant c.if-held.true)

pub line_end-end-requires : goal.line_end-end-requires
line_end-end-requires c = c.loop-at.invariant.inside

pub slice_bounds-gather-end : goal.slice_bounds-gather-end
slice_bounds-gather-end c =
    line_inside c.loop-at.invariant _ c.line_end-end.ensures

pub gather-held-requires : goal.gather-held-requires
gather-held-requires c =
    c.loop-at.invariant.goes.gathered_inside

pub end_frame-held-requires : goal.end_frame-held-requires
end_frame-held-requires c =
    let p = part_some c.loop-at.invariant _ c.line_end-end.ensures c.if-held.false _ _ c.gather-held.ensures in
    record {
      stopped_value = gathered_stopped c.gather-held.ensures ∙ c.if-held.false;
      frames_bound = part_counted p;
      due_bound = p.goes.due_counted;
      due_bound_2 = p.goes.due_inside;
      in_bounds = omega (arith, p.sizes.room, p.goes.pending_long);
      gathered_in_bounds = omega (arith, p.sizes.long, p.goes.line_long, p.goes.gathered_inside);
    }

pub overflow_add-at : goal.overflow_add-at
overflow_add-at c =
    omega (arith, c.if-end-chunk.true, c.loop-at.invariant.sizes.count)

pub loop-at-preserved-then-end-chunk : goal.loop-at-preserved-then-end-chunk
loop-at-preserved-then-end-chunk c =
    part_line c.loop-at.invariant _ c.line_end-end.ensures c.if-held.false _ _ c.gather-held.ensures c.if-end-chunk.true _ _
    c.end_frame-held.ensures

pub loop-at-preserved : goal.loop-at-preserved
loop-at-preserved c =
    part_some c.loop-at.invariant _ c.line_end-end.ensures c.if-held.false _ _ c.gather-held.ensures

pub returns : goal.returns
returns c =
    feed_taken refl (sym c.is_ready.ensures ∙ c.if-not-is_ready.false)
    (part_end c.loop-at.invariant c.loop-at-test.false)
