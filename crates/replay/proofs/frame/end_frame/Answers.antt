-- `replay::frame::end_frame` meets its contract: a command or an answer, whichever is due. By FrameLaws.
use Rattle.listing_rules.proofs.Prelude.{arith, length-take, length-take-le}
use Rattle.replay.proofs.FrameLaws.{asks_goes, settles_goes}
use Rattle.replay.proofs.frame.end_frame.Goals as goal

pub slice_bounds-text-end : goal.slice_bounds-text-end
slice_bounds-text-end c =
    simp length-take (omega (arith, c.requires))

pub returns-then-due-eq0 : goal.returns-then-due-eq0
returns-then-due-eq0 c =
    asks_goes c.args.namespaces.now c.args.words.now c.args.sums.now c.args.area.now c.args.pending.now
    c.args.line.now _ _ _ c.requires.stopped_value c.if-due-eq0.true c.requires.in_bounds c.ask.ensures

pub slice_bounds-settle-end-2 : goal.slice_bounds-settle-end-2
slice_bounds-settle-end-2 c =
    simp length-take (omega (arith, c.requires))

pub settle-requires : goal.settle-requires
settle-requires c =
    let due = c.args.state.due in
    record {
      frames_bound = c.requires.frames_bound;
      le_frames = omega (arith, c.requires, c.if-due-eq0.false);
      in_bounds = omega (arith, c.if-due-eq0.false, length-take-le due c.args.pending.now (omega (arith, c.requires)));
    }

pub returns : goal.returns
returns c =
    settles_goes c.args.namespaces.now c.args.words.now c.args.sums.now c.args.area.now _ _ _ c.args.pending.now
    c.args.line.now _ _ c.requires.stopped_value (omega (arith, c.if-due-eq0.false)) (omega (arith, c.requires)) c.settle.ensures
