-- `frames::gathering::read_gathered` meets its contract: the characters that it hands on, or none, are read as a frame. Rests on
-- FrameLaws and GatherLaws.
use Rattle.std.specs.Prelude.{None}
use Rattle.listing_rules.proofs.Prelude.{◌≡◌, [], arith, length-take, le-ltb, lt-ltb}
use Rattle.frames.specs.Gathering.{gathered_text}
use Rattle.frames.proofs.FrameLaws.{frame_bad, within_bad, bad_short}
use Rattle.frames.proofs.GatherLaws.{gathered_read}
use Rattle.frames.proofs.gathering.read_gathered.Goals as goal

pub returns-in_err-n : goal.returns-in_err-n
unfolding gathered_text
returns-in_err-n c =
    let gone : c.from_residual.result ≡ None = grind arith in
    gathered_read _ _ _ _ _ (rw (gone, c.in_err-n.was) (frame_bad [] _ (within_bad _ [] (bad_short [] (omega arith)))))

pub returns-then-line-n : goal.returns-then-line-n
unfolding gathered_text
returns-then-line-n c =
    gathered_read _ _ _ _ _ (rw (c.in_ok-n.was, lt-ltb _ _ c.if-line-n.true) (frame_bad [] _ (within_bad _ [] (bad_short [] (omega arith)))))

pub slice_bounds-read_frame-end : goal.slice_bounds-read_frame-end
slice_bounds-read_frame-end c = simp length-take (omega arith)

pub returns : goal.returns
unfolding gathered_text
returns c =
    gathered_read _ _ _ _ _ (rw (c.in_ok-n.was, le-ltb _ _ c.if-line-n.false) c.read_frame.ensures)
