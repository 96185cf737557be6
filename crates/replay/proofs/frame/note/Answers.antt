-- `replay::frame::note` meets its contract, case by case. By FrameLaws.
use Rattle.replay.proofs.FrameLaws.{noted_before, noted_same, noted_now}
use Rattle.replay.proofs.frame.note.Goals as goal

pub returns-then-first-ne0 : goal.returns-then-first-ne0
returns-then-first-ne0 c = noted_before _ _ _ c.if-first-ne0.true

pub returns-then-same : goal.returns-then-same
returns-then-same c =
    noted_same _ _ _ c.if-first-ne0.false c.if-same.true

pub returns : goal.returns
returns c =
    noted_now _ _ _ c.if-first-ne0.false c.if-same.false c.requires
