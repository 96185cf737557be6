-- `replay::frame::settle` meets its contract: a stop, or the command run. By FrameLaws.
use Rattle.listing_rules.proofs.Prelude.{◌∙◌, sym, ◌-◌, arith, drop, length, length-drop, take_all}
use Rattle.replay.proofs.FrameLaws.{answer_long, settles_stop, settles_run}
use Rattle.replay.proofs.frame.settle.Goals as goal

pub returns-in_default : goal.returns-in_default
returns-in_default c =
    settles_stop _ _ _ _ _ c.requires.in_bounds (sym c.read_recorded.ensures ∙ c.in_default.is) _ c.counted.ensures

pub slice_bounds-run-count : goal.slice_bounds-run-count
slice_bounds-run-count c =
    omega (arith, answer_long c.args.text.now _ (sym c.read_recorded.ensures ∙ c.in-Some.is))

pub slice_bounds-run-start : goal.slice_bounds-run-start
slice_bounds-run-start c =
    omega (arith, answer_long c.args.text.now _ (sym c.read_recorded.ensures ∙ c.in-Some.is))

pub returns : goal.returns
returns c =
    let a = c.args in
    settles_run _ _ _ _ _ c.requires.in_bounds _ _ (sym c.read_recorded.ensures ∙ c.in-Some.is) _
    (take_all (length a.text.now - 2) (drop 2 a.text.now) (omega (arith, length-drop 2 a.text.now))) _ c.run-ran.ensures _
    c.note-first.ensures _
    c.counted-2.ensures
