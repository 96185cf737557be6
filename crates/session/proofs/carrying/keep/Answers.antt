-- `session::carrying::keep` meets its contract: room, or none. Rests on CarryLaws.
use Rattle.session.proofs.CarryLaws.{keeps_now, keeps_full}
use Rattle.session.proofs.carrying.keep.Goals as goal

pub returns-in-Some : goal.returns-in-Some
returns-in-Some c =
    keeps_now c.requires.limit_in_bounds c.store.ensures _ _ _ c.in-Some.is

pub returns-in-None : goal.returns-in-None
returns-in-None c =
    keeps_full c.requires.limit_in_bounds c.store.ensures _ _ _ _ c.requires.used_le_limit c.in-None.is (rw c.number.ensures at c.put_refusal-written.ensures)
