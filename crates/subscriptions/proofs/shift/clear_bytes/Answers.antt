-- `subscriptions::shift::clear_bytes` meets its contract: what lies from the start on is filled. By ShiftLaws.
use Rattle.subscriptions.proofs.ShiftLaws.{cleared}
use Rattle.subscriptions.proofs.shift.clear_bytes.Goals as goal

pub returns : goal.returns
returns c = cleared _ _ _ _ c.requires (c.fill.ensures.after (λ y q. q))
