-- `frames::storing::store` meets its contract: one law for each way out. Rests on StoreLaws.
use Rattle.std.specs.Prelude.{Some}
use Rattle.listing_rules.proofs.Prelude.{ap, arith}
use Rattle.frames.proofs.StoreLaws.{stores_outside, stores_over, stores_now}
use Rattle.frames.proofs.storing.store.Goals as goal

pub returns-then-area-limit : goal.returns-then-area-limit
returns-then-area-limit c = stores_outside _ _ _ _ c.if-area-limit.true

pub returns-then-limit-used : goal.returns-then-limit-used
returns-then-limit-used c = stores_over _ _ _ _ (omega arith)

pub returns-then-limit-used-2 : goal.returns-then-limit-used-2
returns-then-limit-used-2 c = stores_over _ _ _ _ (omega arith)

pub returns : goal.returns
returns c = stores_now _ _ _ _ _ _ (omega arith) (omega arith) (ap Some (omega arith)) c.put_all.ensures.bytes
