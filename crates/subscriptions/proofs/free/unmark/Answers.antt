-- `subscriptions::free::unmark` meets its contract: the bytes that the map has are filled. By MapLaws.
use Rattle.listing_rules.proofs.Prelude.{arith}
use Rattle.subscriptions.proofs.MapLaws.{filled_unmarks, none_unmarks}
use Rattle.subscriptions.proofs.free.unmark.Goals as goal

pub returns-then-start-stop : goal.returns-then-start-stop
returns-then-start-stop c =
    filled_unmarks _ _ _ _ _ c.min-stop.ensures c.if-start-stop.true (c.fill.ensures.after (λ y q. q))

pub returns-else-start-stop : goal.returns-else-start-stop
returns-else-start-stop c = none_unmarks _ _ _ (omega (arith, c.min-stop.ensures, c.if-start-stop.false))
