-- `subscriptions::resum::switched` meets its contract: what is required is required where it counts.
use Rattle.listing_rules.proofs.Prelude.{refl}
use Rattle.subscriptions.proofs.resum.switched.Goals as goal

pub overflow_sub-result : goal.overflow_sub-result
overflow_sub-result c = (c.requires c.if-counts.true).0

pub overflow_add-result : goal.overflow_add-result
overflow_add-result c = record { fits = (c.requires c.if-counts.true).1 }

pub returns-then-counts : goal.returns-then-counts
returns-then-counts c = rw c.if-counts.true refl
