-- `mailbox_table::link::ascends_at` meets its contract: the place behind what is shared decides. By SharedLaws.
use Rattle.listing_rules.proofs.Prelude.{◌∙◌}
use Rattle.mailbox_table.proofs.SharedLaws.{order_decides}
use Rattle.mailbox_table.proofs.link.ascends_at.Goals as goal

pub returns : goal.returns
returns c = c.lt.ensures ∙ order_decides _ _ _ c.requires _ _ c.get.ensures.lookup.3 c.get-2.ensures.lookup.3
