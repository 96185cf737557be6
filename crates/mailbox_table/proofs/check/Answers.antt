-- `mailbox_table::check` meets its contract: with room for 512 rows the index answers check 1. By HeldLaws.
use Rattle.listing_rules.proofs.Prelude.{◌∙◌, ap, length}
use Rattle.mailbox_table.proofs.HeldLaws.{index_passes}
use Rattle.mailbox_table.proofs.check.Goals as goal

pub returns : goal.returns
returns c = c.is_some.ensures ∙ index_passes c.index.ensures (ap length c.no_words-words.ensures)
