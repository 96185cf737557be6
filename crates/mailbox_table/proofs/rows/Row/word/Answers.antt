-- `mailbox_table::rows::Row::word` meets its contract: the sum is the definition, opened, and fits by the bounds of `Packs`.
use Rattle.listing_rules.proofs.Prelude.{refl}
use Rattle.mailbox_table.specs.Words.{word_of}
use Rattle.mailbox_table.proofs.rows.Row.word.Goals as goal

pub returns : goal.returns
unfolding word_of
returns c = refl
