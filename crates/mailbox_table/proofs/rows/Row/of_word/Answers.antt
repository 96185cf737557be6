-- `mailbox_table::rows::Row::of_word` meets its contract: the record is the definition, opened.
use Rattle.listing_rules.proofs.Prelude.{refl}
use Rattle.mailbox_table.specs.Words.{row_of_word}
use Rattle.mailbox_table.proofs.rows.Row.of_word.Goals as goal

pub returns : goal.returns
unfolding row_of_word
returns c = refl
