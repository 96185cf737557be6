-- `subscriptions::apply::remove_row` meets its contract: the word, then the bytes of its name.
use Rattle.listing_rules.proofs.Prelude.{◌∙◌, refl}
use Rattle.records.specs.Words.{record_of}
use Rattle.mailbox_table.specs.Words.{row_of_word}
use Rattle.subscriptions.specs.Applied.{freed}
use Rattle.subscriptions.proofs.apply.remove_row.Goals as goal

pub clear_bytes-requires : goal.clear_bytes-requires
unfolding record_of row_of_word
clear_bytes-requires c =
    rw c.of_word-row.ensures c.requires.inside

pub returns : goal.returns
unfolding freed record_of row_of_word
returns c =
    (refl, c.remove_word.ensures, c.clear_bytes.ensures ∙ rw c.of_word-row.ensures)
