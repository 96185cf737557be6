-- `mailbox_table::readers::readers_of` meets its contract: the byte is the definition, opened.
use Rattle.listing_rules.proofs.Prelude.{refl}
use Rattle.records.specs.Words.{record_of}
use Rattle.mailbox_table.proofs.readers.readers_of.Goals as goal

pub returns : goal.returns
unfolding record_of
returns c = refl
