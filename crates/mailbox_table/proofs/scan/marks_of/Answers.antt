-- `mailbox_table::scan::marks_of` meets its contract: the code is the definition, opened.
use Rattle.listing_rules.proofs.Prelude.{refl}
use Rattle.mailbox_table.specs.Below.{marks_of}
use Rattle.mailbox_table.proofs.scan.marks_of.Goals as goal

pub returns : goal.returns
unfolding marks_of
returns c = refl
