-- `mailbox_table::scan::with_marks` meets its contract: the code is the definition, opened.
use Rattle.listing_rules.proofs.Prelude.{refl}
use Rattle.mailbox_table.specs.Below.{with_marks}
use Rattle.mailbox_table.proofs.scan.with_marks.Goals as goal

pub returns : goal.returns
unfolding with_marks
returns c = refl
