-- `mailbox_table::flags::Flags::has_use` meets its contract, by the law of special uses in FlagBits.
use Rattle.listing_rules.proofs.Prelude.{◌∙◌}
use Rattle.mailbox_table.proofs.FlagBits.{some_use}
use Rattle.mailbox_table.proofs.flags.Flags.has_use.Goals as goal

pub returns : goal.returns
returns c = c.has_some.ensures ∙ some_use _
