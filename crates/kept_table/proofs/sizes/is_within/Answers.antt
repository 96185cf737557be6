-- `kept_table::sizes::is_within` meets its contract: the table's sizes by `is_held`, and those of the namespace list.
use Rattle.listing_rules.proofs.Prelude.{ap, Bool, ◌&&◌}
use Rattle.kept_table.specs.Kept.{entries_fit}
use Rattle.kept_table.proofs.sizes.is_within.Goals as goal

pub returns : goal.returns
returns c =
    ap (λ (b : Bool). b && entries_fit c.args.stored c.args.namespaces) c.is_held-held.ensures
