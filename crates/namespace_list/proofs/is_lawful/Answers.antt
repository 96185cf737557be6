-- `is_lawful` meets its contract: its result is the definition, written out.
use Rattle.listing_rules.specs.Bytes.{within}
use Rattle.listing_rules.specs.Namespaces.{lawful_entry}
use Rattle.namespace_list.proofs.is_lawful.Goals as goal

pub returns : goal.returns
unfolding within lawful_entry
returns c = rw c.is_printable.ensures
