-- `Options::is_known` is the definition's test.
use Rattle.listing_rules.proofs.Prelude.{refl}
use Rattle.listing_rules.specs.Joining.{lawful_set}
use Rattle.command_writer.proofs.options.Options.is_known.Goals as goal

pub returns : goal.returns
unfolding lawful_set
returns c = refl
