-- `ends_in_percent` meets its contract: the last byte decides.
use Rattle.listing_rules.proofs.Prelude.{◌∙◌}
use Rattle.pattern.proofs.Chosen.{percent_ends}
use Rattle.pattern.proofs.ends_in_percent.Goals as goal

pub returns : goal.returns
returns c = c.ends_with.ensures.value ∙ percent_ends _
