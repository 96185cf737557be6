-- `FeederStateFromMachine::from` is the definition, field by field.
use Rattle.listing_rules.proofs.Prelude.{◌∙◌}
use Rattle.exports.proofs.OutcomeLaws.{from_bool_is}
use Rattle.exports.proofs.feeding.FeederStateFromMachine.from.Goals as goal

pub returns : goal.returns
returns c =
    let numbers = c.from-numbers.ensures in
    λ i. record { place = (numbers i).place; cr = (c.from.ensures ∙ from_bool_is c.args.machine.cr) i; value = (numbers i).value; size = c.args.machine.size }
