-- `MachineFromFeederState::from` is the definition, field by field.
use Rattle.exports.specs.Feeding.{machine_of, cr_of}
use Rattle.exports.proofs.feeding.MachineFromFeederState.from.Goals as goal

pub returns : goal.returns
unfolding machine_of
returns c =
    let s = c.args.state in
    λ i. record { place = c.place_of.ensures i; size = s.size; cr = cr_of s.cr }
