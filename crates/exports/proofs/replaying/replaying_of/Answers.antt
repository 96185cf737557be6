-- `replaying_of` is the definition, field by field.
use Rattle.listing_rules.proofs.Prelude.{refl}
use Rattle.exports.specs.Replays.{state_in}
use Rattle.exports.proofs.replaying.replaying_of.Goals as goal

pub returns : goal.returns
unfolding state_in
returns c = refl
