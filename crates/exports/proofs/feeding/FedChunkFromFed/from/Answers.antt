-- `FedChunkFromFed::from` is the definition, field by field.
use Rattle.exports.proofs.feeding.FedChunkFromFed.from.Goals as goal

pub returns : goal.returns
returns c =
    let told = c.from-numbers.ensures in
    λ i. record { event = (told i).event; number = (told i).number; length = (told i).length; used = c.args.fed.used; state = c.from.ensures i }
