-- `ReplayStateFromReplaying::from` is the definition, field by field.
use Rattle.listing_rules.proofs.Prelude.{◌∙◌}
use Rattle.exports.specs.Replays.{state_back}
use Rattle.exports.proofs.OutcomeLaws.{from_bool_is}
use Rattle.exports.proofs.replaying.ReplayStateFromReplaying.from.Goals as goal

pub returns : goal.returns
unfolding state_back
returns c =
    let held = c.args.held in
    λ i. record { frames = held.frames; first = held.first; due = held.due; gathered = held.gathered; stopped = (c.from.ensures ∙ from_bool_is held.stopped) i }
