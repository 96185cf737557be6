-- `fed_of` is the definition, field by field: of a piece that was not taken, the state as it was.
use Rattle.listing_rules.proofs.Prelude.{◌∙◌, ap}
use Rattle.listing_rules.specs.Replay.{replay_number, replay_frame}
use Rattle.replay.specs.declared.piece.Piece.{Piece}
use Rattle.replay.specs.Reports.{meant_by}
use Rattle.exports.specs.Outcomes.{as_number}
use Rattle.exports.specs.Replays.{fed_case, state_back}
use Rattle.exports.proofs.OutcomeLaws.{from_bool_is}
use Rattle.exports.proofs.ReplayLaws.{piece_then, taken_is}
use Rattle.exports.proofs.replaying.fed_of.Goals as goal

pub returns : goal.returns
unfolding fed_case
returns c =
    let p = c.unwrap_or-piece.ensures ∙ piece_then c.args.held c.args.given in
    λ i. record {
      taken = (c.from.ensures ∙ from_bool_is _ ∙ ap as_number (c.is_some.ensures ∙ taken_is c.args.given)) i;
      number = (c.number.ensures ∙ ap (λ (x : Piece). replay_number (meant_by x.verdict)) p) i;
      frame = (c.frame.ensures ∙ ap (λ (x : Piece). replay_frame (meant_by x.verdict)) p) i;
      count = (p i).state.rows;
      state = (c.from-2.ensures ∙ ap (λ (x : Piece). state_back x.state) p) i;
    }
