-- `session::State::start` meets its contract: any memory holds the session at its start. Rests on FeedLaws.
use Rattle.session.proofs.FeedLaws.{holds_start}
use Rattle.listing_rules.proofs.Prelude.{refl}
use Rattle.session.proofs.State.start.Goals as goal

pub returns : goal.returns
returns c = record { is = refl; holds = holds_start }
