-- `luspemaro::serving::Place::start` meets its contract: the session's state at the start.
use Rattle.luspemaro.specs.Serving.{place_made}
use Rattle.session.specs.declared.State.{State}
use Rattle.listing_rules.proofs.Prelude.{◌∙◌, ap, false, true}
use Rattle.luspemaro.proofs.serving.Place.start.Goals as goal

pub returns : goal.returns
returns c =
    c.place_at.ensures ∙ ap (λ (st : State). place_made st 0 true false) c.start.ensures.is
