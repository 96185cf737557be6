-- `exports::luspemaro_match_steps` meets its contract: the count of `pattern::match_steps`.
use Rattle.listing_rules.proofs.Prelude.{ap}
use Rattle.pattern.specs.declared.steps.Counted.{Counted}
use Rattle.exports.proofs.luspemaro_match_steps.Goals as goal

pub returns : goal.returns
returns c = record { count = ap (λ (r : Counted). r.steps) c.match_steps-counted.ensures.value; bound = c.match_steps-counted.ensures.steps_bound }
