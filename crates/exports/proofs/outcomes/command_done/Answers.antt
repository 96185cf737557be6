-- `command_done` meets its contract: the outcome of what was written, whether words changed, and which.
use Rattle.listing_rules.proofs.Prelude.{◌∙◌}
use Rattle.exports.specs.Outcomes.{done_case}
use Rattle.exports.proofs.OutcomeLaws.{from_bool_is}
use Rattle.exports.proofs.outcomes.command_done.Goals as goal

pub returns : goal.returns
unfolding done_case
returns c =
    rw (c.written_outcome.ensures, c.from-changed.ensures ∙ from_bool_is _)
