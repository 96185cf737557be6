-- `replay::Verdict::number` meets its contract, case by case.
use Rattle.listing_rules.proofs.Prelude.{◌∙◌, ap, sym}
use Rattle.listing_rules.specs.Replay.{replay_number}
use Rattle.replay.specs.declared.verdict.Verdict.{Verdict}
use Rattle.replay.specs.Reports.{meant_by}
use Rattle.replay.proofs.verdict.Verdict.number.Goals as goal

pub returns-in-Agrees : goal.returns-in-Agrees
unfolding replay_number meant_by
returns-in-Agrees c = sym (ap (λ (v : Verdict). replay_number (meant_by v)) c.in-Agrees.is)

pub returns-in-Differs : goal.returns-in-Differs
unfolding replay_number meant_by
returns-in-Differs c = sym (ap (λ (v : Verdict). replay_number (meant_by v)) c.in-Differs.is)

pub returns-in-Stopped : goal.returns-in-Stopped
unfolding replay_number meant_by
returns-in-Stopped c = c.number.ensures ∙ sym (ap (λ (v : Verdict). replay_number (meant_by v)) c.in-Stopped.is)
