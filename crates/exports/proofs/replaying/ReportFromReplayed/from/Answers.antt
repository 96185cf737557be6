-- `ReportFromReplayed::from` is the definition, field by field.
use Rattle.exports.specs.Replays.{report_case}
use Rattle.exports.proofs.replaying.ReportFromReplayed.from.Goals as goal

pub returns : goal.returns
unfolding report_case
returns c =
    let count = c.args.replayed.count in
    λ i. record { number = c.number.ensures i; frame = c.frame.ensures i; count = count }
