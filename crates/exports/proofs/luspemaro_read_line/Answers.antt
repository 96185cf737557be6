-- `luspemaro_read_line` meets its contract: `line_reader::read_line`'s promise, in C's form.
use Rattle.listing_rules.proofs.Prelude.{◌∙◌, ap}
use Rattle.exports.specs.Outcomes.{line_case}
use Rattle.exports.proofs.OutcomeLaws.{line_case_lem}
use Rattle.exports.proofs.luspemaro_read_line.Goals as goal

pub returns : goal.returns
returns c =
    c.from.ensures ∙ ap line_case c.read_line.ensures ∙ line_case_lem _
