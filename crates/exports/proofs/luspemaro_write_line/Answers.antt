-- `luspemaro_write_line` meets its contract: `list_line::write_line`'s promise, in C's form.
use Rattle.std.specs.Prelude.{Result}
use Rattle.listing_rules.proofs.Prelude.{◌∙◌, ap, false, ℕ}
use Rattle.listing_rules.specs.LineReader.{written}
use Rattle.exports.specs.Outcomes.{as_number, written_case}
use Rattle.exports.proofs.OutcomeLaws.{written_case_lem}
use Rattle.exports.proofs.luspemaro_write_line.Goals as goal

pub returns : goal.returns
unfolding written as_number
returns c =
    (c.written_outcome.ensures ∙ ap (λ (w : Result ℕ ℕ). written_case w 0 0) c.write_line.ensures.0 ∙ written_case_lem _ false 0, c.write_line.ensures.1)
