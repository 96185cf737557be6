-- `skip` meets its contract: a text that has room is compared at once (`Skipping`).
use Rattle.listing_rules.proofs.Prelude.{◌∙◌, sym, arith}
use Rattle.line_reader.proofs.Skipping.{skip_short, skip_other, skip_found}
use Rattle.line_reader.proofs.skip.Goals as goal

pub returns-then-line-at : goal.returns-then-line-at
returns-then-line-at c =
    skip_short _ _ c.args.at c.if-line-at.true

pub returns-then-not-same_bytes : goal.returns-then-not-same_bytes
returns-then-not-same_bytes c =
    skip_other _ _ _ c.if-line-at.false (sym c.same_bytes.ensures ∙ c.if-not-same_bytes.true)

pub returns : goal.returns
returns c =
    (skip_found _ _ _ c.if-line-at.false (sym c.same_bytes.ensures ∙ c.if-not-same_bytes.false), omega arith)
