-- `read_line` meets its contract: the root line, or `read_parts` (`read_root`, `read_other` of `Reading`).
use Rattle.listing_rules.proofs.Prelude.{◌∙◌, sym}
use Rattle.listing_rules.proofs.Keys.{open_bytes}
use Rattle.listing_rules.specs.Lines.{root_line}
use Rattle.line_reader.specs.Lines.{line_is}
use Rattle.line_reader.proofs.Reading.{read_root, read_other, numbered_ok_or}
use Rattle.line_reader.proofs.read_line.Goals as goal

pub returns-then-same_bytes : goal.returns-then-same_bytes
unfolding open_bytes root_line
returns-then-same_bytes c =
    read_root _ (sym c.same_bytes.ensures ∙ c.if-same_bytes.true)

pub returns : goal.returns
unfolding open_bytes root_line line_is
returns c =
    rw (read_other _ (sym c.same_bytes.ensures ∙ c.if-same_bytes.false), c.ok_or.ensures.value, c.read_parts.ensures) (numbered_ok_or _)
