-- `put_string` meets its contract: quotes where every byte may stand in them, else the four parts of a literal (`put_then`).
use Rattle.listing_rules.proofs.Prelude.{◌∙◌, sym}
use Rattle.listing_rules.specs.Bytes.{text, crlf}
use Rattle.listing_rules.specs.Joining.{string_text}
use Rattle.octets.proofs.Puts.{put_then}
use Rattle.command_writer.proofs.strings.put_string.Goals as goal

pub returns-then-all_of_line : goal.returns-then-all_of_line
unfolding string_text
returns-then-all_of_line c =
    rw (sym c.all_of_line.ensures ∙ c.if-all_of_line.true) c.put_quoted.ensures

pub returns : goal.returns
unfolding string_text text crlf
returns c =
    rw (sym c.all_of_line.ensures ∙ c.if-all_of_line.false)
    (put_then c.put-open.ensures (put_then c.put_number-size.ensures
    (put_then c.put_all-head.ensures c.put_all.ensures)))
