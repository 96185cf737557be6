-- `write_named` meets its contract: the first pass measures the line, and the second writes it (`written-fits`, `written-short`).
use Rattle.listing_rules.proofs.Prelude.{arith}
use Rattle.listing_rules.specs.Lines.{list_line}
use Rattle.octets.proofs.Writing.{written_fits, written_short}
use Rattle.list_line.specs.Words.{start_of}
use Rattle.list_line.proofs.write.write_named.Goals as goal

pub returns-then-buf-need : goal.returns-then-buf-need
unfolding list_line start_of
returns-then-buf-need c =
    written_short _ _ (omega (arith, c.put_line-need.ensures.place))

pub returns : goal.returns
unfolding list_line start_of
returns c =
    written_fits _ _ c.put_line.ensures (omega (arith, c.put_line-need.ensures.place))
