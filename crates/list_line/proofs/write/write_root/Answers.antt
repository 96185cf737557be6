-- `write_root` meets its contract: the root line has 27 bytes (`written-fits`, `written-short`).
use Rattle.listing_rules.proofs.Prelude.{arith}
use Rattle.listing_rules.specs.Lines.{root_line}
use Rattle.list_line.proofs.Writing.{root_length}
use Rattle.octets.proofs.Writing.{written_fits, written_short}
use Rattle.list_line.proofs.write.write_root.Goals as goal

pub returns-then-buf-lt27 : goal.returns-then-buf-lt27
returns-then-buf-lt27 c = written_short _ root_line (omega (arith, root_length))

pub returns : goal.returns
returns c = written_fits _ root_line c.put_root_line.ensures (omega (arith, root_length))
