-- `is_short` meets its contract, by the law short_test.
use Rattle.command_writer.proofs.PackedPatterns.{short_test}
use Rattle.command_writer.proofs.patterns.is_short.Goals as goal

pub returns : goal.returns
returns c = rw c.is_empty.ensures (short_test _ _ _ c.advance.ensures)
