-- `put_gap` meets its contract: nothing, or the space.
use Rattle.listing_rules.proofs.Prelude.{rules}
use Rattle.listing_rules.specs.LineReader.{separated}
use Rattle.octets.proofs.Puts.{put_none}
use Rattle.command_writer.proofs.words.put_gap.Goals as goal

pub returns-then-first : goal.returns-then-first
unfolding separated
returns-then-first c = rw c.if-first.true (put_none _ _ (search rules) (search rules))

pub returns : goal.returns
unfolding separated
returns c =
    rw c.if-first.false c.put.ensures
