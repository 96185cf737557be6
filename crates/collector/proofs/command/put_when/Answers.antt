-- `put_when` meets its contract: the text, or nothing (`put-none`).
use Rattle.listing_rules.proofs.Prelude.{arith}
use Rattle.listing_rules.specs.Walk.{when}
use Rattle.octets.proofs.Puts.{put_none}
use Rattle.collector.proofs.command.put_when.Goals as goal

pub returns-then-asked : goal.returns-then-asked
unfolding when
returns-then-asked c =
    rw c.if-asked.true c.put_all.ensures

pub returns : goal.returns
unfolding when
returns c =
    rw c.if-asked.false (put_none c.args.buf.now c.args.at (omega arith) (omega arith))
