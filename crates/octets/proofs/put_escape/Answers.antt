-- `octets::put_escape` meets its contract: one write, or two that join by `put_then`.
use Rattle.octets.proofs.Puts.{put_then}
use Rattle.octets.proofs.put_escape.Goals as goal

pub returns-then-b : goal.returns-then-b
returns-then-b c =
    rw c.if-b.true (put_then c.put-to.ensures c.put.ensures)

pub returns : goal.returns
returns c =
    rw c.if-b.false c.put-2.ensures
