-- `session::gathering::gather_line` meets its contract. Rests on LineLaws.
use Rattle.listing_rules.proofs.Prelude.{arith}
use Rattle.session.proofs.LineLaws.{part_start, part_more, part_feed, part_end}
use Rattle.session.proofs.gathering.gather_line.Goals as goal

pub loop-i-init : goal.loop-i-init
loop-i-init c = part_start _ _ _

pub returns-then-c-eq-LF : goal.returns-then-c-eq-LF
returns-then-c-eq-LF c = part_feed c.loop-i.invariant c.loop-i-test.true c.if-c-eq-LF.true

pub loop-i-preserved : goal.loop-i-preserved
loop-i-preserved c =
    part_more c.loop-i.invariant _ _ c.loop-i-test.true c.if-c-eq-LF.false c.gather-gathered.ensures

pub returns : goal.returns
returns c = part_end c.loop-i.invariant (omega (arith, c.loop-i-test.false))
