-- `luspemaro::feeding::ends_frame` meets its contract: its test is that of `endsFrame`.
use Rattle.listing_rules.proofs.Prelude.{arith, eq-eqb, ne_eqb}
use Rattle.luspemaro.proofs.feeding.ends_frame.Goals as goal

pub returns-then-b-eq-LF : goal.returns-then-b-eq-LF
returns-then-b-eq-LF c = (rw (eq-eqb _ _ c.if-b-eq-LF.true), omega arith)

pub returns-else-b-eq-LF : goal.returns-else-b-eq-LF
returns-else-b-eq-LF c = (rw (ne_eqb _ _ c.if-b-eq-LF.false), omega arith)
