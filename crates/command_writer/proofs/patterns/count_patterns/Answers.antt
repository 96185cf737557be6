-- `count_patterns` meets its contract: those counted, and those from `at` on, are all.
use Rattle.listing_rules.proofs.Prelude.{ap, arith, length}
use Rattle.command_writer.proofs.PackedPatterns.{patterns_end}
use Rattle.command_writer.proofs.patterns.count_patterns.Goals as goal

pub loop-at-init : goal.loop-at-init
loop-at-init c = (omega arith, omega arith)

pub loop-at-preserved : goal.loop-at-preserved
loop-at-preserved c =
    (omega (arith, c.pattern_at-p.ensures.onward), omega (arith, ap length c.pattern_at-p.ensures.first))

pub returns : goal.returns
returns c =
    omega (arith, ap length (patterns_end c.args.list.now _ c.loop-at-test.false))
