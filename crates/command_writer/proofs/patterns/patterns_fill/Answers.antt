-- `patterns_fill` meets its contract: the bytes from `at` on decide. By the laws of PackedPatterns.
use Rattle.listing_rules.proofs.Prelude.{◌∙◌, refl, sym}
use Rattle.command_writer.proofs.PackedPatterns.{fill_next, fill_past, fill_end}
use Rattle.command_writer.proofs.patterns.patterns_fill.Goals as goal

pub loop-at-init : goal.loop-at-init
loop-at-init c = refl

pub returns-then-list-p : goal.returns-then-list-p
returns-then-list-p c =
    sym (fill_past c.loop-at-test.true c.pattern_at-p.ensures c.if-list-p.true) ∙ c.loop-at.invariant

pub loop-at-preserved : goal.loop-at-preserved
loop-at-preserved c =
    sym (fill_next c.loop-at-test.true c.pattern_at-p.ensures c.if-list-p.false) ∙ c.loop-at.invariant

pub returns : goal.returns
returns c =
    sym (fill_end _ _ c.loop-at-test.false) ∙ c.loop-at.invariant
