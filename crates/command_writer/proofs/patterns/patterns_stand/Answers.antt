-- `patterns_stand` meets its contract: the patterns from `at` on decide. By the laws of PackedPatterns.
use Rattle.listing_rules.proofs.Prelude.{◌∙◌, refl, sym}
use Rattle.listing_rules.specs.Joining.{can_stand}
use Rattle.command_writer.proofs.PackedPatterns.{every_next, every_stop, every_end}
use Rattle.command_writer.proofs.patterns.patterns_stand.Goals as goal

pub loop-at-init : goal.loop-at-init
loop-at-init c = refl

pub returns-then-not-can_stand : goal.returns-then-not-can_stand
returns-then-not-can_stand c =
    sym (every_stop can_stand c.pattern_at-p.ensures (sym c.can_stand.ensures ∙ c.if-not-can_stand.true)) ∙
    c.loop-at.invariant

pub loop-at-preserved : goal.loop-at-preserved
loop-at-preserved c =
    sym (every_next can_stand c.pattern_at-p.ensures (sym c.can_stand.ensures ∙ c.if-not-can_stand.false)) ∙
    c.loop-at.invariant

pub returns : goal.returns
returns c =
    sym (every_end can_stand _ _ c.loop-at-test.false) ∙ c.loop-at.invariant
