-- `patterns_short` meets its contract: the patterns from `at` on decide. By the laws of PackedPatterns.
use Rattle.listing_rules.proofs.Prelude.{◌∙◌, sym}
use Rattle.command_writer.specs.Patterns.{short_after}
use Rattle.command_writer.proofs.PackedPatterns.{every_next, every_stop, every_end, canonical_short}
use Rattle.command_writer.proofs.patterns.patterns_short.Goals as goal

pub loop-at-init : goal.loop-at-init
loop-at-init c = sym (canonical_short _ _)

pub returns-then-not-is_short : goal.returns-then-not-is_short
returns-then-not-is_short c =
    sym (every_stop (short_after c.args.reference.now) c.pattern_at-p.ensures
    (sym c.is_short.ensures ∙ c.if-not-is_short.true)) ∙ c.loop-at.invariant

pub loop-at-preserved : goal.loop-at-preserved
loop-at-preserved c =
    sym (every_next (short_after c.args.reference.now) c.pattern_at-p.ensures
    (sym c.is_short.ensures ∙ c.if-not-is_short.false)) ∙ c.loop-at.invariant

pub returns : goal.returns
returns c =
    sym (every_end (short_after c.args.reference.now) _ _ c.loop-at-test.false) ∙ c.loop-at.invariant
