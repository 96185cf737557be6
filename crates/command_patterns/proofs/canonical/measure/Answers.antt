-- `measure`: what was counted, and the places that are left, come to all of them. Rests on Counting.
use Rattle.listing_rules.proofs.Prelude.{◌∙◌, sym, arith}
use Rattle.command_tokens.specs.Spans.{span_bytes}
use Rattle.command_patterns.specs.Places.{held}
use Rattle.command_patterns.proofs.Counting.{from_out, from_skip, from_keep, counted_none, counted_same, counted_more, counted_all}
use Rattle.command_patterns.proofs.canonical.measure.Goals as goal
use Rattle.command_patterns.proofs.canonical.measure.Goals.{then-tail-ne0, else-tail-ne0}

pub loop-pattern-init : goal.loop-pattern-init
unfolding held
loop-pattern-init c = (omega arith, λ r h. rw c.places-pattern-items.ensures (counted_none _))

pub loop-pattern-preserved : goal.loop-pattern-preserved
loop-pattern-preserved c =
    let text = c.args.text.now in
    let here = c.loop-pattern.pattern-index in
    let tail = c.span_len-tail.ensures in
    let so_far = c.loop-pattern.invariant in
    elim c.if-tail-ne0.branch [
      | then-tail-ne0 w ↦ rw (w.count-is, w.fit-is) (
        omega arith,
        λ r h. counted_more _ _ _ (so_far.1 r h) r _ _ (from_keep text r _ here c.loop-pattern-test.true (λ e. w.if-tail-ne0.true (tail ∙ e)))
            (rw (h, sym tail) w.is_short-fit.ensures),
      )
      | else-tail-ne0 w ↦ rw (w.count-is, w.fit-is) (
        omega arith,
        λ r h. counted_same _ _ _ (so_far.1 r h) (from_skip text r _ here c.loop-pattern-test.true (sym tail ∙ w.if-tail-ne0.false)),
      )
    ]

pub returns : goal.returns
returns c =
    let text = c.args.text.now in
    let reference = span_bytes text _ in
    counted_all _ _ _ (c.loop-pattern.invariant.1 reference (sym c.span_len-head.ensures))
    (from_out text reference _ c.loop-pattern.pattern-index c.loop-pattern-test.false)
