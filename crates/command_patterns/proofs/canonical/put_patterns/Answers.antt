-- `put_patterns`: the buffer holds the first patterns, and the places that are left come to the rest. Rests on Counting and Packed.
use Rattle.listing_rules.proofs.Prelude.{◌∙◌, sym, rules}
use Rattle.command_tokens.specs.Spans.{span_bytes}
use Rattle.command_patterns.specs.Places.{held}
use Rattle.command_patterns.proofs.Counting.{from_out, from_skip, from_keep}
use Rattle.command_patterns.proofs.Packed.{packing_none, packing_same, packing_more, packing_all}
use Rattle.command_patterns.proofs.canonical.put_patterns.Goals as goal
use Rattle.command_patterns.proofs.canonical.put_patterns.Goals.{then-span_len-ne0, else-span_len-ne0}

pub loop-pattern-init : goal.loop-pattern-init
unfolding held
loop-pattern-init c = rw c.places-pattern-items.ensures (packing_none _ _ (search rules))

pub loop-pattern-preserved : goal.loop-pattern-preserved
loop-pattern-preserved c =
    let line = c.args.line.now in
    let reference = span_bytes line _ in
    let here = c.loop-pattern.pattern-index in
    let size = c.span_len.ensures in
    let so_far = c.loop-pattern.invariant in
    elim c.if-span_len-ne0.branch [
      | then-span_len-ne0 w ↦ rw (w.buf-is, w.to-is)
          (packing_more _ _ _ _ _ so_far _ _ (from_keep line reference _ here c.loop-pattern-test.true (λ e. w.if-span_len-ne0.true (size ∙ e)))
          w.put_canonical-to.ensures)
      | else-span_len-ne0 w ↦ rw (w.buf-is, w.to-is)
          (packing_same _ _ _ _ _ so_far (from_skip line _ _ here c.loop-pattern-test.true (sym size ∙ w.if-span_len-ne0.false)))
    ]

pub returns : goal.returns
returns c =
    packing_all _ _ _ _ _ c.loop-pattern.invariant
    (from_out c.args.line.now _ _ c.loop-pattern.pattern-index c.loop-pattern-test.false)
