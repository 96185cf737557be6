-- `read_attributes` meets its contract. The loop's invariant is `Choosing`: what is read, and what is left of the names.
use Rattle.listing_rules.proofs.Prelude.{ap, subst, List, ℕ, arith, length}
use Rattle.listing_rules.specs.LineReader.{separated}
use Rattle.list_line.specs.Names.{name_of, NameSpan}
use Rattle.list_line.proofs.Members.{one_bit}
use Rattle.list_line.proofs.Names.{names_are, places_are, span_text, span_named}
use Rattle.line_reader.specs.Parts.{Skips}
use Rattle.line_reader.proofs.Choosing.{choosing_none, choosing_bits, choosing_in, choosing_out}
use Rattle.line_reader.proofs.Choosing.{choosing_all}
use Rattle.line_reader.proofs.read_attributes.Goals as goal
use Rattle.line_reader.proofs.read_attributes.Goals.{in-Some, in_default}

pub loop-k-init : goal.loop-k-init
loop-k-init c = choosing_none _ _ c.requires

pub slice_bounds-skip-count : goal.slice_bounds-skip-count
slice_bounds-skip-count c =
    let spanned : NameSpan c.loop-k.k c.loop-k.first c.name_span-span.result = span_named _ _ _ places_are c.loop-k-test.true c.name_span-span.ensures in
    spanned.order

pub slice_bounds-skip-start : goal.slice_bounds-skip-start
slice_bounds-skip-start c =
    let spanned : NameSpan c.loop-k.k c.loop-k.first c.name_span-span.result = span_named _ _ _ places_are c.loop-k-test.true c.name_span-span.ensures in
    spanned.order

pub slice_bounds-skip-end : goal.slice_bounds-skip-end
slice_bounds-skip-end c =
    let spanned : NameSpan c.loop-k.k c.loop-k.first c.name_span-span.result = span_named _ _ _ places_are c.loop-k-test.true c.name_span-span.ensures in
    omega (arith, spanned.inside, ap length names_are)

pub skip-requires : goal.skip-requires
skip-requires c = c.loop-k.invariant.inside

pub overflow_add-bits : goal.overflow_add-bits
overflow_add-bits c =
    omega (arith, choosing_bits c.loop-k.invariant, one_bit c.loop-k.k c.loop-k-test.true)

pub loop-k-preserved : goal.loop-k-preserved
loop-k-preserved c =
    let spanned : NameSpan c.loop-k.k c.loop-k.first c.name_span-span.result = span_named _ _ _ places_are c.loop-k-test.true c.name_span-span.ensures in
    let skipped : Skips c.args.line.now c.loop-k.at (separated c.loop-k.first (name_of c.loop-k.k)) c.skip.result = subst (λ (x : List ℕ). Skips c.args.line.now c.loop-k.at x c.skip.result) (span_text _ names_are spanned) c.skip.ensures in
    let inv = c.loop-k.invariant in
    let h = c.loop-k-test.true in
    elim c.match-skip.branch [
      | in-Some w ↦ let s = rw w.in-Some.is at skipped in rw (w.at-is, w.bits-is, w.first-is) (choosing_in inv _ h s.0 s.1)
      | in_default w ↦ rw (w.at-is, w.bits-is, w.first-is) (choosing_out inv h (rw w.in_default.is at skipped))
    ]

pub returns : goal.returns
returns c =
    choosing_all c.loop-k.invariant c.loop-k-test.false
