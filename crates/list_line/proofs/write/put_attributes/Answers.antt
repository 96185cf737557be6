-- `put_attributes` meets its contract. The loop's invariant is `Spelled` of `Writing`: what is written, and what is left of the names.
use Rattle.listing_rules.proofs.Prelude.{ap, subst, List, ℕ, arith, length, rules}
use Rattle.octets.specs.Put.{Put}
use Rattle.list_line.proofs.Names.{names_are, places_are, span_text, span_named}
use Rattle.list_line.specs.Names.{NameSpan}
use Rattle.list_line.proofs.Writing.{spelled_none, spelled_in, spelled_out, spelled_all}
use Rattle.list_line.proofs.write.put_attributes.Goals as goal
use Rattle.list_line.proofs.write.put_attributes.Goals.{then-bits-k-eq1, else-bits-k-eq1}

pub loop-k-init : goal.loop-k-init
loop-k-init c = spelled_none _ _ _ (search rules) (search rules)

pub slice_bounds-put_all-count : goal.slice_bounds-put_all-count
slice_bounds-put_all-count c =
    let spanned : NameSpan c.loop-k.k c.loop-k.first c.name_span-span.result = span_named _ _ _ places_are c.loop-k-test.true c.name_span-span.ensures in
    spanned.order

pub slice_bounds-put_all-start : goal.slice_bounds-put_all-start
slice_bounds-put_all-start c =
    let spanned : NameSpan c.loop-k.k c.loop-k.first c.name_span-span.result = span_named _ _ _ places_are c.loop-k-test.true c.name_span-span.ensures in
    spanned.order

pub slice_bounds-put_all-end : goal.slice_bounds-put_all-end
slice_bounds-put_all-end c =
    let spanned : NameSpan c.loop-k.k c.loop-k.first c.name_span-span.result = span_named _ _ _ places_are c.loop-k-test.true c.name_span-span.ensures in
    omega (arith, spanned.inside, ap length names_are)

pub loop-k-preserved : goal.loop-k-preserved
loop-k-preserved c =
    elim c.if-bits-k-eq1.branch [
      | then-bits-k-eq1 w ↦
          let name = span_text _ names_are (span_named _ _ _ places_are c.loop-k-test.true w.name_span-span.ensures) in
          let put = subst (λ (x : List ℕ). Put c.loop-k.buf w.put_all-to.new.buf c.loop-k.to x w.put_all-to.result) name w.put_all-to.ensures in
          rw (w.buf-is, w.to-is, w.first-is) (spelled_in c.loop-k.invariant c.loop-k-test.true w.if-bits-k-eq1.true put)
      | else-bits-k-eq1 w ↦ rw (w.buf-is, w.to-is, w.first-is) (spelled_out c.loop-k.invariant c.loop-k-test.true w.if-bits-k-eq1.false)
    ]

pub returns : goal.returns
returns c =
    spelled_all c.loop-k.invariant c.loop-k-test.false
