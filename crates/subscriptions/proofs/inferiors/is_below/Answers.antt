-- `subscriptions::inferiors::is_below` meets its contract: the byte after the shorter name, then the bytes before it. By InferiorLaws.
use Rattle.listing_rules.proofs.Prelude.{◌∙◌, sym, and-false, and-true, arith, length-take, eq-eqb, ne_eqb}
use Rattle.listing_rules.specs.Bytes.{same}
use Rattle.subscriptions.proofs.InferiorLaws.{below_at, below_short}
use Rattle.subscriptions.proofs.inferiors.is_below.Goals as goal

pub returns-then-n-len : goal.returns-then-n-len
returns-then-n-len c = sym (below_short _ _ c.if-n-len.true)

pub returns-then-n-len-ne-SLASH : goal.returns-then-n-len-ne-SLASH
returns-then-n-len-ne-SLASH c = sym (below_at _ _ c.if-n-len.false ∙ rw (ne_eqb _ _ c.if-n-len-ne-SLASH.true) (and-false (same _ _)))

pub slice_bounds-same_bytes-end : goal.slice_bounds-same_bytes-end
slice_bounds-same_bytes-end c = simp length-take (omega arith)

pub returns : goal.returns
returns c =
    c.same_bytes.ensures ∙ sym (below_at _ _ c.if-n-len.false ∙ rw (eq-eqb _ _ c.if-n-len-ne-SLASH.false) (and-true _))
