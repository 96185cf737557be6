-- `names::no_pair` meets its contract: what is kept and the pairs from i - 1 on decide. By the laws of pairs in NameShape.
use Rattle.listing_rules.proofs.Prelude.{◌∙◌, refl, sym, and-true, arith}
use Rattle.names.proofs.NameShape.{pair_more, pair_end}
use Rattle.names.proofs.no_pair.Goals as goal

pub loop-i-init : goal.loop-i-init
loop-i-init c = (omega arith, refl)

pub loop-i-preserved : goal.loop-i-preserved
loop-i-preserved c =
    (omega arith, pair_more c.args.name.now c.loop-i.ok _ c.loop-i.invariant.0 c.loop-i-test.true ∙ c.loop-i.invariant.1)

pub returns : goal.returns
returns c =
    let s = c.args.name.now in
    sym (and-true _) ∙ rw (pair_end s _ c.loop-i.invariant.0 c.loop-i-test.false) at c.loop-i.invariant.1
