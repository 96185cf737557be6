-- `some_level` meets its contract: some pattern from here on ends in "%" exactly if some of the whole does.
use Rattle.listing_rules.proofs.Prelude.{◌∙◌, refl, sym, arith}
use Rattle.pattern.proofs.Chosen.{percent_here, percent_later, percent_end}
use Rattle.pattern.proofs.some_level.Goals as goal

pub loop-at-init : goal.loop-at-init
loop-at-init c = (omega arith, refl)

pub returns-then-ends_in_percent : goal.returns-then-ends_in_percent
returns-then-ends_in_percent c =
    let more = c.loop-at-test.true in
    let item = c.item_end-next.ensures in
    sym (percent_here _ _ _ more item _ c.ends_in_percent.ensures c.if-ends_in_percent.true) ∙ c.loop-at.invariant.1

pub loop-at-preserved : goal.loop-at-preserved
loop-at-preserved c =
    let more = c.loop-at-test.true in
    let item = c.item_end-next.ensures in
    (omega arith, sym (percent_later _ _ _ more item _ c.ends_in_percent.ensures c.if-ends_in_percent.false) ∙ c.loop-at.invariant.1)

pub returns : goal.returns
returns c =
    sym (percent_end _ _ c.loop-at-test.false) ∙ c.loop-at.invariant.1
