-- `summary::agrees` meets its contract: the rows from i on decide. By AgreeLaws.
use Rattle.listing_rules.proofs.Prelude.{◌∙◌, ap, sym, ℕ, arith, eqb, get_or, ne_eqb, eq-eqb}
use Rattle.summary.proofs.AgreeLaws.{agree_all, agree_short, agree_end, agree_on, agree_stop}
use Rattle.summary.proofs.agrees.Goals as goal

pub returns-then-sums-rows : goal.returns-then-sums-rows
returns-then-sums-rows c = let a = c.args in sym (agree_short a.rows.area.now a.rows.words.now a.sums.now c.if-sums-rows.true)

pub loop-i-init : goal.loop-i-init
loop-i-init c =
    let a = c.args in
    (omega (arith, c.if-sums-rows.false), agree_all a.rows.area.now a.rows.words.now a.sums.now)

pub returns-then-count_below-sums : goal.returns-then-count_below-sums
returns-then-count_below-sums c =
    let a = c.args in
    sym (sym c.loop-i.invariant.1
    ∙ agree_stop a.rows.area.now a.rows.words.now a.sums.now c.loop-i.i c.loop-i-test.true c.loop-i.invariant.0
    c.args.rows.few
    (ap (λ (x : ℕ). eqb x (get_or a.sums.now c.loop-i.i 0)) (sym c.count_below.ensures) ∙ ne_eqb _ _ c.if-count_below-sums.true))

pub loop-i-preserved : goal.loop-i-preserved
loop-i-preserved c =
    let a = c.args in (
      c.loop-i.invariant.0,
      sym (agree_on a.rows.area.now a.rows.words.now a.sums.now c.loop-i.i c.loop-i-test.true c.loop-i.invariant.0
          c.args.rows.few
          (ap (λ (x : ℕ). eqb x (get_or a.sums.now c.loop-i.i 0)) (sym c.count_below.ensures) ∙ eq-eqb _ _ c.if-count_below-sums.false))
          ∙ c.loop-i.invariant.1,
    )

pub returns : goal.returns
returns c =
    let a = c.args in
    sym (agree_end a.rows.area.now a.rows.words.now a.sums.now c.loop-i.i c.loop-i-test.false) ∙ c.loop-i.invariant.1
