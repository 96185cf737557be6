-- `subscriptions::edit_front` meets its contract: the plan by EditingLaws, and what `carry_out` leaves.
use Rattle.std.specs.Prelude.{Ok, Err}
use Rattle.std.proofs.lemmas.Result.{err_from_is_err_and}
use Rattle.octets.specs.Refusals.{number_of}
use Rattle.records.specs.Words.{record_of}
use Rattle.subscriptions.specs.Plans.{Decision, plan_for}
use Rattle.listing_rules.proofs.Prelude.{◌∙◌, ◌≡◌, ap, subst, sym, true, arith, length, length-take-le, map, take}
use Rattle.listing_rules.specs.Table.{passes}
use Rattle.records.specs.Lent.{words_table}
use Rattle.subscriptions.specs.Applied.{Fits, words_after, area_after}
use Rattle.subscriptions.specs.Summed.{SumsFit, numbers_after}
use Rattle.subscriptions.specs.Editing.{cells}
use Rattle.subscriptions.proofs.EditingLaws.{plan_refused, plan_denied, plan_short, plan_made, cells_pass, plan_fits_cells, plan_sums_cells}
use Rattle.subscriptions.proofs.edit_front.Goals as goal

-- the table does not pass
pub returns-then-not-check_summed : goal.returns-then-not-check_summed
unfolding words_after area_after numbers_after
returns-then-not-check_summed c =
    let a = c.args in
    let p = plan_refused (cells a.words.now a.sums.now a.area.now) a.count a.subscribe a.name.now a.fits
    (sym c.check_summed.ensures ∙ c.if-not-check_summed.true) in
    (rw p, rw p)

pub slice_bounds-rows-end : goal.slice_bounds-rows-end
slice_bounds-rows-end c =
    let passed : let a = c.args in
    passes (words_table a.words.now a.count a.area.now a.sums.now) ≡ true = sym c.check_summed.ensures ∙ c.if-not-check_summed.false in
    let a = c.args in
    (cells_pass (cells a.words.now a.sums.now a.area.now) _ passed).counted

pub slice_bounds-rows-end-2 : goal.slice_bounds-rows-end-2
slice_bounds-rows-end-2 c =
    let passed : let a = c.args in
    passes (words_table a.words.now a.count a.area.now a.sums.now) ≡ true = sym c.check_summed.ensures ∙ c.if-not-check_summed.false in
    let a = c.args in
    sym (length-take-le _ _ (cells_pass (cells a.words.now a.sums.now a.area.now) _ passed).counted)

pub invariant_of-rows : goal.invariant_of-rows
invariant_of-rows c =
    let passed : let a = c.args in
    passes (words_table a.words.now a.count a.area.now a.sums.now) ≡ true = sym c.check_summed.ensures ∙ c.if-not-check_summed.false in
    let a = c.args in
    let k = cells_pass (cells a.words.now a.sums.now a.area.now) _ passed in
    record { ascend = k.ordered.ascend; inside = k.ordered.inside; few = omega (arith, k.few, length-take-le _ a.words.now k.counted); small = k.small }

pub invariant_of-rows-2 : goal.invariant_of-rows-2
invariant_of-rows-2 c =
    let passed : let a = c.args in
    passes (words_table a.words.now a.count a.area.now a.sums.now) ≡ true = sym c.check_summed.ensures ∙ c.if-not-check_summed.false in
    let a = c.args in
    let k = cells_pass (cells a.words.now a.sums.now a.area.now) _ passed in
    record { ascend = k.ordered.ascend; inside = k.ordered.inside; few = omega (arith, k.few, length-take-le _ a.words.now k.counted); small = k.small }

pub returns-in_err-plan : goal.returns-in_err-plan
unfolding words_after area_after numbers_after
returns-in_err-plan c =
    let passed : let a = c.args in
    passes (words_table a.words.now a.count a.area.now a.sums.now) ≡ true = sym c.check_summed.ensures ∙ c.if-not-check_summed.false in
    let a = c.args in
    let decided : ◌≡◌ {A = Decision} (Err (number_of c.in_err-plan.field-0.0))
    (plan_for (map record_of (take a.count a.words.now)) (length a.words.now) a.area.now a.subscribe a.name.now) = c.in_err-plan.ensures in
    let planned = plan_denied (cells a.words.now a.sums.now a.area.now) _ passed _ _ a.fits _ (sym decided) in
    let p = err_from_is_err_and c.from_residual.result c.from_residual.ensures.1 in
    (rw (p.1, p.2, planned), rw planned)

pub returns-then-not-fits : goal.returns-then-not-fits
unfolding words_after area_after numbers_after
returns-then-not-fits c =
    let passed : let a = c.args in
    passes (words_table a.words.now a.count a.area.now a.sums.now) ≡ true = sym c.check_summed.ensures ∙ c.if-not-check_summed.false in
    let a = c.args in
    let decided : ◌≡◌ {A = Decision} (Ok c.in_ok-plan.plan) (plan_for (map record_of (take a.count a.words.now)) (length a.words.now) a.area.now a.subscribe a.name.now) = c.in_ok-plan.ensures in
    let planned = plan_short (cells a.words.now a.sums.now a.area.now) _ passed _ _ a.fits _ (sym decided) c.if-not-fits.true in
    (rw planned, rw planned)

pub carry_sums-requires : goal.carry_sums-requires
carry_sums-requires c =
    let passed : let a = c.args in
    passes (words_table a.words.now a.count a.area.now a.sums.now) ≡ true = sym c.check_summed.ensures ∙ c.if-not-check_summed.false in
    let a = c.args in
    let d = cells a.words.now a.sums.now a.area.now in
    let decided : ◌≡◌ {A = Decision} (Ok c.in_ok-plan.plan) (plan_for (map record_of (take a.count a.words.now)) (length a.words.now) a.area.now a.subscribe a.name.now) = c.in_ok-plan.ensures in
    subst (λ (x : Decision). SumsFit x a.sums.now (take a.count a.words.now) a.area.now a.name.now) (sym decided) (plan_sums_cells d _ passed c.requires a.subscribe a.name.now)

pub apply_plan-requires : goal.apply_plan-requires
apply_plan-requires c =
    let passed : let a = c.args in
    passes (words_table a.words.now a.count a.area.now a.sums.now) ≡ true = sym c.check_summed.ensures ∙ c.if-not-check_summed.false in
    let a = c.args in
    let d = cells a.words.now a.sums.now a.area.now in
    let decided : ◌≡◌ {A = Decision} (Ok c.in_ok-plan.plan) (plan_for (map record_of (take a.count a.words.now)) (length a.words.now) a.area.now a.subscribe a.name.now) = c.in_ok-plan.ensures in
    subst (λ (x : Decision). Fits x a.words.now a.count a.area.now a.name.now) (sym decided) (plan_fits_cells d _ passed a.subscribe a.name.now)

pub returns : goal.returns
returns c =
    let passed : let a = c.args in
    passes (words_table a.words.now a.count a.area.now a.sums.now) ≡ true = sym c.check_summed.ensures ∙ c.if-not-check_summed.false in
    let a = c.args in
    let decided : ◌≡◌ {A = Decision} (Ok c.in_ok-plan.plan) (plan_for (map record_of (take a.count a.words.now)) (length a.words.now) a.area.now a.subscribe a.name.now) = c.in_ok-plan.ensures in
    let planned = plan_made (cells a.words.now a.sums.now a.area.now) _ passed _ _ a.fits _ (sym decided) c.if-not-fits.false in
    (rw planned (ap Ok c.apply_plan.ensures.0), rw planned (λ i. cells (c.apply_plan.ensures.1 i) (c.carry_sums.ensures i) (c.apply_plan.ensures.2 i)))
