-- `subscriptions::edit` meets its contract: `edit_front` over the words and numbers that are lent, and those after them stay.
use Rattle.listing_rules.proofs.Prelude.{◌∙◌, ◌≡◌, ap, sym, ◌++◌, ◌≤◌, arith, min, drop, length, length-take-le}
use Rattle.subscriptions.specs.Editing.{Cells, cells}
use Rattle.subscriptions.proofs.edit.Goals as goal

pub slice_bounds-edit_front-end-2 : goal.slice_bounds-edit_front-end-2
slice_bounds-edit_front-end-2 c =
    let a = c.args in
    sym (length-take-le _ a.words.now (omega (arith, c.min-n.ensures)))

pub slice_bounds-edit_front-end-4 : goal.slice_bounds-edit_front-end-4
slice_bounds-edit_front-end-4 c =
    let a = c.args in
    sym (length-take-le _ a.sums.now (omega (arith, c.min-n.ensures)))

pub edit_front-requires : goal.edit_front-requires
edit_front-requires c =
    let least = c.min-n.ensures in
    let a = c.args in
    let n = c.min-n.result in
    let lower : n ≤ length a.words.now = omega (arith, least) in
    let upper : n ≤ length a.sums.now = omega (arith, least) in
    length-take-le n a.words.now lower ∙ sym (length-take-le n a.sums.now upper)

pub returns : goal.returns
returns c =
    let a = c.args in
    let n = c.min-n.result in
    let least : n ≡ min (length a.words.now) (length a.sums.now) = c.min-n.ensures in
    record {
      answer = rw (← least) c.edit_front.ensures.0;
      leaves =
          rw (← least)
          (ap (λ (x : Cells). cells (x.words ++ drop n a.words.now) (x.sums ++ drop n a.sums.now) x.area) c.edit_front.ensures.1);
    }
