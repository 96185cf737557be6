-- `Rows::lowest_run` meets its contract: the map says of each byte of the area whether it is free. By MapLaws.
use Rattle.listing_rules.proofs.Prelude.{◌∙◌, ap, Bool, List, arith, length-take}
use Rattle.listing_rules.specs.Subscriptions.{lowest_run}
use Rattle.subscriptions.specs.Runs.{run_is}
use Rattle.subscriptions.proofs.MapLaws.{map_free}
use Rattle.subscriptions.proofs.rows.Rows.lowest_run.Goals as goal

pub slice_bounds-first_run-end : goal.slice_bounds-first_run-end
slice_bounds-first_run-end c = simp length-take (omega (arith, c.unmark_names.ensures.size))

pub returns : goal.returns
returns c =
    c.first_run.ensures
    ∙ ap (λ (l : List Bool). run_is (lowest_run c.args.len 0 l))
    (map_free 32768 _ _ _ c.args.self.small (rw c.filled-marks.ensures at c.unmark_names.ensures))
