-- `kept_table::walks::walk_held` meets its contract: a walk, or a refusal. Rests on WalkLaws.
use Rattle.listing_rules.proofs.Prelude.{◌∙◌, ◌≡◌, ap, sym, ℕ, length, length-replicate}
use Rattle.kept_table.proofs.WalkLaws.{walk_fits, walk_says, walk_refuses}
use Rattle.kept_table.proofs.walks.walk_held.Goals as goal

pub slice_bounds-found-end : goal.slice_bounds-found-end
slice_bounds-found-end c =
    let sizes : (length c.filled-scratch.result ≡ 16384) × (length c.filled-found.result ≡ 8192) ×
    (length c.filled-pending.result ≡ 8192) = (
      ap length c.filled-scratch.ensures ∙ length-replicate {A = ℕ} 16384 0,
      ap length c.filled-found.ensures ∙ length-replicate {A = ℕ} 8192 0,
      ap length c.filled-pending.ensures ∙ length-replicate {A = ℕ} 8192 0,
    ) in
    (walk_fits _ _ _ _ _ _ _ _ sizes c.collect_kept.ensures.result c.collect_kept.auto.found
    c.collect_kept.ensures.found _ c.in-Ok.is).0

pub slice_bounds-put_walk-end : goal.slice_bounds-put_walk-end
slice_bounds-put_walk-end c =
    let sizes : (length c.filled-scratch.result ≡ 16384) × (length c.filled-found.result ≡ 8192) ×
    (length c.filled-pending.result ≡ 8192) = (
      ap length c.filled-scratch.ensures ∙ length-replicate {A = ℕ} 16384 0,
      ap length c.filled-found.ensures ∙ length-replicate {A = ℕ} 8192 0,
      ap length c.filled-pending.ensures ∙ length-replicate {A = ℕ} 8192 0,
    ) in
    sym (walk_fits _ _ _ _ _ _ _ _ sizes c.collect_kept.ensures.result
    c.collect_kept.auto.found c.collect_kept.ensures.found _ c.in-Ok.is).1

pub returns-in-Ok : goal.returns-in-Ok
returns-in-Ok c =
    let sizes : (length c.filled-scratch.result ≡ 16384) × (length c.filled-found.result ≡ 8192) ×
    (length c.filled-pending.result ≡ 8192) = (
      ap length c.filled-scratch.ensures ∙ length-replicate {A = ℕ} 16384 0,
      ap length c.filled-found.ensures ∙ length-replicate {A = ℕ} 8192 0,
      ap length c.filled-pending.ensures ∙ length-replicate {A = ℕ} 8192 0,
    ) in
    walk_says _ _ _ _ _ _ _ _ sizes c.collect_kept.ensures.result c.collect_kept.auto.found
    c.collect_kept.ensures.found _ _ _ _ c.in-Ok.is c.put_walk.ensures

pub returns-in-Err : goal.returns-in-Err
returns-in-Err c =
    let sizes : (length c.filled-scratch.result ≡ 16384) × (length c.filled-found.result ≡ 8192) ×
    (length c.filled-pending.result ≡ 8192) = (
      ap length c.filled-scratch.ensures ∙ length-replicate {A = ℕ} 16384 0,
      ap length c.filled-found.ensures ∙ length-replicate {A = ℕ} 8192 0,
      ap length c.filled-pending.ensures ∙ length-replicate {A = ℕ} 8192 0,
    ) in
    walk_refuses _ _ _ _ _ _ _ _ sizes c.collect_kept.ensures.result
    c.collect_kept.auto.found c.collect_kept.ensures.found _ _ _ _ c.in-Err.is (rw c.number.ensures at c.put_refusal.ensures)
