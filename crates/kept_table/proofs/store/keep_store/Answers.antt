-- `kept_table::store::keep_store` meets its contract. Rests on LentLaws.
use Rattle.listing_rules.proofs.Prelude.{◌∙◌, ap, sym, List, ◌++◌, ℕ, arith, drop, length-take-le, take}
use Rattle.kept_table.specs.Kept.{numbers_with}
use Rattle.kept_table.proofs.LentLaws.{with_over}
use Rattle.kept_table.proofs.store.keep_store.Goals as goal

pub copy_from_slice-requires : goal.copy_from_slice-requires
copy_from_slice-requires c = omega (arith, length-take-le 512 c.args.records.now (omega (arith, c.requires.2)), c.requires.0)

pub slice_bounds-copy_from_slice-end-2 : goal.slice_bounds-copy_from_slice-end-2
slice_bounds-copy_from_slice-end-2 c = sym (length-take-le 512 c.args.records.now (omega (arith, c.requires.2)))

pub returns : goal.returns
returns c =
    let a = c.args in (
      c.put_all.ensures.bytes,
      c.keep_sums.ensures
          ∙ ap (λ (l : List ℕ). numbers_with (take 512 (l ++ drop 512 a.records.now)) a.sums.now (l ++ drop 512 a.records.now)) c.copy_from_slice.ensures.after
          ∙ with_over a.words.now a.sums.now a.records.now c.requires.0 c.requires.1,
    )
