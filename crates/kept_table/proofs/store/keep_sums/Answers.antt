-- `kept_table::store::keep_sums` meets its contract. Rests on LentLaws.
use Rattle.listing_rules.proofs.Prelude.{arith, drop, length-drop, length-take-le}
use Rattle.kept_table.proofs.LentLaws.{copied_sums}
use Rattle.kept_table.proofs.store.keep_sums.Goals as goal

pub copy_from_slice-requires : goal.copy_from_slice-requires
copy_from_slice-requires c =
    let a = c.args in
    omega (arith, length-take-le 512 (drop 512 a.records.now) (omega (arith, c.requires.1, length-drop 512 a.records.now)), c.requires.0)

pub returns : goal.returns
returns c = copied_sums c.args.sums.now c.args.records.now _ c.copy_from_slice.ensures.after
