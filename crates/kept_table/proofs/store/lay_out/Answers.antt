-- `kept_table::store::lay_out` meets its contract: the table does not pass, or its names are placed. Rests on LayLaws and mailbox_table's HeldLaws.
use Rattle.listing_rules.proofs.Prelude.{◌∙◌, ◌≡◌, ap, ℕ, length, length-replicate}
use Rattle.mailbox_table.proofs.HeldLaws.{index_held, index_refused}
use Rattle.kept_table.proofs.LayLaws.{rows_short, rows_inside, lays_rows}
use Rattle.kept_table.proofs.store.lay_out.Goals as goal

pub returns-in_err-n : goal.returns-in_err-n
returns-in_err-n c =
    let sized : length c.args.words.now ≡ 512 = ap length c.requires.words ∙ length-replicate {A = ℕ} 512 0 in
    rw c.from_residual.ensures (index_refused c.index.ensures sized (c.in_err-n.was))

pub slice_bounds-place_names-end : goal.slice_bounds-place_names-end
slice_bounds-place_names-end c =
    (index_held c.index.ensures _ c.in_ok-n.was).inside

pub slice_bounds-place_names-end-2 : goal.slice_bounds-place_names-end-2
slice_bounds-place_names-end-2 c =
    (index_held c.index.ensures _ c.in_ok-n.was).size

pub place_names-requires : goal.place_names-requires
place_names-requires c =
    let sized : length c.args.words.now ≡ 512 = ap length c.requires.words ∙ length-replicate {A = ℕ} 512 0 in (
      rows_short c.index.ensures sized _ c.in_ok-n.was c.requires.table,
      rows_inside c.index.ensures sized _ c.in_ok-n.was,
    )

pub returns : goal.returns
returns c =
    let sized : length c.args.words.now ≡ 512 = ap length c.requires.words ∙ length-replicate {A = ℕ} 512 0 in
    lays_rows c.index.ensures sized _ c.in_ok-n.was _ _ c.place_names.new.words c.requires
    c.place_names.ensures.0 c.place_names.ensures.1 c.place_names.ensures.2
