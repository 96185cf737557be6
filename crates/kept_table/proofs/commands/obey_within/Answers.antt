-- `kept_table::commands::obey_within` meets its contract: records, an edit, or a command that only reads. Rests on ObeyLaws.
use Rattle.listing_rules.proofs.Prelude.{◌∙◌, sym, arith}
use Rattle.kept_table.specs.Kept.{lent}
use Rattle.kept_table.proofs.LentLaws.{whole_table, whole_namespaces}
use Rattle.kept_table.proofs.ObeyLaws.{obeys_read}
use Rattle.kept_table.proofs.commands.obey_within.Goals as goal

pub first_edit-requires : goal.first_edit-requires
first_edit-requires c =
    record { within = c.requires; edited_value = (c.if-stored.false, sym c.is_edit_line.ensures ∙ c.if-is_edit_line.true) }

pub slice_bounds-spaces-end : goal.slice_bounds-spaces-end
slice_bounds-spaces-end c =
    whole_namespaces c.requires

pub slice_bounds-read_line-end-2 : goal.slice_bounds-read_line-end-2
slice_bounds-read_line-end-2 c =
    whole_table c.requires.held

pub read_line-written-requires : goal.read_line-written-requires
read_line-written-requires c =
    record { command_value = sym c.is_edit_line.ensures ∙ c.if-is_edit_line.false; table_len_bound = omega (arith, whole_table c.requires.held, c.requires.held.rows) }

pub returns : goal.returns
returns c =
    let before = lent _ _ _ _ in
    rw c.said.ensures
    (obeys_read before _ c.requires _ _ _ _ c.if-stored.false
    (sym c.is_edit_line.ensures ∙ c.if-is_edit_line.false) c.read_line-written.ensures)
