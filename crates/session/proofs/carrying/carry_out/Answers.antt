-- `session::carrying::carry_out` meets its contract: one law for each kind of frame. Rests on CarryLaws.
use Rattle.std.specs.Prelude.{Some}
use Rattle.listing_rules.proofs.Prelude.{ap, ◌+◌, ◌-◌, arith}
use Rattle.frames.specs.declared.reading.Frame.{Frame}
use Rattle.kept_table.specs.Kept.{Lent, lent}
use Rattle.session.proofs.CarryLaws.{whole_row, whole_entry, whole_command, kind_row, kind_entry, kind_command, kind_walk}
use Rattle.session.proofs.carrying.carry_out.Goals as goal

pub slice_bounds-add_row-end : goal.slice_bounds-add_row-end
slice_bounds-add_row-end c =
    whole_row _ c.requires.frame_in_bounds
    (ap (λ (f : Frame). Some f) c.in-Table.is)

pub slice_bounds-part-end : goal.slice_bounds-part-end
slice_bounds-part-end c =
    whole_entry _ c.requires.frame_in_bounds
    (ap (λ (f : Frame). Some f) c.in-Namespaces.is)

pub overflow_add-line : goal.overflow_add-line
overflow_add-line c =
    omega
    (arith, whole_command c.args.bytes.now c.requires.frame_in_bounds (ap (λ (f : Frame). Some f) c.in-Command.is))

pub slice_bounds-line-end : goal.slice_bounds-line-end
slice_bounds-line-end c =
    whole_command c.args.bytes.now c.requires.frame_in_bounds
    (ap (λ (f : Frame). Some f) c.in-Command.is)

pub returns-in-Table : goal.returns-in-Table
returns-in-Table c =
    let memory : Lent = lent c.args.table.now c.args.records.now c.args.namespaces.now c.args.out.now in
    kind_row memory _ c.requires.within _ _ _ _ _ _ (ap (λ (f : Frame). Some f) c.in-Table.is) c.add_row.ensures

pub returns-in-Namespaces : goal.returns-in-Namespaces
returns-in-Namespaces c =
    let memory : Lent = lent c.args.table.now c.args.records.now c.args.namespaces.now c.args.out.now in
    rw c.with_entries.ensures (kind_entry memory _ c.requires.within _ _ _ _
    _ _ (ap (λ (f : Frame). Some f) c.in-Namespaces.is) c.keep-added.ensures)

pub returns-in-Command : goal.returns-in-Command
returns-in-Command c =
    let memory : Lent = lent c.args.table.now c.args.records.now c.args.namespaces.now c.args.out.now in
    let size = c.in-Command.n in
    kind_command memory _ c.requires.within _ _ _ size (size + 1 - 1) _ _ _ _
    (ap (λ (f : Frame). Some f) c.in-Command.is) c.obey.ensures (omega arith)

pub returns-in-Walk : goal.returns-in-Walk
returns-in-Walk c =
    let memory : Lent = lent c.args.table.now c.args.records.now c.args.namespaces.now c.args.out.now in
    rw c.said.ensures (kind_walk memory _ c.requires.within _ _ _ _ _ _
    (ap (λ (f : Frame). Some f) c.in-Walk.is) c.walk_line.ensures)
