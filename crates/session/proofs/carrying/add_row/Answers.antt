-- `session::carrying::add_row` meets its contract: 13, or added. Rests on CarryLaws.
use Rattle.session.proofs.CarryLaws.{adds_not, adds_row}
use Rattle.session.proofs.carrying.add_row.Goals as goal

pub returns-then-stored : goal.returns-then-stored
returns-then-stored c =
    λ words namespaces entries. rw c.said.ensures (adds_not _ _ _ _ c.requires.table_bound _ _ c.if-stored.true (rw c.number.ensures at c.put_refusal.ensures) words namespaces entries)

pub returns : goal.returns
returns c =
    λ words namespaces entries. rw c.with_rows.ensures (adds_row _ _ _ _ c.requires.table_bound _ _ _ c.if-stored.false c.requires.in_bounds c.keep-added.ensures words namespaces entries)
