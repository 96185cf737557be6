-- `mailbox_table::packed::find_rows` meets its contract: the bytes turned into records, then check 1 of their rows. By FindLaws.
use Rattle.listing_rules.proofs.Prelude.{arith, length-take}
use Rattle.mailbox_table.proofs.FindLaws.{split, finds_no_room, finds_bad, finds_rows}
use Rattle.mailbox_table.proofs.packed.find_rows.Goals as goal

pub returns-in_err-n : goal.returns-in_err-n
returns-in_err-n c = rw c.from_residual.ensures (finds_no_room c.split_rows.ensures c.in_err-n.was)

pub rows_pass-requires : goal.rows_pass-requires
rows_pass-requires c = simp length-take (omega (arith, (split c.split_rows.ensures c.in_ok-n.was).few))

pub returns-then-not-rows_pass : goal.returns-then-not-rows_pass
returns-then-not-rows_pass c = finds_bad (split c.split_rows.ensures c.in_ok-n.was) c.rows_pass.ensures c.if-not-rows_pass.true

pub returns : goal.returns
returns c = finds_rows (split c.split_rows.ensures c.in_ok-n.was) c.rows_pass.ensures c.if-not-rows_pass.false
