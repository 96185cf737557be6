-- `subscriptions::free::unmark_names` meets its contract: the names of the words before i are unmarked. By MapLaws.
use Rattle.listing_rules.proofs.Prelude.{subst, ◌+◌, arith, get_or}
use Rattle.mailbox_table.specs.declared.rows.Row.{Row}
use Rattle.subscriptions.specs.Runs.{used_between, Unmarks}
use Rattle.subscriptions.proofs.MapLaws.{end_fits, left_none, left_more, left_all}
use Rattle.subscriptions.proofs.free.unmark_names.Goals as goal

pub loop-w-init : goal.loop-w-init
loop-w-init c = left_none _ _

pub overflow_add-row : goal.overflow_add-row
overflow_add-row c =
    rw c.of_word-row.ensures (omega (arith, end_fits (get_or c.args.words.now c.loop-w.w-index 0)))

pub loop-w-preserved : goal.loop-w-preserved
loop-w-preserved c =
    left_more c.loop-w.invariant c.loop-w-test.true
    (subst (λ (r : Row). Unmarks (used_between r.start (r.start + r.len)) c.loop-w.marks c.unmark.new.marks) c.of_word-row.ensures c.unmark.ensures)

pub returns : goal.returns
returns c = left_all c.loop-w.invariant c.loop-w-test.false
