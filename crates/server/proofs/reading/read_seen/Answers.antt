-- `server::reading::read_seen` meets its contract: what `read_index` gives over the rows that the reader sees. By Order; the rows seen by SeenLaws of
-- mailbox_table.
use Rattle.listing_rules.proofs.Prelude.{subst, sym, length-take-le}
use Rattle.mailbox_table.specs.Index.{Index}
use Rattle.mailbox_table.proofs.SeenLaws.{seen_index}
use Rattle.server.proofs.Order.{seen_first}
use Rattle.server.proofs.reading.read_seen.Goals as goal

pub slice_bounds-rows-end : goal.slice_bounds-rows-end
slice_bounds-rows-end c = (seen_first _ _ _ _ c.see_rows-seen.ensures).0

pub slice_bounds-rows-end-2 : goal.slice_bounds-rows-end-2
slice_bounds-rows-end-2 c = sym (length-take-le _ _ (seen_first _ _ _ _ c.see_rows-seen.ensures).0)

pub invariant_of-rows : goal.invariant_of-rows
invariant_of-rows c =
    record { index = subst (Index c.args.area.now) (sym (seen_first _ _ _ _ c.see_rows-seen.ensures).1) (seen_index c.args.reader c.requires) }

pub returns : goal.returns
returns c = rw (← (seen_first _ _ _ _ c.see_rows-seen.ensures).1) c.read_index.ensures
