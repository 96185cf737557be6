-- `mailbox_table::layout::mark_name` meets its contract: the bytes before k were seen and are marked. By the laws of Marking in LayoutLaws.
use Rattle.mailbox_table.proofs.LayoutLaws.{marking_done}
use Rattle.mailbox_table.proofs.layout.mark_name.Goals as goal

pub returns : goal.returns
returns c = marking_done c.loop-k.invariant c.loop-k-test.false
