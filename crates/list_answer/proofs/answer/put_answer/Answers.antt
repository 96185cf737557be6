-- `list_answer::answer::put_answer` meets its contract: the text of the rows is that of the listed names (Listed), then the tagged line.
use Rattle.octets.proofs.Puts.{put_then}
use Rattle.mailbox_table.specs.Index.{rows_at}
use Rattle.list_answer.specs.Shown.{answer_for}
use Rattle.list_answer.proofs.Listed.{answer_text_lem}
use Rattle.list_answer.proofs.answer.put_answer.Goals as goal

pub returns : goal.returns
unfolding answer_for
returns c =
    let table = rows_at _ c.args.view.words.now in
    λ ready.
    rw (← answer_text_lem _ table _ _ ready.index.lawful ready.index.indexed.ascend)
    (put_then (c.put_rows-to.ensures ready) c.put_ok_line.ensures)
