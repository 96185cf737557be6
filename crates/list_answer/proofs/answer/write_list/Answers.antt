-- `list_answer::answer::write_list` meets its contract: the reply to its question is that of the LIST command. By Replies.
use Rattle.list_answer.proofs.Replies.{list_reply_lem}
use Rattle.list_answer.proofs.answer.write_list.Goals as goal

pub write_answer-requires : goal.write_answer-requires
write_answer-requires c = c.of-question.ensures.2

pub returns : goal.returns
returns c =
    λ index. rw (← list_reply_lem _ _ _ _ _ _ c.of-question.ensures) (c.write_answer.ensures index)
