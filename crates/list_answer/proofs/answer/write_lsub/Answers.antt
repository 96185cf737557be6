-- `list_answer::answer::write_lsub` meets its contract: a second pattern is refused, and the reply to its question is that of the LSUB
-- command. By Replies.
use Rattle.list_answer.proofs.Replies.{lsub_reply_lem, lsub_second}
use Rattle.listing_rules.proofs.Prelude.{◌∙◌, sym}
use Rattle.list_answer.proofs.answer.write_lsub.Goals as goal

pub returns-then-not-is_one_at_most : goal.returns-then-not-is_one_at_most
returns-then-not-is_one_at_most c =
    let a = c.args in
    λ index.
    lsub_second a.area.now a.words.now a.patterns.now a.tag.now _
    (sym c.is_one_at_most.ensures ∙ c.if-not-is_one_at_most.true)

pub write_answer-requires : goal.write_answer-requires
write_answer-requires c = c.lsub-question.ensures.2

pub returns : goal.returns
returns c =
    let one = sym c.is_one_at_most.ensures ∙ c.if-not-is_one_at_most.false in
    λ index. rw (← lsub_reply_lem _ _ _ _ _ c.lsub-question.ensures one) (c.write_answer.ensures index)
