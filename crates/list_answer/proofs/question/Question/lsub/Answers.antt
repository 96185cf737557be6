-- `list_answer::question::Question::lsub` meets its contract: with SUBSCRIBED selected no levels are listed. By Replies.
use Rattle.listing_rules.proofs.Prelude.{◌∙◌, ap, refl, sym}
use Rattle.pattern.specs.Packed.{unpacked}
use Rattle.list_answer.specs.Ready.{lsub_set}
use Rattle.list_answer.proofs.Replies.{lsub_levels}
use Rattle.list_answer.proofs.question.Question.lsub.Goals as goal

pub returns : goal.returns
returns c =
    let patterns = c.args.patterns.now in
    (c.lsub_options.ensures ∙ ap lsub_set c.some_level.ensures, refl, sym (lsub_levels _ c.some_level.result (unpacked patterns) c.lsub_options.ensures))
