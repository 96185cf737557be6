-- `list_answer::question::is_one_at_most` meets its contract: the first pattern's bytes reach to the end. By Replies.
use Rattle.listing_rules.proofs.Prelude.{◌∙◌, ap, ◌+◌, ℕ, leb, length}
use Rattle.list_answer.proofs.Replies.{one_at_most}
use Rattle.list_answer.proofs.question.is_one_at_most.Goals as goal

pub returns : goal.returns
returns c =
    let patterns = c.args.patterns.now in
    ap (λ (n : ℕ). leb (length patterns) (1 + n)) (c.from.ensures ∙ c.byte_at.ensures) ∙ one_at_most patterns
