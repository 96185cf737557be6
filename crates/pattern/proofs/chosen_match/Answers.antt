-- `chosen_match` meets its contract: a pattern that does not count matches nothing.
use Rattle.listing_rules.proofs.Prelude.{◌∙◌}
use Rattle.pattern.proofs.Chosen.{chosen_out, chosen_in}
use Rattle.pattern.proofs.chosen_match.Goals as goal

pub returns-then-levels-ends_in_percent : goal.returns-then-levels-ends_in_percent
returns-then-levels-ends_in_percent c =
    chosen_out c.args.levels _ _ _ c.ends_in_percent.ensures c.if-levels-ends_in_percent.true

pub returns : goal.returns
returns c =
    c.run_steps.ensures.right ∙ chosen_in c.args.levels _ _ _ c.ends_in_percent.ensures c.if-levels-ends_in_percent.false
