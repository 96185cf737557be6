-- `Criteria::is_none` meets its contract, by its two tests (`none-tests` of `CriteriaSets`).
use Rattle.listing_rules.proofs.Prelude.{◌∙◌, ◌||◌, not}
use Rattle.list_line.proofs.CriteriaSets.{none_tests}
use Rattle.list_line.proofs.criteria.Criteria.is_none.Goals as goal

pub returns : goal.returns
returns c =
    (λ i. not (c.has.ensures i || c.has-2.ensures i)) ∙ none_tests _
