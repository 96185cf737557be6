-- The cases of the summary beside the table hold. Rests on Keys alone: each table is computed, and one that does not hold is named by the claim that fails.
use Rattle.listing_rules.proofs.Prelude.{◌≡◌, refl, []}
use Rattle.listing_rules.specs.SummaryCases.{failures_in, counted_afresh, checked_summaries, refused_summaries, edited_summaries, parents_summed}
use Rattle.listing_rules.specs.SummaryCases.{first_summaries}
use Rattle.listing_rules.proofs.Keys.{open_all}

counted_afresh_hold : failures_in 1 counted_afresh ≡ []
unfolding open_all
counted_afresh_hold = refl

checked_summaries_hold : failures_in 1 checked_summaries ≡ []
unfolding open_all
checked_summaries_hold = refl

refused_summaries_hold : failures_in 1 refused_summaries ≡ []
unfolding open_all
refused_summaries_hold = refl

edited_summaries_hold : failures_in 1 edited_summaries ≡ []
unfolding open_all
edited_summaries_hold = refl

parents_summed_hold : failures_in 1 parents_summed ≡ []
unfolding open_all
parents_summed_hold = refl

first_summaries_hold : failures_in 1 first_summaries ≡ []
unfolding open_all
first_summaries_hold = refl

-- every case in one claim
pub record SummaryCasesHold : Type 0 where
  pub counted_afresh_stand : failures_in 1 counted_afresh ≡ []
  pub checked_summaries_stand : failures_in 1 checked_summaries ≡ []
  pub refused_summaries_stand : failures_in 1 refused_summaries ≡ []
  pub edited_summaries_stand : failures_in 1 edited_summaries ≡ []
  pub parents_summed_stand : failures_in 1 parents_summed ≡ []
  pub first_summaries_stand : failures_in 1 first_summaries ≡ []

pub summary_cases_hold : SummaryCasesHold
summary_cases_hold =
    record {
      counted_afresh_stand = counted_afresh_hold;
      checked_summaries_stand = checked_summaries_hold;
      refused_summaries_stand = refused_summaries_hold;
      edited_summaries_stand = edited_summaries_hold;
      parents_summed_stand = parents_summed_hold;
      first_summaries_stand = first_summaries_hold;
    }
