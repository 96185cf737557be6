-- An edit over lent words: what its plan is, and that it fits where the table passes. Rests on FitLaws, PlanSums and StoredLaws.
use Rattle.std.specs.Prelude.{Ok, Err}
use Rattle.listing_rules.proofs.Prelude.{◌∙◌, ◌≡◌, refl, Bool, false, true, List, map, ℕ, length, take}
use Rattle.listing_rules.specs.Table.{passes}
use Rattle.listing_rules.specs.Subscriptions.{store_table}
use Rattle.listing_rules.specs.Summary.{agrees}
use Rattle.listing_rules.proofs.SummaryAlike.{grown_parts}
use Rattle.records.specs.Words.{record_of}
use Rattle.records.specs.Lent.{words_summed, words_table}
use Rattle.subscriptions.specs.declared.Plan.{Plan}
use Rattle.subscriptions.specs.Plans.{plan_for}
use Rattle.subscriptions.specs.Applied.{Fits}
use Rattle.subscriptions.specs.Summed.{SumsFit}
use Rattle.subscriptions.specs.Stored.{whole_store}
use Rattle.subscriptions.specs.Editing.{Cells, if_fits, plan_over}
use Rattle.subscriptions.proofs.FitLaws.{plan_fits}
use Rattle.subscriptions.proofs.StoredLaws.{Passing, words_pass_lem}
use Rattle.subscriptions.proofs.PlanSums.{plan_sums_fit}

-- where the table does not pass
pub plan_refused : (d : Cells) (count : ℕ) (b : Bool) (n : List ℕ) (fits : Bool) → passes (words_table d.words count d.area d.sums) ≡ false
    → plan_over d count b n fits ≡ Err 1
unfolding plan_over
plan_refused d count b n fits h = rw h

-- where it passes
module _ (d : Cells) (count : ℕ) (passed : passes (words_table d.words count d.area d.sums) ≡ true) where
  pub plan_passed : (b : Bool) (n : List ℕ) (fits : Bool)
      → plan_over d count b n fits ≡ if_fits fits (plan_for (map record_of (take count d.words)) (length d.words) d.area b n)
  unfolding plan_over
  plan_passed b n fits = rw passed

  abbrev parts : (passes (store_table (whole_store d.words count d.area)) ≡ true)
      × (agrees (words_summed d.words count d.area d.sums) ≡ true)
  parts = grown_parts (words_summed d.words count d.area d.sums) passed

  pub cells_pass : Passing d.words count d.area
  cells_pass = words_pass_lem d.words count d.area parts.0

  pub plan_fits_cells : (b : Bool) (n : List ℕ)
      → Fits (plan_for (map record_of (take count d.words)) (length d.words) d.area b n) d.words count d.area n
  plan_fits_cells b n =
      plan_fits d.words count (length d.words) d.area b n cells_pass.ordered cells_pass.counted cells_pass.small (λ a b. b)

  pub plan_sums_cells : length d.words ≡ length d.sums → (b : Bool) (n : List ℕ)
      → SumsFit (plan_for (map record_of (take count d.words)) (length d.words) d.area b n) d.sums (take count d.words) d.area n
  plan_sums_cells sized b n = plan_sums_fit d.words count d.area d.sums parts.0 parts.1 sized b n

  -- by what was decided: a refusal, then 9, then the plan
  pub plan_denied : (b : Bool) (n : List ℕ) (fits : Bool) (k : ℕ) → plan_for (map record_of (take count d.words)) (length d.words) d.area b n ≡ Err k
      → plan_over d count b n fits ≡ Err k
  unfolding if_fits
  plan_denied b n fits k e = plan_passed b n fits ∙ rw e (go fits)
    where
      go : (f : Bool) → if_fits f (Err k) ≡ Err k
      go true = refl
      go false = refl

  module _ (b : Bool) (n : List ℕ) (fits : Bool) (p : Plan) (decided : plan_for (map record_of (take count d.words)) (length d.words) d.area b n ≡ Ok p) where
    pub plan_short : fits ≡ false → plan_over d count b n fits ≡ Err 9
    unfolding if_fits
    plan_short f = plan_passed b n fits ∙ rw (decided, f)

    pub plan_made : fits ≡ true → plan_over d count b n fits ≡ Ok p
    unfolding if_fits
    plan_made f = plan_passed b n fits ∙ rw (f, decided)
