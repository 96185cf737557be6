-- The flag of a row set or cleared, by the tests of the code. Rests on the bits of sets in octets.
use Rattle.listing_rules.proofs.Prelude.{◌≡◌, false, true, ◌%◌, ◌+◌, ◌-◌, ◌/◌, ◌<◌, ◌≤◌, ℕ, arith, eq-eqb, eqb-false, eqb-true, ne_eqb}
use Rattle.listing_rules.specs.Bytes.{bit}
use Rattle.listing_rules.specs.Flags.{subscribed}
use Rattle.listing_rules.specs.Subscriptions.{with_subscribed, without_subscribed}
use Rattle.octets.specs.Sets.{contains}
use Rattle.octets.proofs.Sets.{contains_bit}
use Rattle.subscriptions.specs.declared.Plan.TheVariants.{Keep, Flag, Remove}
use Rattle.subscriptions.specs.Plans.{setting_plan, clearing_plan}

pub has_subscribed : (f : ℕ) → contains f 2 ≡ subscribed f
unfolding subscribed
has_subscribed f = contains_bit 1 f

-- flags of 16 bits stay so
pub set_fits : (f : ℕ) → f < 65536 → subscribed f ≡ false → f + 2 < 65536
unfolding subscribed bit
set_fits f h e = omega (arith, eqb-false (f / 2 % 2) 1 e)

pub clear_fits : (f : ℕ) → subscribed f ≡ true → 2 ≤ f
unfolding subscribed bit
clear_fits f e = omega (arith, eqb-true (f / 2 % 2) 1 e)

module _ (k f : ℕ) where
  pub setting_keep : subscribed f ≡ true → setting_plan k f ≡ Keep
  unfolding setting_plan
  setting_keep e = rw e

  pub setting_flag : subscribed f ≡ false → setting_plan k f ≡ Flag k (f + 2)
  unfolding setting_plan with_subscribed
  setting_flag e = rw e

  pub clearing_row : f ≡ 2 → clearing_plan k f ≡ Remove k
  unfolding clearing_plan
  clearing_row e = rw (eq-eqb f 2 e)

  pub clearing_flag : (f ≡ 2 → ⊥) → subscribed f ≡ true → clearing_plan k f ≡ Flag k (f - 2)
  unfolding clearing_plan without_subscribed
  clearing_flag h e = rw (ne_eqb f 2 h, e)

  pub clearing_keep : (f ≡ 2 → ⊥) → subscribed f ≡ false → clearing_plan k f ≡ Keep
  unfolding clearing_plan
  clearing_keep h e = rw (ne_eqb f 2 h, e)
