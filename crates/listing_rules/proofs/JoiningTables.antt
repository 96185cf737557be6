-- The cases of the line of a joined command hold. Rests on Keys alone: each table is computed, and one that does not hold is named by the claim that
-- fails.
use Rattle.listing_rules.proofs.Prelude.{◌≡◌, refl, []}
use Rattle.listing_rules.specs.JoiningCases.{failures_of, lines_joined, returns_joined, strings_joined, not_writable, patterns_limited}
use Rattle.listing_rules.specs.JoiningCases.{parts_refused, buffers_joined, order_of_refusals}
use Rattle.listing_rules.proofs.Keys.{open_all}

lines_joined_hold : failures_of 1 lines_joined ≡ []
unfolding open_all
lines_joined_hold = refl

returns_joined_hold : failures_of 1 returns_joined ≡ []
unfolding open_all
returns_joined_hold = refl

strings_joined_hold : failures_of 1 strings_joined ≡ []
unfolding open_all
strings_joined_hold = refl

not_writable_hold : failures_of 1 not_writable ≡ []
unfolding open_all
not_writable_hold = refl

patterns_limited_hold : failures_of 1 patterns_limited ≡ []
unfolding open_all
patterns_limited_hold = refl

parts_refused_hold : failures_of 1 parts_refused ≡ []
unfolding open_all
parts_refused_hold = refl

buffers_joined_hold : failures_of 1 buffers_joined ≡ []
unfolding open_all
buffers_joined_hold = refl

order_of_refusals_hold : failures_of 1 order_of_refusals ≡ []
unfolding open_all
order_of_refusals_hold = refl

-- every case in one claim
pub record JoiningLinesHold : Type 0 where
  pub lines_joined_stand : failures_of 1 lines_joined ≡ []
  pub returns_joined_stand : failures_of 1 returns_joined ≡ []
  pub strings_joined_stand : failures_of 1 strings_joined ≡ []
  pub not_writable_stand : failures_of 1 not_writable ≡ []
  pub patterns_limited_stand : failures_of 1 patterns_limited ≡ []
  pub parts_refused_stand : failures_of 1 parts_refused ≡ []
  pub buffers_joined_stand : failures_of 1 buffers_joined ≡ []
  pub order_of_refusals_stand : failures_of 1 order_of_refusals ≡ []

pub joining_lines_hold : JoiningLinesHold
joining_lines_hold =
    record {
      lines_joined_stand = lines_joined_hold;
      returns_joined_stand = returns_joined_hold;
      strings_joined_stand = strings_joined_hold;
      not_writable_stand = not_writable_hold;
      patterns_limited_stand = patterns_limited_hold;
      parts_refused_stand = parts_refused_hold;
      buffers_joined_stand = buffers_joined_hold;
      order_of_refusals_stand = order_of_refusals_hold;
    }
