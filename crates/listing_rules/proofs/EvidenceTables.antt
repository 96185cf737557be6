-- The cases of W10, W11 and W12 hold. Rests on Keys alone: each table is computed, and one that does not hold is named by the claim that fails.
use Rattle.listing_rules.proofs.Prelude.{◌≡◌, refl, []}
use Rattle.listing_rules.specs.EvidenceCases.{failures_of, patterns_added, recursive_patterns_added, not_extended, subscriptions_gained}
use Rattle.listing_rules.specs.EvidenceCases.{subscriptions_taken, commands_joined, commands_not_joined, joins_alike, lines_merged}
use Rattle.listing_rules.specs.EvidenceCases.{walk_commands}
use Rattle.listing_rules.proofs.Keys.{open_all}

patterns_added_hold : failures_of 1 patterns_added ≡ []
unfolding open_all
patterns_added_hold = refl

recursive_patterns_added_hold : failures_of 1 recursive_patterns_added ≡ []
unfolding open_all
recursive_patterns_added_hold = refl

not_extended_hold : failures_of 1 not_extended ≡ []
unfolding open_all
not_extended_hold = refl

subscriptions_gained_hold : failures_of 1 subscriptions_gained ≡ []
unfolding open_all
subscriptions_gained_hold = refl

subscriptions_taken_hold : failures_of 1 subscriptions_taken ≡ []
unfolding open_all
subscriptions_taken_hold = refl

commands_joined_hold : failures_of 1 commands_joined ≡ []
unfolding open_all
commands_joined_hold = refl

commands_not_joined_hold : failures_of 1 commands_not_joined ≡ []
unfolding open_all
commands_not_joined_hold = refl

joins_alike_hold : failures_of 1 joins_alike ≡ []
unfolding open_all
joins_alike_hold = refl

lines_merged_hold : failures_of 1 lines_merged ≡ []
unfolding open_all
lines_merged_hold = refl

walk_commands_hold : failures_of 1 walk_commands ≡ []
unfolding open_all
walk_commands_hold = refl

-- every case in one claim
pub record EvidenceHolds : Type 0 where
  pub patterns_added_stand : failures_of 1 patterns_added ≡ []
  pub recursive_patterns_added_stand : failures_of 1 recursive_patterns_added ≡ []
  pub not_extended_stand : failures_of 1 not_extended ≡ []
  pub subscriptions_gained_stand : failures_of 1 subscriptions_gained ≡ []
  pub subscriptions_taken_stand : failures_of 1 subscriptions_taken ≡ []
  pub commands_joined_stand : failures_of 1 commands_joined ≡ []
  pub commands_not_joined_stand : failures_of 1 commands_not_joined ≡ []
  pub joins_alike_stand : failures_of 1 joins_alike ≡ []
  pub lines_merged_stand : failures_of 1 lines_merged ≡ []
  pub walk_commands_stand : failures_of 1 walk_commands ≡ []

pub evidence_holds : EvidenceHolds
evidence_holds =
    record {
      patterns_added_stand = patterns_added_hold;
      recursive_patterns_added_stand = recursive_patterns_added_hold;
      not_extended_stand = not_extended_hold;
      subscriptions_gained_stand = subscriptions_gained_hold;
      subscriptions_taken_stand = subscriptions_taken_hold;
      commands_joined_stand = commands_joined_hold;
      commands_not_joined_stand = commands_not_joined_hold;
      joins_alike_stand = joins_alike_hold;
      lines_merged_stand = lines_merged_hold;
      walk_commands_stand = walk_commands_hold;
    }
