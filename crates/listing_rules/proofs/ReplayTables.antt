-- The cases of W14 hold. Rests on Keys alone: each table is computed, and one that does not hold is named by the claim that fails.
use Rattle.listing_rules.proofs.Prelude.{◌≡◌, refl, []}
use Rattle.listing_rules.specs.ReplayCases.{replays_failing, replays_agreeing, replays_differing, replays_out_of_turn, replays_unreadable}
use Rattle.listing_rules.specs.ReplayCases.{replays_stopped_after_a_difference, replays_long_answers, replays_long_commands, replays_of_readers}
use Rattle.listing_rules.specs.ReplayCases.{replays_over_what_does_not_pass, replays_leave, replays_cut, replays_of_its_own}
use Rattle.listing_rules.proofs.Keys.{open_all}

replays_agreeing_hold : replays_failing 1 replays_agreeing ≡ []
unfolding open_all
replays_agreeing_hold = refl

replays_differing_hold : replays_failing 1 replays_differing ≡ []
unfolding open_all
replays_differing_hold = refl

replays_out_of_turn_hold : replays_failing 1 replays_out_of_turn ≡ []
unfolding open_all
replays_out_of_turn_hold = refl

replays_unreadable_hold : replays_failing 1 replays_unreadable ≡ []
unfolding open_all
replays_unreadable_hold = refl

replays_stopped_after_a_difference_hold : replays_failing 1 replays_stopped_after_a_difference ≡ []
unfolding open_all
replays_stopped_after_a_difference_hold = refl

replays_long_answers_hold : replays_failing 1 replays_long_answers ≡ []
unfolding open_all
replays_long_answers_hold = refl

replays_long_commands_hold : replays_failing 1 replays_long_commands ≡ []
unfolding open_all
replays_long_commands_hold = refl

replays_of_readers_hold : replays_failing 1 replays_of_readers ≡ []
unfolding open_all
replays_of_readers_hold = refl

replays_over_what_does_not_pass_hold : replays_failing 1 replays_over_what_does_not_pass ≡ []
unfolding open_all
replays_over_what_does_not_pass_hold = refl

replays_leave_hold : replays_failing 1 replays_leave ≡ []
unfolding open_all
replays_leave_hold = refl

replays_cut_hold : replays_failing 1 replays_cut ≡ []
unfolding open_all
replays_cut_hold = refl

replays_of_its_own_hold : replays_failing 1 replays_of_its_own ≡ []
unfolding open_all
replays_of_its_own_hold = refl

-- every case in one claim
pub record ReplaysHold : Type 0 where
  pub replays_agreeing_stand : replays_failing 1 replays_agreeing ≡ []
  pub replays_differing_stand : replays_failing 1 replays_differing ≡ []
  pub replays_out_of_turn_stand : replays_failing 1 replays_out_of_turn ≡ []
  pub replays_unreadable_stand : replays_failing 1 replays_unreadable ≡ []
  pub replays_stopped_after_a_difference_stand : replays_failing 1 replays_stopped_after_a_difference ≡ []
  pub replays_long_answers_stand : replays_failing 1 replays_long_answers ≡ []
  pub replays_long_commands_stand : replays_failing 1 replays_long_commands ≡ []
  pub replays_of_readers_stand : replays_failing 1 replays_of_readers ≡ []
  pub replays_over_what_does_not_pass_stand : replays_failing 1 replays_over_what_does_not_pass ≡ []
  pub replays_leave_stand : replays_failing 1 replays_leave ≡ []
  pub replays_cut_stand : replays_failing 1 replays_cut ≡ []
  pub replays_of_its_own_stand : replays_failing 1 replays_of_its_own ≡ []

pub replays_hold : ReplaysHold
replays_hold =
    record {
      replays_agreeing_stand = replays_agreeing_hold;
      replays_differing_stand = replays_differing_hold;
      replays_out_of_turn_stand = replays_out_of_turn_hold;
      replays_unreadable_stand = replays_unreadable_hold;
      replays_stopped_after_a_difference_stand = replays_stopped_after_a_difference_hold;
      replays_long_answers_stand = replays_long_answers_hold;
      replays_long_commands_stand = replays_long_commands_hold;
      replays_of_readers_stand = replays_of_readers_hold;
      replays_over_what_does_not_pass_stand = replays_over_what_does_not_pass_hold;
      replays_leave_stand = replays_leave_hold;
      replays_cut_stand = replays_cut_hold;
      replays_of_its_own_stand = replays_of_its_own_hold;
    }
