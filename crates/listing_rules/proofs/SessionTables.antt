-- The tables of SessionCases hold. Rests on Keys alone: each is computed, and one that does not hold is named by the claim that fails.
use Rattle.listing_rules.proofs.Prelude.{◌≡◌, refl, []}
use Rattle.listing_rules.specs.Cases.{failures}
use Rattle.listing_rules.specs.SessionCases.{program_keeps_the_list, program_rows_after_commands, program_answers_readers}
use Rattle.listing_rules.specs.SessionCases.{entries_answer_readers, program_lays_out, series_as_sent}
use Rattle.listing_rules.proofs.Keys.{open_all}

program_keeps_the_list_hold : failures 1 program_keeps_the_list ≡ []
unfolding open_all
program_keeps_the_list_hold = refl

program_rows_after_commands_hold : failures 1 program_rows_after_commands ≡ []
unfolding open_all
program_rows_after_commands_hold = refl

program_answers_readers_hold : failures 1 program_answers_readers ≡ []
unfolding open_all
program_answers_readers_hold = refl

entries_answer_readers_hold : failures 1 entries_answer_readers ≡ []
unfolding open_all
entries_answer_readers_hold = refl

program_lays_out_hold : failures 1 program_lays_out ≡ []
unfolding open_all
program_lays_out_hold = refl

series_as_sent_hold : failures 1 series_as_sent ≡ []
unfolding open_all
series_as_sent_hold = refl

-- every table in one claim
pub record SessionsHold : Type 0 where
  pub program_keeps_the_list_stand : failures 1 program_keeps_the_list ≡ []
  pub program_rows_after_commands_stand : failures 1 program_rows_after_commands ≡ []
  pub program_answers_readers_stand : failures 1 program_answers_readers ≡ []
  pub entries_answer_readers_stand : failures 1 entries_answer_readers ≡ []
  pub program_lays_out_stand : failures 1 program_lays_out ≡ []
  pub series_as_sent_stand : failures 1 series_as_sent ≡ []

pub sessions_hold : SessionsHold
sessions_hold =
    record {
      program_keeps_the_list_stand = program_keeps_the_list_hold;
      program_rows_after_commands_stand = program_rows_after_commands_hold;
      program_answers_readers_stand = program_answers_readers_hold;
      entries_answer_readers_stand = entries_answer_readers_hold;
      program_lays_out_stand = program_lays_out_hold;
      series_as_sent_stand = series_as_sent_hold;
    }
