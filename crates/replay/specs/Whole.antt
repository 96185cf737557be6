-- A whole log replayed over lent records.
use Rattle.std.specs.Prelude.{◌≡◌, List, ℕ}
use Rattle.listing_rules.specs.Replay.{replay}
use Rattle.replay.specs.declared.whole.Replayed.{Replayed}
use Rattle.replay.specs.Running.{TableMemory, summed_in, TableKept}
use Rattle.replay.specs.Reports.{verdict_is}

-- What `replay_words` promises, over the table that was `d`, of which the first `count` records are rows, and is `e`.
pub record Replays (spaces log : List ℕ) (count : ℕ) (d e : TableMemory) (r : Replayed) : Type 0 where
  pub verdict : r.verdict ≡ verdict_is (replay (summed_in d count) spaces log).verdict
  -- count, records, area and summary
  pub left : summed_in e r.count ≡ (replay (summed_in d count) spaces log).left
  -- what lies after the records that are lent
  pub kept : TableKept d e
