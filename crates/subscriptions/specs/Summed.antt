-- What a plan leaves of the numbers of a summary, and what it needs of them.
use Rattle.std.specs.Prelude.{Ok, Err, List, length, get_or, ℕ, ◌≤◌, ◌<◌}
use Rattle.mailbox_table.specs.Words.{row_of_word}
use Rattle.summary.specs.Counts.{one_word, sum_below}
use Rattle.subscriptions.specs.Resums.{Resums, resummed_words}
use Rattle.subscriptions.specs.declared.Plan.TheVariants.{Keep, Flag, Insert, Remove}
use Rattle.subscriptions.specs.Plans.{Decision}
use Rattle.subscriptions.specs.Applied.{inserted_at, removed_at}

-- the flags of row k change; a row is put in at place k; row k goes. The words are those of the rows as they were, n is the name
unfoldable pub flagged_sums : List ℕ → List ℕ → List ℕ → List ℕ → ℕ → ℕ → List ℕ
flagged_sums sums ws area n k f = resummed_words (one_word (row_of_word (get_or ws k 0)).flags.bits) (one_word f) n area ws sums

unfoldable pub inserted_sums : List ℕ → List ℕ → List ℕ → List ℕ → ℕ → List ℕ
inserted_sums sums ws area n k = inserted_at (resummed_words (one_word 0) (one_word 0x0002) n area ws sums) (length ws) k (sum_below area n ws)

unfoldable pub removed_sums : List ℕ → List ℕ → List ℕ → List ℕ → ℕ → List ℕ
removed_sums sums ws area n k = removed_at (resummed_words (one_word 0x0002) (one_word 0) n area ws sums) (length ws) k

-- what each needs
pub record FlagSums (sums ws area n : List ℕ) (k f : ℕ) : Type 0 where
  pub row : k < length ws
  pub resums : Resums area ws n (one_word (row_of_word (get_or ws k 0)).flags.bits) (one_word f) sums

pub record InsertSums (sums ws area n : List ℕ) (k : ℕ) : Type 0 where
  pub place : k ≤ length ws
  pub few : length ws ≤ 512
  pub room : length ws < length sums
  pub resums : Resums area ws n (one_word 0) (one_word 0x0002) sums

pub record RemoveSums (sums ws area n : List ℕ) (k : ℕ) : Type 0 where
  pub row : k < length ws
  pub resums : Resums area ws n (one_word 0x0002) (one_word 0) sums

-- by the cases of a plan
unfoldable pub numbers_after : Decision → List ℕ → List ℕ → List ℕ → List ℕ → List ℕ
numbers_after (Ok Keep) sums ws area n = sums
numbers_after (Ok (Flag k f)) sums ws area n = flagged_sums sums ws area n k f
numbers_after (Ok (Insert k start)) sums ws area n = inserted_sums sums ws area n k
numbers_after (Ok (Remove k)) sums ws area n = removed_sums sums ws area n k
numbers_after (Err x) sums ws area n = sums

abbrev pub SumsFit : Decision → List ℕ → List ℕ → List ℕ → List ℕ → Type 0
SumsFit (Ok Keep) sums ws area n = Unit {0}
SumsFit (Ok (Flag k f)) sums ws area n = FlagSums sums ws area n k f
SumsFit (Ok (Insert k start)) sums ws area n = InsertSums sums ws area n k
SumsFit (Ok (Remove k)) sums ws area n = RemoveSums sums ws area n k
SumsFit (Err x) sums ws area n = Unit {0}
