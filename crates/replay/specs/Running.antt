-- One command run again: the reply and the answer recorded, and what the command leaves.
use Rattle.std.specs.Prelude.{Result, Ok, Err}
use Rattle.octets.specs.declared.refusals.Refusal.{Refusal}
use Rattle.octets.specs.Refusals.{number_of}
use Rattle.std.specs.Prelude.{◌≡◌, List, Bool, false, eqb, length, take, drop, get_or, ℕ}
use Rattle.listing_rules.specs.Bytes.{same}
use Rattle.listing_rules.specs.Server.{Reply, refusal, answered}
use Rattle.listing_rules.specs.Summary.{Summed, SummedCommand}
use Rattle.listing_rules.specs.Replay.{rerun}
use Rattle.records.specs.Lent.{lent_of, word_summed}
use Rattle.frames.specs.Hexadecimal.{decoded}
use Rattle.frames.specs.declared.logs.Recorded.{Recorded}
use Rattle.frames.specs.declared.logs.Recorded.TheVariants.{Answer, Number}
use Rattle.replay.specs.declared.run.Ran.{Ran}

-- whether a reply is the recorded one, of which the digits are lent where it is an answer
unfoldable pub agreeing : Reply → Recorded → List ℕ → Bool
agreeing (answered a) Answer digits = same (decoded digits) a
agreeing (answered a) (Number k) digits = false
agreeing (refusal k) Answer digits = false
agreeing (refusal k) (Number j) digits = eqb j k

-- of a reply as the server gives it: an answer lies at the front of its buffer
unfoldable pub said_so : Result ℕ Refusal → List ℕ → Recorded → List ℕ → Bool
said_so (Ok n) answer recorded digits = agreeing (answered (take n answer)) recorded digits
said_so (Err k) answer recorded digits = agreeing (refusal (number_of k)) recorded digits

unfoldable pub answer_length : Result ℕ Refusal → ℕ
answer_length (Ok n) = n
answer_length (Err k) = 0

-- the lent table: records as numbers, the numbers of their summary, and the area of names
pub record TableMemory : Type 0 where
  pub words : List ℕ
  pub sums : List ℕ
  pub area : List ℕ

abbrev pub table : List ℕ → List ℕ → List ℕ → TableMemory
table words sums area = record { words = words; sums = sums; area = area }

abbrev pub lent_rows : TableMemory → ℕ
lent_rows d = lent_of d.words (length d.words) d.sums

abbrev pub summed_in : TableMemory → ℕ → Summed
summed_in d rows = word_summed d.words (length d.words) rows d.area d.sums

-- the table was `d` and is `e`: what lies after the records that are lent stays
pub record TableKept (d e : TableMemory) : Type 0 where
  pub words_after_lem : drop (lent_rows d) e.words ≡ drop (lent_rows d) d.words
  pub sums_after_lem : drop (lent_rows d) e.sums ≡ drop (lent_rows d) d.sums
  pub words_long : length e.words ≡ length d.words
  pub sums_long : length e.sums ≡ length d.sums
  pub area_long : length e.area ≡ length d.area

-- the command that stands in some bytes: its reader, and its line
abbrev pub rerun_of : List ℕ → List ℕ → Summed → SummedCommand
rerun_of spaces command m = rerun spaces m (get_or command 0 0) (drop 1 command)

-- A command was run over the table that was `d` and is `e`.
pub record Runs (spaces command : List ℕ) (recorded : Recorded) (digits : List ℕ) (rows : ℕ) (d e : TableMemory) (r : Ran) : Type 0 where
  pub same : r.same ≡ agreeing (rerun_of spaces command (summed_in d rows)).reply recorded digits
  pub left : summed_in e r.rows ≡ (rerun_of spaces command (summed_in d rows)).left
  pub kept : TableKept d e
