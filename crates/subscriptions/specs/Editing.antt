-- What `edit` promises: the result of an edit over lent words and the numbers of their summary, and every word, number and byte that it leaves.
use Rattle.std.specs.Prelude.{Result, Ok, Err}
use Rattle.octets.specs.declared.refusals.Refusal.{Refusal}
use Rattle.octets.specs.Refusals.{numbered}
use Rattle.std.specs.Prelude.{◌≡◌, Bool, true, false, cond, List, map, ◌++◌, length, take, drop, ℕ, min}
use Rattle.listing_rules.specs.Table.{passes}
use Rattle.records.specs.Words.{record_of}
use Rattle.records.specs.Lent.{words_table}
use Rattle.subscriptions.specs.declared.Change.{Change}
use Rattle.subscriptions.specs.Plans.{Decision, plan_for}
use Rattle.subscriptions.specs.Applied.{words_after, area_after, change_of}
use Rattle.subscriptions.specs.Summed.{numbers_after}

-- the memory that is lent for an edit: the words, the numbers of their summary, and the area of name bytes
pub record Cells : Type 0 where
  pub words : List ℕ
  pub sums : List ℕ
  pub area : List ℕ

abbrev pub cells : List ℕ → List ℕ → List ℕ → Cells
cells words sums area = record { words = words; sums = sums; area = area }

-- as many records are lent as there are words and numbers
abbrev pub lent_cells : Cells → ℕ
lent_cells d = min (length d.words) (length d.sums)

-- "The order is 14, 15, then 9, all before any change.": 9 where the answer does not fit its buffer
unfoldable pub if_fits : Bool → Decision → Decision
if_fits true p = p
if_fits false (Ok p) = Err 9
if_fits false (Err k) = Err k

-- the plan for an edit of a name, spelled, where all words are lent and have a number: 1 where the table does not pass
unfoldable pub plan_over : Cells → ℕ → Bool → List ℕ → Bool → Decision
plan_over d count subscribe n fits =
    cond
    (passes (words_table d.words count d.area d.sums))
    (if_fits fits (plan_for (map record_of (take count d.words)) (length d.words) d.area subscribe n))
    (Err 1)

-- the answer: what a plan changes, or the number of the refusal
abbrev pub edited_is : Decision → ℕ → Result Change ℕ
edited_is (Ok p) count = Ok (change_of (Ok p) count)
edited_is (Err k) count = Err k

-- the memory that a plan leaves of words that are all lent and have a number; n is the name
abbrev pub cells_after : Decision → Cells → ℕ → List ℕ → Cells
cells_after p d count n =
    record {
      words = words_after p d.words count n;
      sums = numbers_after p d.sums (take count d.words) d.area n;
      area = area_after p d.words d.area n;
    }

-- the words and numbers that are lent, and what follows them, which stays
abbrev pub lent_front : Cells → Cells
lent_front d = record { words = take (lent_cells d) d.words; sums = take (lent_cells d) d.sums; area = d.area }

abbrev pub with_rest : Cells → Cells → Cells
with_rest d e =
    record { words = e.words ++ drop (lent_cells d) d.words; sums = e.sums ++ drop (lent_cells d) d.sums; area = e.area }

-- The edit over any lent memory: its plan, its answer, and what it leaves.
abbrev pub lent_plan : Cells → ℕ → Bool → List ℕ → Bool → Decision
lent_plan d count subscribe n fits = plan_over (lent_front d) count subscribe n fits

pub record Edits (d e : Cells) (count : ℕ) (subscribe : Bool) (n : List ℕ) (fits : Bool) (r : Result Change Refusal) : Type 0 where
  pub answer : numbered r ≡ edited_is (lent_plan d count subscribe n fits) count
  pub leaves : e ≡ with_rest d (cells_after (lent_plan d count subscribe n fits) (lent_front d) count n)
