-- An edit of a store whose records are the words, all of them.
use Rattle.std.specs.Prelude.{Ok, Err, ◌≡◌, Bool, true, false, List, map, ltb, length, take, ℕ}
use Rattle.listing_rules.specs.Command.{Edit, editing}
use Rattle.listing_rules.specs.Server.{answered, changes}
use Rattle.listing_rules.specs.Summary.{sums_edited}
use Rattle.listing_rules.specs.Subscriptions.{Store, stored, edited}
use Rattle.records.specs.Words.{record_of}
use Rattle.records.specs.Numbers.{summary_of}
use Rattle.records.specs.Lent.{words_summed}
use Rattle.records.specs.Stores.{Between}
use Rattle.subscriptions.specs.Plans.{Decision, plan_for, carried, subscribes, edited_name}
use Rattle.subscriptions.specs.Applied.{Fits, words_after, area_after, change_of}
use Rattle.subscriptions.specs.Summed.{SumsFit, numbers_after}

-- the words as the records of a store
abbrev pub whole_store : List ℕ → ℕ → List ℕ → Store
whole_store ws count area = record { records = map record_of ws; count = count; area = area }

-- the plan for an edit of it
abbrev pub plan_of : List ℕ → ℕ → List ℕ → Edit → Decision
plan_of ws count area e = plan_for (map record_of (take count ws)) (length ws) area (subscribes e) (edited_name e)

-- What the plan p for the edit e says: what the edit comes to; and where it is done, it leaves the store that words and area hold then.
pub record Decides (ws : List ℕ) (count : ℕ) (area : List ℕ) (e : Edit) (p : Decision) : Type 0 where
  pub comes_to_lem : edited (whole_store ws count area) e ≡ carried (whole_store ws count area) (edited_name e) p
  pub fits : Fits p ws count area (edited_name e)
  pub leaves : (t : Store) → carried (whole_store ws count area) (edited_name e) p ≡ stored t
      → t ≡ whole_store (words_after p ws count (edited_name e)) (change_of p count).count (area_after p ws area (edited_name e))
  pub between : Between ws (words_after p ws count (edited_name e)) (length ws) (change_of p count).from (change_of p count).to

-- whether it is a plan and no refusal
abbrev pub is_done : Decision → Bool
is_done (Ok p) = true
is_done (Err x) = false

-- What the plan p for the edit e makes of a summary that agrees: it fits the numbers; and where it is no refusal, they are those that the edit leaves,
-- and words are reported as changed exactly if a row is.
pub record KeepsSums (ws : List ℕ) (count : ℕ) (area sums : List ℕ) (e : Edit) (p : Decision) : Type 0 where
  pub fits : SumsFit p sums (take count ws) area (edited_name e)
  pub leaves : is_done p ≡ true
      → map summary_of (numbers_after p sums (take count ws) area (edited_name e)) ≡ sums_edited (words_summed ws count area sums) e
  pub changes_so : is_done p ≡ true → (tag a : List ℕ)
      → ltb (change_of p count).from (change_of p count).to ≡ changes (whole_store ws count area) (editing tag e) (answered a)
