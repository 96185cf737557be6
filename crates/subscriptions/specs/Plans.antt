-- What an edit comes to, before anything is touched: the cases of SUBSCRIBE and UNSUBSCRIBE as plans and refusals, and what they make of a store.
use Rattle.std.specs.Prelude.{Result, Ok, Err, ◌≡◌, List, Bool, true, false, cond, ◌&&◌, not, eqb, ltb, length, ℕ, ◌+◌, ◌≤◌, ◌<◌}
use Rattle.std.proofs.Math.Option.{Option, none, some}
use Rattle.listing_rules.specs.Bytes.{same}
use Rattle.listing_rules.specs.Names.{lawful_name, below}
use Rattle.listing_rules.specs.Flags.{subscribed, no_inferiors}
use Rattle.listing_rules.specs.Orders.{ascends}
use Rattle.listing_rules.specs.Table.{Row, names, has_row}
use Rattle.listing_rules.specs.Command.{Edit, subscribe, unsubscribe}
use Rattle.listing_rules.specs.Records.{Record, record_rows}
use Rattle.listing_rules.specs.Subscriptions.{Store, Edited, denied, stored, spelled, nth, flagged, inserted, removed}
use Rattle.listing_rules.specs.Subscriptions.{rows_before, below_no_inferiors, free_from, lowest_run, with_subscribed, without_subscribed}
use Rattle.mailbox_table.specs.Index.{rows_at, nth_row, nth_name}
use Rattle.subscriptions.specs.declared.Plan.{Plan}
use Rattle.subscriptions.specs.declared.Plan.TheVariants.{Keep, Flag, Insert, Remove}

-- what an edit comes to: what is to be done, or the number of its refusal
abbrev pub Decision : Type 0
Decision = Result Plan ℕ

-- The words of a table that passes: the names of the rows ascend by bytes and lie inside the area.
pub record Ordered (area words : List ℕ) : Type 0 where
  pub ascend : ascends (names (rows_at area words)) ≡ true
  pub inside : (k : ℕ) → k < length words → (nth_row words k).start + (nth_row words k).len ≤ length area

-- an edit taken apart: whether it is SUBSCRIBE, and its name, spelled
unfoldable pub subscribes : Edit → Bool
subscribes (subscribe n) = true
subscribes (unsubscribe n) = false

unfoldable pub edited_name : Edit → List ℕ
edited_name (subscribe n) = spelled n
edited_name (unsubscribe n) = spelled n

-- row k has these flags, and the edit sets or clears one of them; a row 0002 goes
unfoldable pub setting_plan : ℕ → ℕ → Plan
setting_plan k f = cond (subscribed f) Keep (Flag k (with_subscribed f))

unfoldable pub clearing_plan : ℕ → ℕ → Plan
clearing_plan k f = cond (eqb f 0x0002) (Remove k) (cond (subscribed f) (Flag k (without_subscribed f)) Keep)

-- a row put in at place k, if there is room for it and a run for its name
unfoldable pub room_plan : ℕ → Bool → Option ℕ → Decision
room_plan k room none = Err 15
room_plan k room (some start) = cond room (Ok (Insert k start)) (Err 15)

-- the name has no row: 14, then 15
unfoldable pub fresh_plan : List Record → ℕ → List ℕ → ℕ → List ℕ → Decision
fresh_plan rs lent area k n =
    cond
    (lawful_name n && not (below_no_inferiors (record_rows area rs) n))
    (room_plan k (ltb (length rs) 512 && ltb (length rs) lent) (lowest_run (length n) 0 (free_from rs 0 area)))
    (Err 14)

-- the records that are rows, how many records are lent, the area, whether it is SUBSCRIBE, and the name, spelled
unfoldable pub plan_for : List Record → ℕ → List ℕ → Bool → List ℕ → Decision
plan_for rs lent area b n =
    let k = rows_before (record_rows area rs) n in
    let f = (nth rs k).flags in
    cond (has_row (record_rows area rs) n) (cond b (Ok (setting_plan k f)) (Ok (clearing_plan k f))) (cond b (fresh_plan rs lent area k n) (Ok Keep))

-- what a plan makes of a store, n being the name
unfoldable pub carried : Store → List ℕ → Decision → Edited
carried s n (Ok Keep) = stored s
carried s n (Ok (Flag k f)) = stored (flagged s k f)
carried s n (Ok (Insert k start)) = stored (inserted s k start n)
carried s n (Ok (Remove k)) = stored (removed s k)
carried s n (Err x) = denied x

-- there is a row k of the index, and this is its name
unfoldable pub stands_at : List ℕ → List ℕ → ℕ → List ℕ → Bool
stands_at area words k n = ltb k (length words) && same (nth_name area words k) n

-- a row with no inferiors, and the name n below it
unfoldable pub bars_below : List ℕ → Row → Bool
bars_below n r = no_inferiors r.flags && below r.name n
