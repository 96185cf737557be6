-- A plan carried out is the edit. Rests on the order of names in listing_rules.
use Rattle.std.specs.Prelude.{Ok, Err}
use Rattle.listing_rules.proofs.Prelude.{◌≡◌, ap, refl, sym, Bool, ◌&&◌, cond, false, not, true, Option, none, some, List, [], ◌∷◌, ◌+◌, ◌-◌, ◌<◌}
use Rattle.listing_rules.proofs.Prelude.{◌≤◌, suc, ℕ, arith, eqb, ltb, length, get_or-take, length-take-le, split_at}
use Rattle.listing_rules.specs.Names.{lawful_name}
use Rattle.listing_rules.specs.Flags.{subscribed}
use Rattle.listing_rules.specs.Table.{has_row}
use Rattle.listing_rules.specs.Command.{Edit, subscribe, unsubscribe}
use Rattle.listing_rules.specs.Records.{Record, record_rows}
use Rattle.listing_rules.specs.Subscriptions.{Store, held, store_rows, denied, stored, edited, subscribing, unsubscribing, insertion, free_run, spelled}
use Rattle.listing_rules.specs.Subscriptions.{rows_before, below_no_inferiors, free_from, lowest_run, with_subscribed, without_subscribed, zero_record, nth}
use Rattle.listing_rules.specs.Subscriptions.{flagged, inserted, removed}
use Rattle.listing_rules.proofs.SpareLaws.{before_fewer}
use Rattle.subscriptions.specs.declared.Plan.TheVariants.{Keep, Flag, Remove}
use Rattle.subscriptions.specs.Plans.{Decision, subscribes, edited_name, setting_plan, clearing_plan, room_plan, fresh_plan, plan_for, carried}

-- a row with the flags that it has
flagged_same : (s : Store) (k : ℕ) → k < length s.records → flagged s k (nth s.records k).flags ≡ s
unfolding flagged nth
flagged_same s k h = λ i. record { records = sym (split_at s.records k zero_record h) i; count = s.count; area = s.area }

pub record_rows_length : (area : List ℕ) (rs : List Record) → length (record_rows area rs) ≡ length rs
unfolding record_rows
record_rows_length area [] = refl
record_rows_length area (r ∷ rs) = ap suc (record_rows_length area rs)

module _ (s : Store) (n : List ℕ) (h : s.count ≤ length s.records) where
  held_length : length (held s) ≡ s.count
  unfolding held
  held_length = length-take-le s.count s.records h

  held_flags : (k : ℕ) → k < s.count → (nth (held s) k).flags ≡ (nth s.records k).flags
  unfolding held nth
  held_flags k g = ap (λ (r : Record). r.flags) (get_or-take s.count s.records k zero_record g)

  set_is : (k : ℕ) → k < length s.records → (f : ℕ) → f ≡ (nth s.records k).flags → stored (flagged s k (with_subscribed f)) ≡ carried s n (Ok (setting_plan k f))
  unfolding carried setting_plan with_subscribed
  set_is k g f e = go (subscribed f)
    where
      go : (o : Bool) → stored (flagged s k (cond o f (f + 2))) ≡ carried s n (Ok (cond o Keep (Flag k (cond o f (f + 2)))))
      go true = ap stored (rw e (flagged_same s k g))
      go false = refl

  cleared_is : (k : ℕ) → k < length s.records → (f : ℕ) → f ≡ (nth s.records k).flags
      → cond (eqb f 2) (stored (removed s k)) (stored (flagged s k (without_subscribed f))) ≡ carried s n (Ok (clearing_plan k f))
  unfolding carried clearing_plan without_subscribed
  cleared_is k g f e = go (eqb f 2) (subscribed f)
    where
      go : (t o : Bool) → cond t (stored (removed s k)) (stored (flagged s k (cond o (f - 2) f))) ≡ carried s n (Ok (cond t (Remove k) (cond o (Flag k (cond o (f - 2) f)) Keep)))
      go true o = refl
      go false true = refl
      go false false = ap stored (rw e (flagged_same s k g))

  -- a row of the store that has the name
  row_there_lem : has_row (store_rows s) n ≡ true → rows_before (store_rows s) n < s.count
  unfolding store_rows
  row_there_lem e = omega (arith, before_fewer (store_rows s) n e, record_rows_length s.area (held s), held_length)

  insertion_is : (k : ℕ) → k ≡ rows_before (store_rows s) n
      → insertion s n ≡ carried s n (room_plan k (ltb (length (held s)) 512 && ltb (length (held s)) (length s.records)) (lowest_run (length n) 0 (free_from (held s) 0 s.area)))
  unfolding insertion free_run carried room_plan
  insertion_is k e = rw (held_length) (go (lowest_run (length n) 0 (free_from (held s) 0 s.area)) (ltb s.count 512 && ltb s.count (length s.records)))
    where
      go : (o : Option ℕ) (t : Bool)
          → elim o [ none ↦ denied 15 | some start ↦ cond t (stored (inserted s (rows_before (store_rows s) n) start n)) (denied 15) ]
          ≡ carried s n (room_plan k t o)
      go none t = refl
      go (some start) true = ap (λ (j : ℕ). stored (inserted s j start n)) (sym e)
      go (some start) false = refl

  fresh_is : cond (lawful_name n && not (below_no_inferiors (store_rows s) n)) (insertion s n) (denied 14)
      ≡ carried s n (fresh_plan (held s) (length s.records) s.area (rows_before (store_rows s) n) n)
  unfolding fresh_plan store_rows carried
  fresh_is = go (lawful_name n && not (below_no_inferiors (store_rows s) n)) (insertion_is (rows_before (store_rows s) n) refl)
    where
      room : Decision
      room = room_plan (rows_before (store_rows s) n) (ltb (length (held s)) 512 && ltb (length (held s)) (length s.records)) (lowest_run (length n) 0 (free_from (held s) 0 s.area))

      go : (o : Bool) → insertion s n ≡ carried s n room → cond o (insertion s n) (denied 14) ≡ carried s n (cond o room (Err 14))
      go true e = e
      go false e = refl

  subscribing_plan : subscribing s n ≡ carried s n (plan_for (held s) (length s.records) s.area true n)
  unfolding subscribing plan_for store_rows
  subscribing_plan = go (has_row (store_rows s) n) refl
    where
      k : ℕ
      k = rows_before (store_rows s) n

      fresh : Decision
      fresh = fresh_plan (held s) (length s.records) s.area k n

      go : (o : Bool) → has_row (store_rows s) n ≡ o
          → cond o (stored (flagged s k (with_subscribed (nth s.records k).flags))) (cond (lawful_name n && not (below_no_inferiors (store_rows s) n)) (insertion s n) (denied 14))
          ≡ carried s n (cond o (Ok (setting_plan k (nth (held s) k).flags)) fresh)
      go true e =
          let g = row_there_lem e in
          rw (held_flags k g) (set_is k (omega arith) (nth s.records k).flags refl)
      go false e = fresh_is

  unsubscribing_plan : unsubscribing s n ≡ carried s n (plan_for (held s) (length s.records) s.area false n)
  unfolding unsubscribing plan_for store_rows carried
  unsubscribing_plan = go (has_row (store_rows s) n) refl
    where
      k : ℕ
      k = rows_before (store_rows s) n

      f : ℕ
      f = (nth s.records k).flags

      go : (o : Bool) → has_row (store_rows s) n ≡ o
          → cond o (cond (eqb f 2) (stored (removed s k)) (stored (flagged s k (without_subscribed f)))) (stored s)
          ≡ carried s n (cond o (Ok (clearing_plan k (nth (held s) k).flags)) (Ok Keep))
      go true e =
          let g = row_there_lem e in
          rw (held_flags k g) (cleared_is k (omega arith) f refl)
      go false e = refl

-- Every edit of a store is its plan carried out.
pub edited_plan : (s : Store) (e : Edit) → s.count ≤ length s.records
    → edited s e ≡ carried s (edited_name e) (plan_for (held s) (length s.records) s.area (subscribes e) (edited_name e))
unfolding edited edited_name subscribes
edited_plan s (subscribe n) h = subscribing_plan s (spelled n) h
edited_plan s (unsubscribe n) h = unsubscribing_plan s (spelled n) h
