-- What an edit of an index comes to fits. Rests on PlanLaws and FlagLaws.
use Rattle.std.specs.Prelude.{Ok, Err}
use Rattle.listing_rules.proofs.Prelude.{◌∙◌, ◌≡◌, refl, subst, sym, Bool, ◌&&◌, cond, false, not, true, Option, none, some, List, [], ◌∷◌, map, ◌+◌}
use Rattle.listing_rules.proofs.Prelude.{◌-◌, ◌<◌, ◌≤◌, suc, ℕ, arith, eqb, leb, ltb, list_get_or_map, get_or, length, length-map, take, get_or-take}
use Rattle.listing_rules.proofs.Prelude.{length-take-le, leb-true, ltb-true}
use Rattle.listing_rules.specs.Names.{lawful_name}
use Rattle.listing_rules.specs.Flags.{subscribed}
use Rattle.listing_rules.specs.Table.{Row, has_row}
use Rattle.listing_rules.specs.Records.{Record, record_rows}
use Rattle.listing_rules.specs.Subscriptions.{rows_before, below_no_inferiors, free_from, free_front, lowest_run, with_subscribed, without_subscribed, nth}
use Rattle.listing_rules.specs.Subscriptions.{zero_record}
use Rattle.listing_rules.proofs.Bools.{and_l, and_r}
use Rattle.listing_rules.proofs.LawfulNames.{good_parts}
use Rattle.listing_rules.proofs.FreeRuns.{front_bound, free_length}
use Rattle.listing_rules.proofs.SpareLaws.{before_most, before_fewer}
use Rattle.records.specs.Words.{record_of}
use Rattle.mailbox_table.specs.Words.{row_of_word}
use Rattle.subscriptions.specs.declared.Plan.TheVariants.{Keep, Flag, Remove}
use Rattle.subscriptions.specs.Plans.{Ordered, setting_plan, clearing_plan, room_plan, fresh_plan, plan_for}
use Rattle.subscriptions.specs.Applied.{Fits}
use Rattle.subscriptions.proofs.PlanLaws.{record_rows_length}
use Rattle.subscriptions.proofs.FlagLaws.{set_fits}

-- a run lies inside the map
run_inside : (len k : ℕ) (l : List Bool) (start : ℕ) → lowest_run len k l ≡ some start → start + len ≤ k + length l
unfolding lowest_run
run_inside len k [] start e = let z : ◌≡◌ {A = ℕ} 0 1 = cc in omega arith
run_inside len k (b ∷ l) start e = go (leb len (free_front (b ∷ l))) refl e (run_inside len (suc k) l start)
  where
    go : (o : Bool) → leb len (free_front (b ∷ l)) ≡ o → cond o (some k) (lowest_run len (suc k) l) ≡ some start
        → (lowest_run len (suc k) l ≡ some start → start + len ≤ suc k + length l) → start + len ≤ k + suc (length l)
    go true h f ih =
        let z : k ≡ start = cc in
        let m : free_front (b ∷ l) ≤ suc (length l) = front_bound (b ∷ l) in
        omega (arith, leb-true len (free_front (b ∷ l)) h)
    go false h f ih = omega (arith, ih f)

-- the record of a word among the words
pub record_at_lem : (ws : List ℕ) (k : ℕ) → nth (map record_of ws) k ≡ record_of (get_or ws k 0)
unfolding nth record_of zero_record
record_at_lem ws k = list_get_or_map record_of ws k 0

flags_small : (w : ℕ) → (record_of w).flags < 65536
unfolding record_of
flags_small w = omega arith

-- the name of a word of an index lies inside the area
index_inside : (area ws : List ℕ) (count : ℕ) → Ordered area (take count ws) → count ≤ length ws → (k : ℕ) → k < count
    → (record_of (get_or ws k 0)).start + (record_of (get_or ws k 0)).len ≤ length area
unfolding record_of row_of_word
index_inside area ws count x words k h =
    subst (λ (w : ℕ). (row_of_word w).start + (row_of_word w).len ≤ length area) (get_or-take count ws k 0 h) (x.inside k (omega (arith, length-take-le count ws words)))

module _ (ws : List ℕ) (count : ℕ) (area n : List ℕ) (words : count ≤ length ws) where
  set_fit : (k f : ℕ) → k < count → f < 65536 → Fits (Ok (setting_plan k f)) ws count area n
  unfolding setting_plan with_subscribed
  set_fit k f h g = go (subscribed f) refl
    where
      go : (o : Bool) → subscribed f ≡ o → Fits (Ok (cond o Keep (Flag k (cond o f (f + 2))))) ws count area n
      go true e = tt
      go false e = record { row = h; words = words; flags = set_fits f g e }

  clear_fit : (k f : ℕ) → k < count → f < 65536 → (record_of (get_or ws k 0)).start + (record_of (get_or ws k 0)).len ≤ length area → Fits (Ok (clearing_plan k f)) ws count area n
  unfolding clearing_plan without_subscribed
  clear_fit k f h g i = go (eqb f 2) (subscribed f)
    where
      go : (t o : Bool) → Fits (Ok (cond t (Remove k) (cond o (Flag k (cond o (f - 2) f)) Keep))) ws count area n
      go true o = record { row = h; words = words; inside = i }
      go false true = record { row = h; words = words; flags = omega arith }
      go false false = tt

  module _ (rs : List Record) (lent : ℕ) (number : length rs ≡ count) (bound : length area ≤ 32768) (room : count < 512 → count < lent → count < length ws) where
    fresh_fit : (k : ℕ) → k ≤ count → Fits (fresh_plan rs lent area k n) ws count area n
    unfolding fresh_plan room_plan
    fresh_fit k h =
        go (lawful_name n && not (below_no_inferiors (record_rows area rs) n)) (ltb (length rs) 512 && ltb (length rs) lent) (lowest_run (length n) 0 (free_from rs 0 area)) refl refl refl
      where
        go : (o t : Bool) (a : Option ℕ) → (lawful_name n && not (below_no_inferiors (record_rows area rs) n)) ≡ o → (ltb (length rs) 512 && ltb (length rs) lent) ≡ t
            → lowest_run (length n) 0 (free_from rs 0 area) ≡ a → Fits (cond o (room_plan k t a) (Err 14)) ws count area n
        go false t a e f g = tt
        go true t none e f g = tt
        go true false (some start) e f g = tt
        go true true (some start) e f g =
            let few = ltb-true (length rs) 512 (and_l (ltb (length rs) 512) (ltb (length rs) lent) f) in
            let spare = ltb-true (length rs) lent (and_r (ltb (length rs) 512) (ltb (length rs) lent) f) in
            let inside = run_inside (length n) 0 (free_from rs 0 area) start g in
            let short = (good_parts n (and_l (lawful_name n) (not (below_no_inferiors (record_rows area rs) n)) e)).most in
            record {
              place = h;
              room = room (omega arith) (omega arith);
              inside = omega (arith, free_length rs 0 area);
              start_small = omega (arith, free_length rs 0 area);
              name_short = omega arith;
            }

-- The plan for an index fits the words that begin with it, with room for one word more where it inserts.
pub plan_fits : (ws : List ℕ) (count lent : ℕ) (area : List ℕ) (b : Bool) (n : List ℕ) → Ordered area (take count ws) → count ≤ length ws → length area ≤ 32768
    → (count < 512 → count < lent → count < length ws) → Fits (plan_for (map record_of (take count ws)) lent area b n) ws count area n
unfolding plan_for
plan_fits ws count lent area b n x words bound room = go (has_row rows n) b refl
  where
    rs : List Record
    rs = map record_of (take count ws)

    rows : List Row
    rows = record_rows area rs

    k : ℕ
    k = rows_before rows n

    f : ℕ
    f = (nth rs k).flags

    number : length rs ≡ count
    number = length-map (take count ws) record_of ∙ length-take-le count ws words

    rows_number : length rows ≡ count
    rows_number = record_rows_length area rs ∙ number

    small : f < 65536
    small = subst (λ (r : Record). r.flags < 65536) (sym (record_at_lem (take count ws) k)) (flags_small (get_or (take count ws) k 0))

    go : (o b : Bool) → has_row rows n ≡ o → Fits (cond o (cond b (Ok (setting_plan k f)) (Ok (clearing_plan k f))) (cond b (fresh_plan rs lent area k n) (Ok Keep))) ws count area n
    go true true e = set_fit ws count area n words k f (omega (arith, before_fewer rows n e, rows_number)) small
    go true false e = let h : k < count = omega (arith, before_fewer rows n e, rows_number) in clear_fit ws count area n words k f h small (index_inside area ws count x words k h)
    go false true e = fresh_fit ws count area n words rs lent number bound room k (omega (arith, before_most rows n, rows_number))
    go false false e = tt
