-- The plan for an edit, by the tests of the code. Rests on PlaceLaws.
use Rattle.std.specs.Prelude.{Some, None, Ok, Err}
use Rattle.listing_rules.proofs.Prelude.{◌∙◌, ◌≡◌, refl, ◌&&◌, false, true, Option, none, some, List, map, ◌<◌, ◌≤◌, ℕ, ltb, length, length-map}
use Rattle.listing_rules.proofs.Prelude.{le-ltb, lt-ltb, ltb-true}
use Rattle.listing_rules.specs.Names.{lawful_name}
use Rattle.listing_rules.specs.Subscriptions.{rows_before, below_no_inferiors, free_from, lowest_run}
use Rattle.listing_rules.proofs.Bools.{and_l}
use Rattle.records.specs.Words.{record_of}
use Rattle.mailbox_table.specs.Index.{nth_row, rows_at}
use Rattle.subscriptions.specs.declared.Plan.TheVariants.{Keep, Insert}
use Rattle.subscriptions.specs.Runs.{run_is}
use Rattle.subscriptions.specs.Plans.{Decision, Ordered, setting_plan, clearing_plan, room_plan, fresh_plan, plan_for, stands_at}
use Rattle.subscriptions.proofs.PlaceLaws.{rows_are, flags_are, has_stands}

-- what a run that is found, or not, says of the definition
run_some : (o : Option ℕ) (k : ℕ) → run_is o ≡ Some k → o ≡ some k
unfolding run_is
run_some none k e = cc
run_some (some j) k e = cc

run_none : (o : Option ℕ) → run_is o ≡ None → o ≡ none
unfolding run_is
run_none none e = refl
run_none (some j) e = cc

room_none : (k : ℕ) (o : Option ℕ) → room_plan k false o ≡ Err 15
unfolding room_plan
room_none k none = refl
room_none k (some start) = refl

-- a name that has no row
module _ (area words : List ℕ) (lent k : ℕ) (n : List ℕ) where
  abbrev fresh : Decision
  fresh = fresh_plan (map record_of words) lent area k n

  abbrev run : Option ℕ
  run = lowest_run (length n) 0 (free_from (map record_of words) 0 area)

  pub fresh_unlawful : lawful_name n ≡ false → fresh_plan (map record_of words) lent area k n ≡ Err 14
  unfolding fresh_plan
  fresh_unlawful e = rw e

  module _ (lawful : lawful_name n ≡ true) where
    pub fresh_below : below_no_inferiors (rows_at area words) n ≡ true → fresh_plan (map record_of words) lent area k n ≡ Err 14
    unfolding fresh_plan
    fresh_below e = rw (lawful, rows_are area words, e)

    module _ (clear : below_no_inferiors (rows_at area words) n ≡ false) where
      fresh_room : fresh_plan (map record_of words) lent area k n ≡ room_plan k (ltb (length words) 512 && ltb (length words) lent) run
      unfolding fresh_plan
      fresh_room = rw (lawful, rows_are area words, clear, length-map words record_of)

      pub fresh_full : 512 ≤ length words → fresh_plan (map record_of words) lent area k n ≡ Err 15
      fresh_full h = fresh_room ∙ rw (le-ltb (length words) 512 h) (room_none k run)

      module _ (few : length words < 512) where
        pub fresh_spent : lent ≤ length words → fresh_plan (map record_of words) lent area k n ≡ Err 15
        fresh_spent h = fresh_room ∙ rw (lt-ltb (length words) 512 few, le-ltb (length words) lent h) (room_none k run)

        module _ (spare : length words < lent) where
          pub fresh_missing : run_is (lowest_run (length n) 0 (free_from (map record_of words) 0 area)) ≡ None → fresh_plan (map record_of words) lent area k n ≡ Err 15
          unfolding room_plan
          fresh_missing e = fresh_room ∙ rw (run_none run e)

          pub fresh_insert : (start : ℕ) → run_is (lowest_run (length n) 0 (free_from (map record_of words) 0 area)) ≡ Some start → fresh_plan (map record_of words) lent area k n ≡ Ok (Insert k start)
          unfolding room_plan
          fresh_insert start e = fresh_room ∙ rw (run_some run start e, lt-ltb (length words) 512 few, lt-ltb (length words) lent spare)

-- there is a row where a name stands
pub stands_inside : (area words : List ℕ) (k : ℕ) (n : List ℕ) → stands_at area words k n ≡ true → k < length words
unfolding stands_at
stands_inside area words k n e = ltb-true k (length words) (and_l (ltb k (length words)) _ e)

module _ {area words : List ℕ} (x : Ordered area words) (lent : ℕ) (n : List ℕ) {k : ℕ} (place : k ≡ rows_before (rows_at area words) n) where
  module _ (e : stands_at area words k n ≡ false) where
    pub decide_fresh : plan_for (map record_of words) lent area true n ≡ fresh_plan (map record_of words) lent area k n
    unfolding plan_for
    decide_fresh = rw (rows_are area words, has_stands x n k place, e, place)

    pub decide_none : plan_for (map record_of words) lent area false n ≡ Ok Keep
    unfolding plan_for
    decide_none = rw (rows_are area words, has_stands x n k place, e)

  module _ (e : stands_at area words k n ≡ true) where
    pub decide_set : plan_for (map record_of words) lent area true n ≡ Ok (setting_plan k (nth_row words k).flags.bits)
    unfolding plan_for
    decide_set = rw (rows_are area words, has_stands x n k place, e, ← place, flags_are words k (stands_inside area words k n e))

    pub decide_clear : plan_for (map record_of words) lent area false n ≡ Ok (clearing_plan k (nth_row words k).flags.bits)
    unfolding plan_for
    decide_clear = rw (rows_are area words, has_stands x n k place, e, ← place, flags_are words k (stands_inside area words k n e))
