-- The table that a first summary is counted for: of the words that were copied in it is alike to that of the records; and tables that are alike are counted
-- alike. Rests on Alike of the definitions and WordsAlike of records.
use Rattle.listing_rules.proofs.Prelude.{◌∙◌, ◌≡◌, ap, refl, subst, sym, Bool, ◌&&◌, cond, false, true, none, some, List, map, ◌≤◌, min, ℕ, arith}
use Rattle.listing_rules.proofs.Prelude.{leb, length, length-map, length-take, take, take-take, le-leb, lt-leb, leb-true, leb-false}
use Rattle.listing_rules.specs.Table.{Table, passes}
use Rattle.listing_rules.specs.Records.{Record as Meant, record_table, record_rows, laid_out}
use Rattle.listing_rules.specs.Subscriptions.{store_table}
use Rattle.listing_rules.specs.Summary.{Summary, summarized}
use Rattle.listing_rules.proofs.Alike.{Alike, fails_alike, alike, few_fail, front_alike}
use Rattle.records.specs.declared.Record.{Record}
use Rattle.records.specs.Words.{meant, record_of}
use Rattle.records.specs.Lent.{word_table}
use Rattle.records.proofs.WordsAlike.{map_take}
use Rattle.summary.specs.Counts.{numbered_table}
use Rattle.exports.specs.Outcomes.{plain_table}

pub summarized_alike : (t u : Table) (ms : List Summary) → Alike t u → summarized t ms ≡ summarized u ms
unfolding summarized
summarized_alike t u ms a = alike t u (λ v. summarized v ms) (record { number = 1; summary = ms }) (λ v e. rw e) a

module _ (rs : List Record) (ws : List ℕ) (count : ℕ) (area sums : List ℕ) (n : ℕ) (e : n ≡ min count (min (length rs) 512))
    (told : map record_of (take n ws) ≡ map meant (take n rs)) where
  whole : Alike (word_table area (take n ws) count) (record_table area (map meant rs) count)
  whole =
      subst (λ (l : List Meant). Alike (record_table area l count) (record_table area (map meant rs) count)) (sym (told ∙ map_take meant n rs))
      (front_alike area (map meant rs) count n (e ∙ ap (λ (k : ℕ). min count (min k 512)) (sym (length-map rs meant))))

  -- enough numbers: the records after them do not matter
  cut_same : count ≤ length sums → record_table area (map meant (take (length sums) rs)) count ≡ record_table area (map meant rs) count
  unfolding record_table
  cut_same h =
      let records : map meant (take (length sums) rs) ≡ take (length sums) (map meant rs) = map_take meant (length sums) rs in
      let rows : take count (take (length sums) (map meant rs)) ≡ take count (map meant rs) = take-take count (length sums) (map meant rs) h in
      ap (λ (l : List Meant). record_table area l count) records
      ∙ (λ i. cond (enough i && laid_out area (rows i)) (some (record_rows area (rows i))) none)
    where
      enough : leb count (length (take (length sums) (map meant rs))) ≡ leb count (length (map meant rs))
      enough = go (leb count (length (map meant rs))) refl
        where
          go : (b : Bool) → leb count (length (map meant rs)) ≡ b → leb count (length (take (length sums) (map meant rs))) ≡ b
          go true q =
              le-leb count (length (take (length sums) (map meant rs)))
              (omega (arith, h, leb-true count (length (map meant rs)) q, length-take (length sums) (map meant rs)))
          go false q =
              lt-leb count (length (take (length sums) (map meant rs)))
              (omega (arith, leb-false count (length (map meant rs)) q, length-take (length sums) (map meant rs)))

  pub numbered_alike : Alike (numbered_table (take n ws) count area sums) (plain_table rs count area sums)
  unfolding store_table
  numbered_alike = go (leb count (length sums)) refl
    where
      go : (b : Bool) → leb count (length sums) ≡ b
          → Alike (cond b (word_table area (take n ws) count) none) (record_table area (map meant (take (length sums) rs)) count)
      go true q =
          subst (λ (t : Table). Alike (word_table area (take n ws) count) t) (sym (cut_same (leb-true count (length sums) q))) whole
      go false q =
          fails_alike none (record_table area (map meant (take (length sums) rs)) count) (unfold passes in refl)
          (few_fail area (map meant (take (length sums) rs)) count
          (omega (arith, leb-false count (length sums) q, length-map (take (length sums) rs) meant, length-take (length sums) rs)))
