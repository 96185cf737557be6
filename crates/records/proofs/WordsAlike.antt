-- The numbers that `copy_in` makes are, with the summary beside them, a table alike to the one that is lent, to check 1 and to each reader. Rests on `Alike`
-- and SummaryAlike of the definitions.
use Rattle.listing_rules.proofs.Prelude.{◌∙◌, ◌≡◌, ap, refl, subst, sym, List, map, min, ℕ, length, length-map, take}
use Rattle.listing_rules.specs.Table.{Table, passes}
use Rattle.listing_rules.specs.Records.{Record as Meant, record_table}
use Rattle.listing_rules.specs.Readers.{records_seen}
use Rattle.listing_rules.specs.Subscriptions.{Store, store_table, store_seen}
use Rattle.listing_rules.specs.Summary.{summed_table, summed_seen}
pub use Rattle.listing_rules.proofs.ListLaws.{map_take}
use Rattle.listing_rules.proofs.Alike.{Alike, front_alike}
use Rattle.listing_rules.proofs.ReaderLaws.{front_seen_alike}
use Rattle.listing_rules.proofs.SummaryAlike.{summed_alike, summed_seen_alike, summed_seen_passes, paired, cut_table, cut_seen}
use Rattle.records.specs.declared.Record.{Record}
use Rattle.records.specs.Words.{meant, record_of}
use Rattle.records.specs.Numbers.{summary_of}
use Rattle.records.specs.Lent.{lent_store, lent_summed, words_summed, lent_table, lent_seen, words_table, words_seen}

-- what is lent: as many records and numbers as there are of both
pub lent_paired : (rs : List Record) (count : ℕ) (area sums : List ℕ) →
    lent_summed rs count area sums ≡ paired (map meant rs) (map summary_of sums) count area
lent_paired rs count area sums =
    let records : map meant (take (length sums) rs) ≡ take (length (map summary_of sums)) (map meant rs) = map_take meant (length sums) rs
    ∙ ap (λ (k : ℕ). take k (map meant rs)) (sym (length-map sums summary_of)) in
    let numbers : map summary_of (take (length rs) sums) ≡ take (length (map meant rs)) (map summary_of sums) = map_take summary_of (length rs) sums
    ∙ ap (λ (k : ℕ). take k (map summary_of sums)) (sym (length-map rs meant)) in
    λ i. record { store = record { records = records i; count = count; area = area }; summary = numbers i }

-- of two tables all and every, what is seen: t and u
pub record SeenAlike (all t every u : Table) : Type 0 where
  pub rows_pass_lem : passes all ≡ passes every
  pub seen_pass : passes t ≡ passes all
  pub seen : Alike t u

module _ (rs : List Record) (ws : List ℕ) (count : ℕ) (area sums : List ℕ) (n : ℕ) (e : n ≡ min count (min (length rs) 512))
    (told : map record_of (take n ws) ≡ map meant (take n rs)) where
  abbrev all : Store
  all = lent_store rs count area

  abbrev copied : Store
  copied = record { records = map record_of (take n ws); count = count; area = area }

  most : n ≡ min count (min (length (map meant rs)) 512)
  most = e ∙ ap (λ (k : ℕ). min count (min k 512)) (sym (length-map rs meant))

  -- without the summary
  stores_alike : Alike (store_table copied) (store_table all)
  unfolding store_table
  stores_alike =
      subst (λ (l : List Meant). Alike (record_table area l count) (record_table area (map meant rs) count)) (sym (told ∙ map_take meant n rs))
      (front_alike area (map meant rs) count n most)

  stores_seen_alike : (reader : ℕ) → Alike (store_seen reader copied) (store_seen reader all)
  unfolding store_seen
  stores_seen_alike reader =
      subst (λ (l : List Meant). Alike (records_seen reader area l count) (records_seen reader area (map meant rs) count))
      (sym (told ∙ map_take meant n rs))
      (front_seen_alike reader area (map meant rs) count n most)

  -- with it
  pub words_alike : Alike (words_table (take n ws) count area sums) (lent_table rs count area sums)
  words_alike =
      subst (λ (t : Table). Alike (words_table (take n ws) count area sums) t)
      (sym (ap summed_table (lent_paired rs count area sums) ∙ cut_table (map meant rs) (map summary_of sums) count area))
      (summed_alike copied all (map summary_of sums) refl stores_alike)

  pub words_seen_alike : (reader : ℕ)
      → SeenAlike (words_table (take n ws) count area sums) (words_seen reader (take n ws) count area sums) (lent_table rs count area sums)
      (lent_seen reader rs count area sums)
  words_seen_alike reader =
      record {
        rows_pass_lem = words_alike.0;
        seen_pass = summed_seen_passes reader (words_summed (take n ws) count area sums);
        seen =
            subst (λ (t : Table). Alike (words_seen reader (take n ws) count area sums) t)
            (sym (ap (summed_seen reader) (lent_paired rs count area sums) ∙ cut_seen (map meant rs) (map summary_of sums) count area reader))
            (summed_seen_alike copied all (map summary_of sums) refl stores_alike reader (stores_seen_alike reader));
      }
