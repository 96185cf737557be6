-- W13 in lent memory: an accepted edit leaves as many summaries as there were, where there is one for each record. Rests on SubscriptionLaws.
use Rattle.listing_rules.proofs.Prelude.{◌∙◌, ◌≡◌, ap, refl, Bool, cond, false, true, List, [], ◌++◌, ◌∷◌, ◌+◌, ◌<◌, ◌≤◌, suc, ℕ, arith, eqb}
use Rattle.listing_rules.proofs.Prelude.{drop, length, length-append, length-drop, length-take, take}
use Rattle.listing_rules.specs.Table.{Row, has_row, flags_of, passes}
use Rattle.listing_rules.specs.Command.{Edit, subscribe, unsubscribe}
use Rattle.listing_rules.specs.Subscriptions.{Store, store_table, store_rows, spelled, rows_before, with_subscribed, without_subscribed, stored}
use Rattle.listing_rules.specs.Subscriptions.{edited}
use Rattle.listing_rules.specs.Summary.{Summary, counted, Summed, ancestors_resummed, no_summary, put_in, taken_out, subscribing_sums}
use Rattle.listing_rules.specs.Summary.{unsubscribing_sums, sums_edited}
use Rattle.listing_rules.proofs.EditPasses.{store_parts, rows_count}
use Rattle.listing_rules.proofs.SubscriptionLaws.{row_set, edited_rows, edited_sizes}
use Rattle.listing_rules.proofs.SpareLaws.{before_fewer}
use Rattle.listing_rules.proofs.EditRows.{rows_with}
use Rattle.listing_rules.proofs.SummaryLaws.{lower_than, higher_than, gap_split}

pub resummed_length : (f g : ℕ) (n : List ℕ) (rs : List Row) (ms : List Summary) → length (ancestors_resummed f g n rs ms) ≡ length ms
unfolding ancestors_resummed
resummed_length f g n [] ms = refl
resummed_length f g n (r ∷ rs) [] = refl
resummed_length f g n (r ∷ rs) (m ∷ ms) = ap suc (resummed_length f g n rs ms)

put_length : (count k : ℕ) (x : Summary) (ms : List Summary) → k ≤ count → count < length ms → length (put_in count k x ms) ≡ length ms
unfolding put_in
put_length count k x ms h g =
    omega (
      arith,
      length-append (take k ms) (x ∷ (drop k (take count ms) ++ drop (suc count) ms)),
      length-append (drop k (take count ms)) (drop (suc count) ms),
      length-take k ms,
      length-drop k (take count ms),
      length-take count ms,
      length-drop (suc count) ms,
    )

out_length : (count k : ℕ) (ms : List Summary) → k < count → count ≤ length ms → length (taken_out count k ms) ≡ length ms
unfolding taken_out
out_length count k ms h g =
    omega (
      arith,
      length-append (take k ms) (drop (suc k) (take count ms) ++ (no_summary ∷ drop count ms)),
      length-append (drop (suc k) (take count ms)) (no_summary ∷ drop count ms),
      length-take k ms,
      length-drop (suc k) (take count ms),
      length-take count ms,
      length-drop count ms,
    )

module _ (m : Summed) (t : Store) (h : passes (store_table m.store) ≡ true) (sized : length m.summary ≡ length m.store.records) where
  abbrev rs : List Row
  rs = store_rows m.store

  rows_are : length (store_rows m.store) ≡ m.store.count
  rows_are = rows_count m.store (store_parts m.store h).counted

  subscribing_length : (n : List ℕ) → store_rows t ≡ rows_with (store_rows m.store) n (row_set (store_rows m.store) n) →
      length (store_rows t) ≤ length m.store.records
      → length (subscribing_sums m n) ≡ length m.summary
  unfolding subscribing_sums rows_with rows_before
  subscribing_length n e few = go (has_row rs n) refl
    where
      go : (o : Bool) → has_row rs n ≡ o
          → length (cond o (ancestors_resummed (flags_of rs n) (with_subscribed (flags_of rs n)) n rs m.summary)
          (put_in m.store.count (length (lower_than rs n)) (counted rs n) (ancestors_resummed 0 0x0002 n rs m.summary))) ≡ length m.summary
      go true k = resummed_length (flags_of rs n) (with_subscribed (flags_of rs n)) n rs m.summary
      go false k =
          let split = ap length (gap_split m.store n (store_parts m.store h) k) in
          let before = length-append (lower_than rs n) (higher_than rs n) in
          let after = ap length e ∙ length-append (lower_than rs n) (row_set rs n ++ higher_than rs n) in
          let same = resummed_length 0 0x0002 n rs m.summary in
          put_length m.store.count (length (lower_than rs n)) (counted rs n) (ancestors_resummed 0 0x0002 n rs m.summary)
          (omega (arith, split, before, rows_are)) (omega (arith, split, before, after, few, rows_are, same, sized)) ∙ same

  unsubscribing_length : (n : List ℕ) → length (unsubscribing_sums m n) ≡ length m.summary
  unfolding unsubscribing_sums
  unsubscribing_length n = go (has_row rs n) refl (eqb (flags_of rs n) 0x0002)
    where
      go : (o : Bool) → has_row rs n ≡ o → (b : Bool)
          → length (cond o (cond b (taken_out m.store.count (rows_before rs n) (ancestors_resummed 0x0002 0 n rs m.summary))
          (ancestors_resummed (flags_of rs n) (without_subscribed (flags_of rs n)) n rs m.summary)) m.summary) ≡ length m.summary
      go true k true =
          let same = resummed_length 0x0002 0 n rs m.summary in
          out_length m.store.count (rows_before rs n) (ancestors_resummed 0x0002 0 n rs m.summary) (omega (arith, before_fewer rs n k, rows_are))
          (omega (arith, (store_parts m.store h).counted, same, sized)) ∙ same
      go true k false = resummed_length (flags_of rs n) (without_subscribed (flags_of rs n)) n rs m.summary
      go false k b = refl

  -- one for each record stays one for each record
  pub edited_length : (e : Edit) → edited m.store e ≡ stored t → length (sums_edited m e) ≡ length m.summary
  unfolding sums_edited
  edited_length (subscribe n) q =
      let sizes = edited_sizes m.store t (subscribe n) h q in
      subscribing_length (spelled n) (edited_rows m.store t (subscribe n) h q) (omega (arith, rows_count t sizes.2, sizes.2, sizes.0))
  edited_length (unsubscribe n) q = unsubscribing_length (spelled n)
