-- A table of words of which the first n are handed on, and what is left of it: area, summary, words, and which of them may have changed. Rests on
-- WordLaws.
use Rattle.listing_rules.proofs.Prelude.{◌∙◌, ◌≡◌, ap, sym, List, ◌++◌, map, map-append, ◌-◌, zero-add, zero-le, min, ℕ, arith, drop, drop-append-le}
use Rattle.listing_rules.proofs.Prelude.{length, length-append, length-drop, length-take, take, take-append-drop, take-append-le}
use Rattle.listing_rules.specs.Summary.{Summary, Summed}
use Rattle.listing_rules.proofs.ListLaws.{map_drop}
use Rattle.records.specs.Words.{record_of}
use Rattle.records.specs.Numbers.{summary_of}
use Rattle.records.specs.Lent.{lent_of}
use Rattle.records.specs.Stores.{Between}
use Rattle.replay.specs.Running.{table, summed_in, TableKept}

module _ (ws : List ℕ) (lent count : ℕ) (area sums : List ℕ) (n : ℕ) (n-is : n ≡ min lent (length ws)) (es ts us : List ℕ)
    (kept : TableKept (table (take n ws) sums area) (table es ts us)) where
  abbrev k : ℕ
  k = lent_of ws lent sums

  front_long : length (take n ws) ≡ n
  front_long = omega (arith, n-is, length-take n ws)

  es_long : length es ≡ n
  es_long = kept.words_long ∙ front_long

  -- as many are lent, before and after
  lent_before : lent_of (take n ws) (length (take n ws)) sums ≡ k
  lent_before = omega (arith, n-is, front_long)

  lent_after : lent_of es (length es) ts ≡ k
  lent_after = omega (arith, n-is, es_long, kept.sums_long)

  module _ (rows : ℕ) (m : Summed) (left : summed_in (table es ts us) rows ≡ m) where
    pub area_is : us ≡ m.store.area
    area_is = ap (λ (x : Summed). x.store.area) left

    pub count_is : rows ≡ m.store.count
    count_is = ap (λ (x : Summed). x.store.count) left

    pub summary_is : map summary_of ts ≡ m.summary ++ drop k (map summary_of sums)
    summary_is =
        ap (map summary_of) (sym (take-append-drop k ts))
        ∙ map-append summary_of (take k ts) (drop k ts)
        ∙ (λ i. map summary_of (take (sym lent_after i) ts) ++ map summary_of (drop (sym lent_before i) ts))
        ∙ (λ i. (left i).summary ++ map summary_of (kept.sums_after_lem i))
        ∙ (λ i. m.summary ++ map summary_of (drop (lent_before i) sums))
        ∙ ap (λ (x : List Summary). m.summary ++ x) (map_drop summary_of k sums)

    pub words_are : map record_of (take k (es ++ drop n ws)) ≡ m.store.records
    words_are =
        ap (map record_of) (take-append-le k es (drop n ws) (omega (arith, n-is, es_long)))
        ∙ ap (λ (j : ℕ). map record_of (take j es)) (sym lent_after)
        ∙ ap (λ (x : Summed). x.store.records) left

  rest_same : drop k (es ++ drop n ws) ≡ drop k ws
  rest_same =
      drop-append-le k es (drop n ws) (omega (arith, n-is, es_long))
      ∙ ap (λ (x : List ℕ). x ++ drop n ws) (ap (λ (j : ℕ). drop j es) (sym lent_before) ∙ kept.words_after_lem ∙ ap (λ (j : ℕ). drop j (take n ws))
      lent_before)
      ∙ sym (drop-append-le k (take n ws) (drop n ws) (omega (arith, n-is, front_long)))
      ∙ ap (drop k) (take-append-drop n ws)

  -- all that are lent may have changed
  pub moved : (to : ℕ) → to ≡ min n (length sums) → Between ws (es ++ drop n ws) k 0 to
  moved to e =
      let whole : k ≡ to - 0 = omega (arith, e, n-is) in
      record {
        order = zero-le;
        lent_only = omega (arith, e, n-is);
        within = omega (arith, e, n-is);
        size = length-append es (drop n ws) ∙ omega (arith, es_long, n-is, length-drop n ws);
        others =
            sym (take-append-drop k (es ++ drop n ws))
            ∙ ap (λ (x : List ℕ). take k (es ++ drop n ws) ++ x) rest_same
            ∙ ap (λ (j : ℕ). take j (es ++ drop n ws) ++ drop j ws) whole
            ∙ ap (λ (j : ℕ). take (to - 0) (es ++ drop n ws) ++ drop j ws) (sym (zero-add (to - 0)));
      }
