-- Records past the 512th do not matter to names moved together (W7): what becomes of a store is what becomes of its first 512 records, with the
-- others at their end. Rests on SpareLaws.
use Rattle.listing_rules.proofs.Prelude.{◌∙◌, ◌≡◌, ap, refl, sym, Bool, cond, false, true, List, ◌++◌, append_assoc, append-nil, map, ◌-◌, ◌<◌}
use Rattle.listing_rules.proofs.Prelude.{◌≤◌, min, ℕ, arith, leb, drop, drop_of_length-le, length, length-take, replicate, take}
use Rattle.listing_rules.proofs.Prelude.{take-append-drop, drop-append-le, take_all, leb-false, leb-true}
use Rattle.listing_rules.specs.Table.{passes}
use Rattle.listing_rules.specs.Records.{Record}
use Rattle.listing_rules.specs.Subscriptions.{Store, store_table, held}
use Rattle.listing_rules.specs.Compaction.{used_from, moved, compacted, Compaction, compaction}
use Rattle.listing_rules.proofs.SpareLaws.{with_spare, inside, held_spare, table_spare, too_many}

-- what compaction comes to, with more spare records at the end
abbrev compaction_with : List Record → Compaction → Compaction
compaction_with z c = record { number = c.number; store = with_spare c.store z }

module _ (s : Store) (z : List Record) (full : length s.records ≡ 512) where
  pub compacted_spare : s.count ≤ 512 → compacted (with_spare s z) ≡ with_spare (compacted s) z
  unfolding compacted
  compacted_spare few =
      let rows = held_spare s z full few in
      let rest : drop s.count (s.records ++ z) ≡ drop s.count s.records ++ z = drop-append-le s.count s.records z
      (inside s z full few) in
      let kept = map (moved (held s) s.area) (held s) in
      let names = used_from (held s) 0 s.area in
      (λ i. record {
        records = map (moved (rows i) s.area) (rows i) ++ rest i;
        count = s.count;
        area = used_from (rows i) 0 s.area ++ replicate (length s.area - length (used_from (rows i) 0 s.area)) 0;
      })
      ∙ sym (λ i. record {
        records = append_assoc kept (drop s.count s.records) z i;
        count = s.count;
        area = names ++ replicate (length s.area - length names) 0;
      })

  -- with 512 records before them, more spare records are left alone
  beyond : compaction (with_spare s z) ≡ compaction_with z (compaction s)
  unfolding compaction
  beyond = go (leb s.count 512) refl
    where
      Both : Bool → Bool → Type 0
      Both a b =
          cond a (record { number = 0; store = compacted (with_spare s z) }) (record { number = 1; store = with_spare s z })
          ≡ compaction_with z (cond b (record { number = 0; store = compacted s }) (record { number = 1; store = s }))

      few : s.count ≤ 512 → (b : Bool) → Both b b
      few h true = ap (λ (t : Store). record { number = 0; store = t }) (compacted_spare h)
      few h false = refl

      many : (a b : Bool) → a ≡ false → b ≡ false → Both a b
      many a b p q = rw (p, q)

      go : (b : Bool) → leb s.count 512 ≡ b → Both (passes (store_table (with_spare s z))) (passes (store_table s))
      go true e = let h = leb-true s.count 512 e in rw (table_spare s z full h) (few h (passes (store_table s)))
      go false e =
          let h = leb-false s.count 512 e in many (passes (store_table (with_spare s z))) (passes (store_table s)) (too_many (with_spare s z) h)
          (too_many s h)

-- What compaction makes of the store s, and of t, which has the first records of s alone.
pub record SameCompaction (s t : Store) (z : List Record) : Type 0 where
  pub number : (compaction s).number ≡ (compaction t).number
  pub area : (compaction s).store.area ≡ (compaction t).store.area
  pub records : (compaction s).store.records ≡ (compaction t).store.records ++ z

-- An entry looks at no more than 512 records.
pub same_compaction : (rs : List Record) (n : ℕ) → n ≡ min (length rs) 512 → (count : ℕ) (area : List ℕ)
    → SameCompaction (record { records = rs; count = count; area = area }) (record { records = take n rs; count = count; area = area }) (drop n rs)
same_compaction rs n e count area =
    let whole = go (leb (length rs) 512) refl in
    record {
      number = ap (λ (c : Compaction). c.number) whole;
      area = ap (λ (c : Compaction). c.store.area) whole;
      records = ap (λ (c : Compaction). c.store.records) whole;
    }
  where
    over : List Record → Store
    over k = record { records = k; count = count; area = area }

    go : (b : Bool) → leb (length rs) 512 ≡ b → compaction (over rs) ≡ compaction_with (drop n rs) (compaction (over (take n rs)))
    go true q =
        let all : length rs ≤ n = omega (arith, e, leb-true (length rs) 512 q) in
        let c = compaction (over rs) in
        sym (λ i. record
        { number = c.number; store = record { records = append-nil c.store.records i; count = c.store.count; area = c.store.area } })
        ∙ sym (λ i. compaction_with (drop_of_length-le rs all i) (compaction (over (take_all n rs all i))))
    go false q =
        let more : 512 < length rs = leb-false (length rs) 512 q in
        ap (λ (k : List Record). compaction (over k)) (sym (take-append-drop n rs)) ∙ beyond (over (take n rs)) (drop n rs)
        (omega (arith, e, more, length-take n rs))
