-- Stores whose tables are alike are alike with one summary beside them (W13); and records without a number, or numbers without a record, do not matter to
-- check 1. Rests on Alike, ReaderLaws and the parts of check 1.
use Rattle.listing_rules.proofs.Prelude.{◌∙◌, ◌≡◌, ap, refl, sym, Bool, ◌&&◌, and-false, cond, false, false≢true, true, none, some, List, []}
use Rattle.listing_rules.proofs.Prelude.{◌∷◌, ◌<◌, ◌≤◌, ℕ, arith, leb, length, length-take, take, take-take, le-leb, lt-leb, leb-false}
use Rattle.listing_rules.proofs.Prelude.{leb-true}
use Rattle.listing_rules.specs.Table.{Table, rows, passes}
use Rattle.listing_rules.specs.Records.{Record, record_rows, laid_out, record_table}
use Rattle.listing_rules.specs.Readers.{visible, seen, records_seen}
use Rattle.listing_rules.specs.Subscriptions.{Store, store_table, store_seen, held, store_rows}
use Rattle.listing_rules.specs.Summary.{Summary, afresh, Summed, same_summary, same_summaries, agrees, grown, summed_table, summed_seen}
use Rattle.listing_rules.proofs.Alike.{Alike, same_alike, fails_alike}
use Rattle.listing_rules.proofs.EditPasses.{rows_count}
use Rattle.listing_rules.proofs.ReaderLaws.{store_seen_passes}
use Rattle.listing_rules.proofs.SummaryLaws.{afresh_length}

-- the rows of a store that passes
pub rows_held : (s : Store) → passes (store_table s) ≡ true → rows (store_table s) ≡ store_rows s
unfolding store_table record_table passes store_rows held rows
rows_held s h = go (leb s.count (length s.records) && laid_out s.area (take s.count s.records)) h
  where
    go : (b : Bool) → passes (cond b (some (record_rows s.area (take s.count s.records))) none) ≡ true
        → rows (cond b (some (record_rows s.area (take s.count s.records))) none) ≡ record_rows s.area (take s.count s.records)
    go true k = refl
    go false k = absurd (false≢true k)

-- a table that does not pass without its summary does not pass with it; one that passes without it passes exactly if it agrees
passes_cond : (b : Bool) (t : Table) → passes (cond b t none) ≡ (b && passes t)
unfolding passes
passes_cond true t = refl
passes_cond false t = refl

fails_cond : (b : Bool) (t : Table) → passes t ≡ false → passes (cond b t none) ≡ false
unfolding passes
fails_cond true t h = h
fails_cond false t h = refl

pub grown_fails : (m : Summed) → passes (store_table m.store) ≡ false → passes (summed_table m) ≡ false
unfolding summed_table grown
grown_fails m h = fails_cond (agrees m) (store_table m.store) h

pub grown_passes : (m : Summed) → passes (store_table m.store) ≡ true → passes (summed_table m) ≡ agrees m
unfolding summed_table grown passes
grown_passes m h = go (agrees m)
  where
    go : (b : Bool) → passes (cond b (store_table m.store) none) ≡ b
    go true = h
    go false = refl

-- where it passes with its summary, it passes without it, and the summary agrees
pub grown_parts : (m : Summed) → passes (summed_table m) ≡ true → (passes (store_table m.store) ≡ true) × (agrees m ≡ true)
unfolding summed_table grown passes
grown_parts m = go (agrees m) refl
  where
    go : (b : Bool) → agrees m ≡ b → passes (cond b (store_table m.store) none) ≡ true → (passes (store_table m.store) ≡ true) × (agrees m ≡ true)
    go true e h = (h, e)
    go false e h = absurd (false≢true h)

-- what a reader sees passes exactly if the table does
pub summed_seen_passes : (reader : ℕ) (m : Summed) → passes (summed_seen reader m) ≡ passes (summed_table m)
unfolding summed_seen summed_table grown
summed_seen_passes reader m =
    passes_cond (agrees m) (store_seen reader m.store)
    ∙ ap (λ (b : Bool). agrees m && b) (store_seen_passes reader m.store)
    ∙ sym (passes_cond (agrees m) (store_table m.store))

-- two stores with as many rows, and one summary
module _ (s t : Store) (ms : List Summary) (number : s.count ≡ t.count) (a : Alike (store_table s) (store_table t)) where
  agrees_alike : passes (store_table s) ≡ true → agrees (record { store = s; summary = ms }) ≡ agrees (record { store = t; summary = ms })
  unfolding agrees
  agrees_alike h =
      let same : store_rows s ≡ store_rows t = sym (rows_held s h) ∙ ap rows (a.1 h) ∙ rows_held t (sym a.0 ∙ h) in
      λ i. same_summaries (take (number i) ms) (afresh (same i))

  pub summed_alike : Alike (summed_table (record { store = s; summary = ms })) (summed_table (record { store = t; summary = ms }))
  unfolding summed_table grown
  summed_alike = go (passes (store_table s)) refl
    where
      go : (b : Bool) → passes (store_table s) ≡ b
          → Alike (cond (agrees (record { store = s; summary = ms })) (store_table s) none)
          (cond (agrees (record { store = t; summary = ms })) (store_table t) none)
      go true h =
          same_alike (cond (agrees (record { store = s; summary = ms })) (store_table s) none)
          (cond (agrees (record { store = t; summary = ms })) (store_table t) none)
          (λ i. cond (agrees_alike h i) (a.1 h i) none)
      go false h =
          let x = agrees (record { store = s; summary = ms }) in
          let y = agrees (record { store = t; summary = ms }) in
          fails_alike (cond x (store_table s) none) (cond y (store_table t) none) (fails_cond x (store_table s) h)
          (fails_cond y (store_table t) (sym a.0 ∙ h))

  pub summed_seen_alike : (reader : ℕ) → Alike (store_seen reader s) (store_seen reader t)
      → Alike (summed_seen reader (record { store = s; summary = ms })) (summed_seen reader (record { store = t; summary = ms }))
  unfolding summed_seen grown
  summed_seen_alike reader b = go (passes (store_table s)) refl
    where
      go : (o : Bool) → passes (store_table s) ≡ o
          → Alike (cond (agrees (record { store = s; summary = ms })) (store_seen reader s) none)
          (cond (agrees (record { store = t; summary = ms })) (store_seen reader t) none)
      go true h = same_alike (cond (agrees (record { store = s; summary = ms })) (store_seen reader s) none)
          (cond (agrees (record { store = t; summary = ms })) (store_seen reader t) none)
          (λ i. cond (agrees_alike h i) (b.1 (store_seen_passes reader s ∙ h) i) none)
      go false h =
          let x = agrees (record { store = s; summary = ms }) in
          let y = agrees (record { store = t; summary = ms }) in
          fails_alike (cond x (store_seen reader s) none) (cond y (store_seen reader t) none)
          (fails_cond x (store_seen reader s) (store_seen_passes reader s ∙ h))
          (fails_cond y (store_seen reader t) (store_seen_passes reader t ∙ sym a.0 ∙ h))

-- of records rs and numbers ms only as many count as there are of both
abbrev pub paired : List Record → List Summary → ℕ → List ℕ → Summed
paired rs ms count area = record { store = record { records = take (length ms) rs; count = count; area = area }; summary = take (length rs) ms }

short_differs : (xs ys : List Summary) → length xs < length ys → same_summaries xs ys ≡ false
unfolding same_summaries
short_differs [] [] h = absurd (omega arith)
short_differs [] (y ∷ ys) h = refl
short_differs (x ∷ xs) [] h = absurd (omega arith)
short_differs (x ∷ xs) (y ∷ ys) h = ap (λ (b : Bool). same_summary x y && b) (short_differs xs ys (omega (arith, h))) ∙ and-false (same_summary x y)

module _ (rs : List Record) (ms : List Summary) (count : ℕ) (area : List ℕ) where
  abbrev all : Summed
  all = record { store = record { records = rs; count = count; area = area }; summary = ms }

  abbrev cut : Summed
  cut = paired rs ms count area

  no_table : (ks : List Record) → length ks < count → record_table area ks count ≡ none
  unfolding record_table
  no_table ks h = rw (lt-leb count (length ks) h)

  no_seen : (reader : ℕ) (ks : List Record) → length ks < count → records_seen reader area ks count ≡ none
  unfolding records_seen seen passes
  no_seen reader ks h = rw (no_table ks h)

  cond_none : (b : Bool) → cond {A = Table} b none none ≡ none
  cond_none true = refl
  cond_none false = refl

  -- what is grown of a table, or of what is seen of it, where too few records, or too few numbers, are lent
  lacking : (b : Bool) (t : Table) → t ≡ none → cond b t none ≡ none
  lacking b t e = ap (λ (u : Table). cond b u none) e ∙ cond_none b

  disagree : length ms < count → count ≤ length rs → agrees all ≡ false
  unfolding agrees
  disagree h l =
      short_differs (take count ms) (afresh (store_rows all.store))
      (omega (arith, h, length-take count ms, afresh_length (store_rows all.store), rows_count all.store l))

  taken : count ≤ length ms → take count (take (length ms) rs) ≡ take count rs
  taken h = take-take count (length ms) rs h

  same_table : count ≤ length ms → count ≤ length rs → store_table cut.store ≡ store_table all.store
  unfolding store_table record_table
  same_table h l =
      let enough : leb count (length (take (length ms) rs)) ≡ leb count (length rs) = le-leb count (length (take (length ms) rs))
      (omega (arith, h, l, length-take (length ms) rs)) ∙ sym (le-leb count (length rs) l) in
      λ i. cond (enough i && laid_out area (taken h i)) (some (record_rows area (taken h i))) none

  same_seen : count ≤ length ms → count ≤ length rs → (reader : ℕ) → store_seen reader cut.store ≡ store_seen reader all.store
  unfolding store_seen records_seen store_table
  same_seen h l reader = λ i. seen (same_table h l i) (visible reader area (taken h i))

  same_agrees : count ≤ length ms → count ≤ length rs → agrees cut ≡ agrees all
  unfolding agrees store_rows held
  same_agrees h l = λ i. same_summaries (take-take count (length rs) ms l i) (afresh (record_rows area (taken h i)))

  by_sizes : {A : Type 0} (x y : A) → (count ≤ length ms → count ≤ length rs → x ≡ y) → (length rs < count → x ≡ y)
      → (length ms < count → count ≤ length rs → x ≡ y) → x ≡ y
  by_sizes {A} x y both few short = go (leb count (length rs)) refl
    where
      numbered : count ≤ length rs → (b : Bool) → leb count (length ms) ≡ b → x ≡ y
      numbered l true e = both (leb-true count (length ms) e) l
      numbered l false e = short (leb-false count (length ms) e) l

      go : (b : Bool) → leb count (length rs) ≡ b → x ≡ y
      go true e = numbered (leb-true count (length rs) e) (leb count (length ms)) refl
      go false e = few (leb-false count (length rs) e)

  cut_short : length ms < count → length (take (length ms) rs) < count
  cut_short h = omega (arith, h, length-take (length ms) rs)

  cut_few : length rs < count → length (take (length ms) rs) < count
  cut_few h = omega (arith, h, length-take (length ms) rs)

  -- check 1 comes to the same with the records and numbers that have no partner
  pub cut_table : summed_table (paired rs ms count area) ≡ summed_table
      (record { store = record { records = rs; count = count; area = area }; summary = ms })
  unfolding summed_table grown store_table
  cut_table =
      by_sizes _ _ (λ h l i. cond (same_agrees h l i) (same_table h l i) none)
      (λ h. lacking (agrees cut) _ (no_table (take (length ms) rs) (cut_few h)) ∙ sym (lacking (agrees all) _ (no_table rs h)))
      (λ h l. lacking (agrees cut) _ (no_table (take (length ms) rs) (cut_short h)) ∙ sym
      (ap (λ (b : Bool). cond b (store_table all.store) none) (disagree h l)))

  pub cut_seen : (reader : ℕ)
      → summed_seen reader (paired rs ms count area) ≡ summed_seen reader
      (record { store = record { records = rs; count = count; area = area }; summary = ms })
  unfolding summed_seen grown store_seen
  cut_seen reader =
      by_sizes _ _ (λ h l i. cond (same_agrees h l i) (same_seen h l reader i) none)
      (λ h. lacking (agrees cut) _ (no_seen reader (take (length ms) rs) (cut_few h)) ∙ sym (lacking (agrees all) _ (no_seen reader rs h)))
      (λ h l. lacking (agrees cut) _ (no_seen reader (take (length ms) rs) (cut_short h))
      ∙ sym (ap (λ (b : Bool). cond b (store_seen reader all.store) none) (disagree h l)))
