-- Tables that are alike: check 1 says the same of both, and where they pass they are one table. They are answered and walked alike; so
-- are the first rows of records, and all of them. Rests on Passes.
use Rattle.listing_rules.proofs.Prelude.{◌∙◌, ◌≡◌, ap, refl, subst, sym, Bool, cond, false, false≢true, true, none, some, List, map, ◌<◌, ◌≤◌}
use Rattle.listing_rules.proofs.Prelude.{min, ℕ, le_refl, arith, leb, length, length-map, take, length-take-le, take_all, le-leb, leb-false}
use Rattle.listing_rules.proofs.Prelude.{leb-true, lt-leb}
use Rattle.listing_rules.specs.Table.{Row, Table, rows_pass, passes}
use Rattle.listing_rules.specs.Records.{Record, row_of, record_rows, laid_out, record_table}
use Rattle.listing_rules.specs.Readers.{is_reader}
use Rattle.listing_rules.specs.Server.{refusal, answer, limited, served}
use Rattle.listing_rules.specs.Walk.{WalkReply, walk_refused, walk, collected, walk_by, collected_by}
use Rattle.listing_rules.proofs.Passes.{rows_parts}

abbrev pub Alike : Table → Table → Type 0
Alike t u = (passes t ≡ passes u) × (passes t ≡ true → t ≡ u)

module _ (t u : Table) where
  pub same_alike : t ≡ u → Alike t u
  same_alike e = (ap passes e, λ _. e)

  pub fails_alike : passes t ≡ false → passes u ≡ false → Alike t u
  fails_alike f g = (f ∙ sym g, λ p. absurd (false≢true (sym f ∙ p)))

  -- what is the same for all tables that fail is the same for tables that are alike
  pub alike : {A : Type 0} (f : Table → A) (x : A) → ((v : Table) → passes v ≡ false → f v ≡ x) → Alike t u → f t ≡ f u
  alike f x fails a = go (passes t) refl
    where
      go : (o : Bool) → passes t ≡ o → f t ≡ f u
      go true e = ap f (a.1 e)
      go false e = fails t e ∙ sym (fails u (sym a.0 ∙ e))

  pub served_alike : (spaces l buffer : List ℕ) → Alike t u → served t spaces l buffer ≡ served u spaces l buffer
  unfolding served answer limited
  served_alike spaces l buffer = alike (λ v. served v spaces l buffer) (refusal 1) fails
    where
      fails : (v : Table) → passes v ≡ false → served v spaces l buffer ≡ refusal 1
      fails v e = rw e refl

  pub collected_alike : (o : ℕ) (scratch found pending : List ℕ) → Alike t u →
      collected t o scratch found pending ≡ collected u o scratch found pending
  unfolding collected walk
  collected_alike o scratch found pending = alike (λ v. collected v o scratch found pending) (walk_refused 1) fails
    where
      fails : (v : Table) → passes v ≡ false → collected v o scratch found pending ≡ walk_refused 1
      fails v e = rw e refl

  pub collected_by_alike : (reader o : ℕ) (scratch found pending : List ℕ) → Alike t u
      → collected_by reader t o scratch found pending ≡ collected_by reader u o scratch found pending
  unfolding collected_by walk_by collected
  collected_by_alike reader o scratch found pending a =
      ap (λ (r : WalkReply). cond (is_reader reader) r (walk_refused 16)) (collected_alike o scratch found pending a)

-- A count above the records lent, or above 512, fails.
module _ (area : List ℕ) (rs : List Record) (count : ℕ) where
  pub few_fail : length rs < count → passes (record_table area rs count) ≡ false
  unfolding record_table passes
  few_fail h = rw (lt-leb count (length rs) h) refl

  too_many : 512 < count → count ≤ length rs → rows_pass (record_rows area (take count rs)) ≡ false
  unfolding record_rows
  too_many h l = by_test (rows_pass held) refl
    where
      held : List Row
      held = map (row_of area) (take count rs)

      many : length held ≡ count
      many = length-map (take count rs) (row_of area) ∙ length-take-le count rs l

      by_test : (o : Bool) → rows_pass held ≡ o → rows_pass held ≡ false
      by_test true e = let few = (rows_parts held e).few in absurd (omega (arith, few, many, h))
      by_test false e = e

  many_fail : 512 < count → passes (record_table area rs count) ≡ false
  unfolding record_table passes
  many_fail h = by_count (leb count (length rs)) refl
    where
      by_layout : (o : Bool) → count ≤ length rs → passes (cond o (some (record_rows area (take count rs))) none) ≡ false
      by_layout true l = too_many h l
      by_layout false l = refl

      by_count : (o : Bool) → leb count (length rs) ≡ o → passes (record_table area rs count) ≡ false
      by_count true e = rw e (by_layout (laid_out area (take count rs)) (leb-true count (length rs) e))
      by_count false e = few_fail (leb-false count (length rs) e)

  front_same : count ≤ length rs → record_table area (take count rs) count ≡ record_table area rs count
  unfolding record_table
  front_same h =
      let held : length (take count rs) ≡ count = length-take-le count rs h in
      rw (take_all count (take count rs) (omega (arith, held)), held, le-leb count count (le_refl count), le-leb count (length rs) h) refl

-- The first records are alike to all of them, where there are as many as the count, the records and 512 allow.
pub front_alike : (area : List ℕ) (rs : List Record) (count n : ℕ) → n ≡ min count (min (length rs) 512) →
    Alike (record_table area (take n rs) count) (record_table area rs count)
front_alike area rs count n e = by_count (leb count n) refl
  where
    short : length (take n rs) ≡ n
    short = length-take-le n rs (omega (arith, e))

    by_count : (o : Bool) → leb count n ≡ o → Alike (record_table area (take n rs) count) (record_table area rs count)
    by_count true c =
        let l = leb-true count n c in
        let w : n ≡ count = omega (arith, e, l) in
        same_alike _ _ (ap (λ (k : ℕ). record_table area (take k rs) count) w ∙ front_same area rs count (omega (arith, e, l)))
    by_count false c =
        let l = leb-false count n c in
        fails_alike _ _ (few_fail area (take n rs) count (subst (λ (k : ℕ). k < count) (sym short) l)) (by_length l (leb count (length rs)) refl)
      where
        by_length : n < count → (o : Bool) → leb count (length rs) ≡ o → passes (record_table area rs count) ≡ false
        by_length l true d = let h = leb-true count (length rs) d in many_fail area rs count (omega (arith, e, l, h))
        by_length l false d = few_fail area rs count (leb-false count (length rs) d)
