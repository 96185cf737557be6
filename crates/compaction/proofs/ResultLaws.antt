-- What the result of a compaction says of the words: its number, and that those that changed lie between its two places. Rests on MoveLaws.
use Rattle.std.specs.Prelude.{Result, Ok, Err}
use Rattle.octets.specs.declared.refusals.Refusal.{Refusal}
use Rattle.octets.specs.Refusals.{number_of, numbered}
use Rattle.listing_rules.proofs.Prelude.{cond, eqb, eqb-true, ◌∙◌, ◌≡◌, refl, sym, Bool, false, true, List, ◌++◌, map, ◌≤◌, ℕ, arith, drop, length, length-map, take}
use Rattle.listing_rules.proofs.Prelude.{paste-zero}
use Rattle.listing_rules.specs.Table.{passes}
use Rattle.listing_rules.specs.Compaction.{place_after}
use Rattle.listing_rules.specs.Summary.{summed_table, summed_compaction}
use Rattle.listing_rules.proofs.SummaryAlike.{grown_parts}
use Rattle.records.specs.Words.{record_of}
use Rattle.records.specs.Lent.{lent_of, word_summed}
use Rattle.records.specs.Stores.{word_compaction, Between}
use Rattle.subscriptions.specs.declared.Change.{Change}
use Rattle.compaction.specs.Moves.{with_start, moved_words}
use Rattle.compaction.specs.Result.{rows_changed, compacted_is, cells_compacted}
use Rattle.compaction.proofs.MoveLaws.{count_size, between_moved}

-- the number by the result
refused_number : (number count k : ℕ) → Err k ≡ compacted_is number count → number ≡ k
unfolding compacted_is
refused_number number count k = go (eqb number 0)
  where
    go : (b : Bool) → ◌≡◌ {A = Result Change ℕ} (Err k) (cond b (Ok (rows_changed count)) (Err number)) → number ≡ k
    go true e = let z : ◌≡◌ {A = ℕ} 0 1 = cc in absurd (omega arith)
    go false e = cc

done_number : (number count : ℕ) (c : Change) → Ok c ≡ compacted_is number count → number ≡ 0
unfolding compacted_is
done_number number count c = go (eqb number 0) refl
  where
    go : (b : Bool) → eqb number 0 ≡ b → ◌≡◌ {A = Result Change ℕ} (Ok c) (cond b (Ok (rows_changed count)) (Err number)) → number ≡ 0
    go true q e = eqb-true number 0 q
    go false q e = let z : ◌≡◌ {A = ℕ} 0 1 = cc in absurd (omega arith)

-- as `result` of `compact_words` says it
pub result_refused : (number count : ℕ) (r : Result Change Refusal) (k : Refusal) → numbered r ≡ compacted_is number count → r ≡ Err k → number ≡ number_of k
result_refused number count r k e h = refused_number number count (number_of k) (rw h at e)

pub result_done : (number count : ℕ) (r : Result Change Refusal) (c : Change) → numbered r ≡ compacted_is number count → r ≡ Ok c → number ≡ 0
result_done number count r c e h = done_number number count c (rw h at e)

module _ (ws : List ℕ) (lent count : ℕ) (area sums : List ℕ) where
  nothing_between : Between ws ws (lent_of ws lent sums) 0 0
  nothing_between = record { order = omega arith; lent_only = omega arith; within = omega arith; size = refl; others = paste-zero ws 0 ws }

  front_moved : passes (summed_table (word_summed ws lent count area sums)) ≡ true →
      Between ws (moved_words (take count ws) area ++ drop count ws) (lent_of ws lent sums) 0 count
  unfolding moved_words
  front_moved e =
      let n : ℕ = lent_of ws lent sums in
      let inside : n ≤ length ws = omega arith in
      let good = (grown_parts (word_summed ws lent count area sums) e).0 in
      let f : ℕ → ℕ = λ w. with_start (place_after (map record_of (take count ws)) area (record_of w).start) w in
      between_moved ws n count area inside good (moved_words (take count ws) area)
      (length-map (take count ws) f ∙ sym (count_size ws n count area inside good))

  -- the words that changed, and none where it is refused
  pub between_compacted : (r : Result Change Refusal) (c : Change) (vs : List ℕ)
      → numbered r ≡ compacted_is (word_compaction ws lent count area sums).number count → r ≡ Ok c
      → vs ≡ cells_compacted ws lent count area sums → Between ws vs (lent_of ws lent sums) c.from c.to
  unfolding compacted_is cells_compacted summed_compaction
  between_compacted r c vs e h x = go (passes (summed_table (word_summed ws lent count area sums))) refl
    where
      go : (b : Bool) → passes (summed_table (word_summed ws lent count area sums)) ≡ b → Between ws vs (lent_of ws lent sums) c.from c.to
      go true p =
          let same : ◌≡◌ {A = Result Change ℕ} (Ok c) (Ok (rows_changed count)) = rw (h, p) at e in
          let q : c ≡ rows_changed count = cc in
          rw (q, x, p) (front_moved p)
      go false p =
          let none : ◌≡◌ {A = Result Change ℕ} (Ok c) (Err 1) = rw (h, p) at e in
          let z : ◌≡◌ {A = ℕ} 0 1 = cc in
          absurd (omega arith)

  pub between_refused : (r : Result Change Refusal) (k : Refusal) (vs : List ℕ)
      → numbered r ≡ compacted_is (word_compaction ws lent count area sums).number count → r ≡ Err k
      → vs ≡ cells_compacted ws lent count area sums → Between ws vs (lent_of ws lent sums) 0 0
  unfolding compacted_is cells_compacted summed_compaction
  between_refused r k vs e h x = go (passes (summed_table (word_summed ws lent count area sums))) refl
    where
      go : (b : Bool) → passes (summed_table (word_summed ws lent count area sums)) ≡ b → Between ws vs (lent_of ws lent sums) 0 0
      go true p =
          let none : ◌≡◌ {A = Result Change ℕ} (Err (number_of k)) (Ok (rows_changed count)) = rw (h, p) at e in
          let z : ◌≡◌ {A = ℕ} 0 1 = cc in
          absurd (omega arith)
      go false p = rw (x, p) nothing_between
