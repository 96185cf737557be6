-- Numbers of a summary changed row by row. Rests on the library alone.
use Rattle.listing_rules.proofs.Prelude.{◌≡◌, ap, refl, cond, List, [], ◌∷◌, ◌+◌, ◌-◌, ◌<◌, ◌≤◌, suc, zero, ℕ, arith, get_or, length, set, take}
use Rattle.listing_rules.proofs.Prelude.{take_all}
use Rattle.listing_rules.specs.Names.{below}
use Rattle.mailbox_table.specs.Index.{name_at, nth_name}
use Rattle.subscriptions.specs.Resums.{resummed_words}

module _ (gone come : ℕ) (n area : List ℕ) where
  -- the rows before row i are done
  abbrev pub resummed_to : List ℕ → List ℕ → ℕ → List ℕ
  resummed_to ws ms i = resummed_words gone come n area (take i ws) ms

  pub resum_none : (ws ms : List ℕ) → resummed_to ws ms 0 ≡ ms
  unfolding resummed_words
  resum_none ws ms = refl

  pub resum_length : (ws ms : List ℕ) (i : ℕ) → length (resummed_to ws ms i) ≡ length ms
  unfolding resummed_words
  resum_length ws ms zero = refl
  resum_length [] ms (suc i) = refl
  resum_length (w ∷ ws) [] (suc i) = refl
  resum_length (w ∷ ws) (m ∷ ms) (suc i) = ap suc (resum_length ws ms i)

  pub resum_same : (ws ms : List ℕ) (i : ℕ) → get_or (resummed_to ws ms i) i 0 ≡ get_or ms i 0
  unfolding resummed_words
  resum_same ws ms zero = refl
  resum_same [] ms (suc i) = refl
  resum_same (w ∷ ws) [] (suc i) = refl
  resum_same (w ∷ ws) (m ∷ ms) (suc i) = resum_same ws ms i

  pub resum_next : (ws ms : List ℕ) (i : ℕ) → i < length ws → i < length ms
      → resummed_to ws ms (suc i) ≡ set (resummed_to ws ms i) i (cond (below (nth_name area ws i) n) (get_or ms i 0 - gone + come) (get_or ms i 0))
  unfolding resummed_words
  resum_next [] ms i h k = absurd (omega arith)
  resum_next (w ∷ ws) [] i h k = absurd (omega arith)
  resum_next (w ∷ ws) (m ∷ ms) zero h k = refl
  resum_next (w ∷ ws) (m ∷ ms) (suc i) h k =
      ap (λ (l : List ℕ). cond (below (name_at area w) n) (m - gone + come) m ∷ l) (resum_next ws ms i (omega arith) (omega arith))

  pub resum_all : (ws ms : List ℕ) (i : ℕ) → length ws ≤ i → resummed_to ws ms i ≡ resummed_words gone come n area ws ms
  resum_all ws ms i h = ap (λ (l : List ℕ). resummed_words gone come n area l ms) (take_all i ws h)
