-- Words that are kept one by one: an index but for the order of their names. Rests on SharedLaws.
use Rattle.listing_rules.proofs.Prelude.{◌∙◌, ◌≡◌, ap, refl, sym, true, List, [], ◌++◌, ◌∷◌, ◌+◌, ◌<◌, ◌≤◌, suc, zero, ℕ, dec_le, arith}
use Rattle.listing_rules.proofs.Prelude.{list_get_or_append, get_or, length, length-append, get_or_at}
use Rattle.listing_rules.specs.Orders.{ascends}
use Rattle.listing_rules.specs.Table.{names}
use Rattle.mailbox_table.specs.Words.{row_of_word}
use Rattle.mailbox_table.specs.Shared.{shared_len}
use Rattle.mailbox_table.specs.Index.{name_at, nth_row, nth_name, rows_at, Indexed}
use Rattle.mailbox_table.proofs.SharedLaws.{shared_nil_l}

-- the name of the last word
unfoldable pub last_name : List ℕ → List ℕ → List ℕ
last_name t [] = []
last_name t (w ∷ []) = name_at t w
last_name t (w ∷ v ∷ ws) = last_name t (v ∷ ws)

last_nil : (t : List ℕ) → last_name t [] ≡ []
unfolding last_name
last_nil t = refl

last_snoc : (t ws : List ℕ) (w : ℕ) → last_name t (ws ++ w ∷ []) ≡ name_at t w
unfolding last_name
last_snoc t [] w = refl
last_snoc t (v ∷ []) w = refl
last_snoc t (v ∷ u ∷ ws) w = last_snoc t (u ∷ ws) w

last_at : (t ws : List ℕ) (k : ℕ) → length ws ≡ k + 1 → last_name t ws ≡ nth_name t ws k
unfolding last_name
last_at t [] k e = absurd (omega arith)
last_at t (w ∷ []) zero e = refl
last_at t (w ∷ []) (suc k) e = absurd (omega arith)
last_at t (w ∷ v ∷ ws) zero e = absurd (omega arith)
last_at t (w ∷ v ∷ ws) (suc k) e = last_at t (v ∷ ws) k (omega arith)

-- words that are an index but for the order of their names; x is the name of the last
pub record Kept (t ws x : List ℕ) : Type 0 where
  pub last : last_name t ws ≡ x
  pub first : (nth_row ws 0).shared ≡ 0
  pub shares : (k : ℕ) → k + 1 < length ws → (nth_row ws (k + 1)).shared ≡ shared_len (nth_name t ws k) (nth_name t ws (k + 1))
  pub full : (k : ℕ) → k < length ws → 0 < (nth_row ws k).len
  pub inside : (k : ℕ) → k < length ws → (nth_row ws k).start + (nth_row ws k).len ≤ length t

pub kept_none : (t : List ℕ) → Kept t [] []
unfolding last_name row_of_word
kept_none t = record { last = refl; first = refl; shares = λ k h. absurd (omega arith); full = λ k h. absurd (omega arith); inside = λ k h. absurd (omega arith) }

pub kept_indexed : {t ws x : List ℕ} → Kept t ws x → ascends (names (rows_at t ws)) ≡ true → Indexed t ws
kept_indexed k e = record { ascend = e; first = k.first; shares = k.shares; full = k.full; inside = k.inside }

-- a fact of every word, and of one more
each_more : (P : ℕ → Type 0) (ws : List ℕ) (w : ℕ) → ((k : ℕ) → k < length ws → P (get_or ws k 0)) → P w → (k : ℕ) → k < length (ws ++ w ∷ []) → P (get_or (ws ++ w ∷ []) k 0)
each_more P ws w f p k h = go (dec_le (length ws) k)
  where
    go : Dec (length ws ≤ k) → P (get_or (ws ++ w ∷ []) k 0)
    go (yes g) = rw (get_or_at ws w [] 0 k (omega (arith, length-append ws (w ∷ [])))) p
    go (no g) = rw (list_get_or_append ws (w ∷ []) 0 k (omega arith)) (f k (omega arith))

module _ {t ws x : List ℕ} (kept : Kept t ws x) (w : ℕ) (e : (row_of_word w).shared ≡ shared_len x (name_at t w)) where
  first_more : (nth_row (ws ++ w ∷ []) 0).shared ≡ 0
  first_more = go ws kept.last kept.first
    where
      go : (vs : List ℕ) → last_name t vs ≡ x → (nth_row vs 0).shared ≡ 0 → (nth_row (vs ++ w ∷ []) 0).shared ≡ 0
      go [] l f = e ∙ ap (λ (n : List ℕ). shared_len n (name_at t w)) (sym l ∙ last_nil t) ∙ shared_nil_l (name_at t w)
      go (v ∷ vs) l f = f

  shares_more : (k : ℕ) → k + 1 < length (ws ++ w ∷ []) → (nth_row (ws ++ w ∷ []) (k + 1)).shared ≡ shared_len (nth_name t (ws ++ w ∷ []) k) (nth_name t (ws ++ w ∷ []) (k + 1))
  shares_more k h = go (dec_le (length ws) (k + 1))
    where
      go : Dec (length ws ≤ k + 1) → (nth_row (ws ++ w ∷ []) (k + 1)).shared ≡ shared_len (nth_name t (ws ++ w ∷ []) k) (nth_name t (ws ++ w ∷ []) (k + 1))
      go (yes g) =
          let d : length ws ≡ k + 1 = omega (arith, length-append ws (w ∷ [])) in
          rw (get_or_at ws w [] 0 (k + 1) d, list_get_or_append ws (w ∷ []) 0 k (omega arith), ← last_at t ws k d, kept.last) e
      go (no g) = rw (list_get_or_append ws (w ∷ []) 0 k (omega arith), list_get_or_append ws (w ∷ []) 0 (k + 1) (omega arith)) (kept.shares k (omega arith))

  pub kept_more : 0 < (row_of_word w).len → (row_of_word w).start + (row_of_word w).len ≤ length t → Kept t (ws ++ w ∷ []) (name_at t w)
  kept_more f i =
      record {
        last = last_snoc t ws w;
        first = first_more;
        shares = shares_more;
        full = each_more (λ v. 0 < (row_of_word v).len) ws w kept.full f;
        inside = each_more (λ v. (row_of_word v).start + (row_of_word v).len ≤ length t) ws w kept.inside i;
      }
