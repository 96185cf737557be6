-- The rows of an index by their places. Rests on SharedLaws and BelowLaws.
use Rattle.listing_rules.proofs.Prelude.{◌≡◌, ap, refl, subst, true, List, [], ◌∷◌, ◌+◌, ◌-◌, ◌<◌, ◌≤◌, suc, zero, ℕ, arith, drop, get_or, length}
use Rattle.listing_rules.proofs.Prelude.{length-drop, length-take}
use Rattle.listing_rules.specs.Orders.{byte_order, is_lt}
use Rattle.listing_rules.specs.Table.{names}
use Rattle.mailbox_table.specs.Shared.{shared_len}
use Rattle.mailbox_table.specs.Index.{name_at, nth_row, nth_name, row_at_word, rows_at, Indexed}
use Rattle.mailbox_table.proofs.SharedLaws.{ascending_goes_on}
use Rattle.mailbox_table.proofs.BelowLaws.{ascends_at}

pub rows_length : (area words : List ℕ) → length (rows_at area words) ≡ length words
rows_length area [] = refl
rows_length area (w ∷ ws) = ap suc (rows_length area ws)

pub names_length_lem : (area words : List ℕ) → length (names (rows_at area words)) ≡ length words
unfolding names
names_length_lem area [] = refl
names_length_lem area (w ∷ ws) = ap suc (names_length_lem area ws)

-- the name at a place, and the rows from a place on
pub name_at_lem : (area words : List ℕ) (k : ℕ) → k < length words → get_or (names (rows_at area words)) k [] ≡ nth_name area words k
unfolding names
name_at_lem area [] k h = absurd (omega arith)
name_at_lem area (w ∷ ws) zero h = refl
name_at_lem area (w ∷ ws) (suc k) h = name_at_lem area ws k (omega arith)

pub rows_cons : (area words : List ℕ) (k : ℕ) → k < length words → drop k (rows_at area words) ≡ row_at_word area (get_or words k 0) ∷ drop (suc k) (rows_at area words)
rows_cons area [] k h = absurd (omega arith)
rows_cons area (w ∷ ws) zero h = refl
rows_cons area (w ∷ ws) (suc k) h = rows_cons area ws k (omega arith)

module _ {area words : List ℕ} (x : Indexed area words) where
  -- a name is as long as its word says
  pub name_length : (k : ℕ) → k < length words → length (nth_name area words k) ≡ (nth_row words k).len
  unfolding name_at
  name_length k h = simp (length-take, length-drop) (omega (arith, x.inside k h))

  -- names ascend, by their places
  pub names_ascend : (j k : ℕ) → j < k → k < length words → is_lt (byte_order (nth_name area words j) (nth_name area words k)) ≡ true
  names_ascend j k h g =
      subst (λ (n : List ℕ). is_lt (byte_order n (nth_name area words k)) ≡ true) (name_at_lem area words j (omega arith))
      (subst (λ (n : List ℕ). is_lt (byte_order (get_or (names (rows_at area words)) j []) n) ≡ true) (name_at_lem area words k g)
      (ascends_at (names (rows_at area words)) j k x.ascend h (omega (arith, names_length_lem area words))))

  -- what a word says that its name shares with the name before
  pub shared_at : (k : ℕ) → 1 ≤ k → k < length words → (nth_row words k).shared ≡ shared_len (nth_name area words (k - 1)) (nth_name area words k)
  shared_at k g h = let e : k - 1 + 1 ≡ k = omega arith in rw e at (x.shares (k - 1) (omega arith))

  -- a name goes on behind what it shares with the name before
  pub shares_less : (k : ℕ) → k < length words → (nth_row words k).shared < (nth_row words k).len
  shares_less zero h = omega (arith, x.first, x.full 0 h)
  shares_less (suc k) h =
      omega (
        arith,
        name_length (suc k) h,
        shared_at (suc k) (omega arith) h,
        ascending_goes_on (nth_name area words (suc k - 1)) (nth_name area words (suc k)) (names_ascend (suc k - 1) (suc k) (omega arith) h),
      )
