-- How far two names are alike, and what that says of their order. Rests on the order of bytes in listing_rules.
use Rattle.std.specs.Prelude.{Option, Some, None, MatchOption}
use Rattle.std.specs.Option.{option_partial_cmp}
use Rattle.std.specs.Ordering as Ordering
use Rattle.std.specs.Ordering.{nat_cmp, partial_lt}
use Rattle.std.specs.List.{HoldsAt}
use Rattle.std.proofs.lemmas.Bool.Decides.{nat_tests}
use denote.Ref.{Bor}
use Rattle.listing_rules.proofs.Prelude.{◌∙◌, ◌≡◌, ap, refl, sym, Bool, cond, false, false≢true, true, ◌⊎◌, inl, inr, List, [], ◌∷◌, ◌+◌, ◌<◌, ◌≤◌}
use Rattle.listing_rules.proofs.Prelude.{compare, min, suc, ℕ, add-zero, add-one, dec_le, arith, eqb, ltb, drop, drop_of_length-le, get_or, length}
use Rattle.listing_rules.proofs.Prelude.{drop-cons, eq-eqb, eqb-false, eqb-true, le-ltb, lt-ltb, ne_eqb}
use Rattle.listing_rules.specs.Orders.{lex_by, byte_order, then_by, is_lt}
use Rattle.listing_rules.proofs.Order.{View, less, equal, more, view, eq_compare}
use Rattle.mailbox_table.specs.Shared.{shared_len}

-- two names with the same first byte
module _ (x y : ℕ) (a b : List ℕ) where
  pub order_same : eqb x y ≡ true → byte_order (x ∷ a) (y ∷ b) ≡ byte_order a b
  unfolding byte_order lex_by then_by
  order_same e = rw (eqb-true x y e, eq_compare y)

  pub shared_same : eqb x y ≡ true → shared_len (x ∷ a) (y ∷ b) ≡ suc (shared_len a b)
  unfolding shared_len
  shared_same e = rw e

  -- two names with another first byte
  pub order_other : eqb x y ≡ false → is_lt (byte_order (x ∷ a) (y ∷ b)) ≡ ltb x y
  unfolding byte_order lex_by then_by is_lt
  order_other e = go (view x y)
    where
      go : View x y → is_lt (then_by (compare x y) (lex_by compare a b)) ≡ ltb x y
      go (less k h) = rw (k, lt-ltb x y h)
      go (equal k h) = absurd (eqb-false x y e h)
      go (more k h) = rw (k, le-ltb x y (omega arith))

  pub shared_other : eqb x y ≡ false → shared_len (x ∷ a) (y ∷ b) ≡ 0
  unfolding shared_len
  shared_other e = rw e

pub shared_nil_l : (b : List ℕ) → shared_len [] b ≡ 0
unfolding shared_len
shared_nil_l b = refl

shared_le_l : (a b : List ℕ) → shared_len a b ≤ length a
unfolding shared_len
shared_le_l [] b = omega arith
shared_le_l (x ∷ a) [] = omega arith
shared_le_l (x ∷ a) (y ∷ b) = go (eqb x y) (shared_le_l a b)
  where
    go : (o : Bool) → shared_len a b ≤ length a → cond o (suc (shared_len a b)) 0 ≤ suc (length a)
    go true h = omega arith
    go false h = omega arith

pub shared_le_r : (a b : List ℕ) → shared_len a b ≤ length b
unfolding shared_len
shared_le_r [] b = omega arith
shared_le_r (x ∷ a) [] = omega arith
shared_le_r (x ∷ a) (y ∷ b) = go (eqb x y) (shared_le_r a b)
  where
    go : (o : Bool) → shared_len a b ≤ length b → cond o (suc (shared_len a b)) 0 ≤ suc (length b)
    go true h = omega arith
    go false h = omega arith

shared_nil : (a : List ℕ) → shared_len a [] ≡ 0
unfolding shared_len
shared_nil [] = refl
shared_nil (x ∷ a) = refl

-- a loop over the bytes that are alike
module _ (a b : List ℕ) (i : ℕ) where
  pub shared_more : i < length a → i < length b → get_or a i 0 ≡ get_or b i 0 → i + shared_len (drop i a) (drop i b) ≡ i + 1 + shared_len (drop (i + 1) a) (drop (i + 1) b)
  shared_more h k e =
      rw
      (add-one i, drop-cons a i 0 h, drop-cons b i 0 k, shared_same (get_or a i 0) (get_or b i 0) (drop (suc i) a) (drop (suc i) b) (eq-eqb (get_or a i 0) (get_or b i 0) e))
      (omega arith)

  pub shared_stop : i < length a → i < length b → (get_or a i 0 ≡ get_or b i 0 → ⊥) → i + shared_len (drop i a) (drop i b) ≡ i
  shared_stop h k e =
      rw
      (drop-cons a i 0 h, drop-cons b i 0 k, shared_other (get_or a i 0) (get_or b i 0) (drop (suc i) a) (drop (suc i) b) (ne_eqb (get_or a i 0) (get_or b i 0) e))
      (add-zero i)

  pub least : min (length a) (length b) ≤ i → (length a ≤ i) ⊎ (length b ≤ i)
  least h = go (dec_le (length a) i)
    where
      go : Dec (length a ≤ i) → (length a ≤ i) ⊎ (length b ≤ i)
      go (yes k) = inl k
      go (no k) = inr (omega arith)

  pub shared_out : (length a ≤ i) ⊎ (length b ≤ i) → i + shared_len (drop i a) (drop i b) ≡ i
  unfolding shared_len
  shared_out (inl h) = rw (drop_of_length-le a h) (add-zero i)
  shared_out (inr h) = rw (drop_of_length-le b h, shared_nil (drop i a)) (add-zero i)

-- a prefix first
order_nil_nil : is_lt (byte_order [] []) ≡ false
unfolding byte_order lex_by is_lt
order_nil_nil = refl

pub order_nil_cons : (y : ℕ) (b : List ℕ) → is_lt (byte_order [] (y ∷ b)) ≡ true
unfolding byte_order lex_by is_lt
order_nil_cons y b = refl

pub order_cons_nil : (x : ℕ) (a : List ℕ) → is_lt (byte_order (x ∷ a) []) ≡ false
unfolding byte_order lex_by is_lt
order_cons_nil x a = refl

pub order_to_nil : (a : List ℕ) → is_lt (byte_order a []) ≡ false
order_to_nil [] = order_nil_nil
order_to_nil (x ∷ a) = order_cons_nil x a

-- the first place where the two differ decides
pub order_ends : (a b : List ℕ) → length b ≤ shared_len a b → is_lt (byte_order a b) ≡ false
order_ends a [] h = order_to_nil a
order_ends [] (y ∷ b) h = absurd (omega (arith, shared_le_l [] (y ∷ b)))
order_ends (x ∷ a) (y ∷ b) h = go (eqb x y) refl (order_ends a b)
  where
    go : (o : Bool) → eqb x y ≡ o → (length b ≤ shared_len a b → is_lt (byte_order a b) ≡ false) → is_lt (byte_order (x ∷ a) (y ∷ b)) ≡ false
    go true e ih = rw (order_same x y a b e) (ih (omega (arith, shared_same x y a b e)))
    go false e ih = absurd (omega (arith, shared_other x y a b e))

pub order_begins : (a b : List ℕ) → length a ≤ shared_len a b → shared_len a b < length b → is_lt (byte_order a b) ≡ true
order_begins a [] h k = absurd (omega arith)
order_begins [] (y ∷ b) h k = order_nil_cons y b
order_begins (x ∷ a) (y ∷ b) h k = go (eqb x y) refl (order_begins a b)
  where
    go : (o : Bool) → eqb x y ≡ o → (length a ≤ shared_len a b → shared_len a b < length b → is_lt (byte_order a b) ≡ true) → is_lt (byte_order (x ∷ a) (y ∷ b)) ≡ true
    go true e ih = rw (order_same x y a b e) (ih (omega (arith, shared_same x y a b e)) (omega (arith, shared_same x y a b e)))
    go false e ih = absurd (omega (arith, shared_other x y a b e))

pub order_differs : (a b : List ℕ) → shared_len a b < length a → shared_len a b < length b → is_lt (byte_order a b) ≡ ltb (get_or a (shared_len a b) 0) (get_or b (shared_len a b) 0)
order_differs a [] h k = absurd (omega arith)
order_differs [] (y ∷ b) h k = absurd (omega arith)
order_differs (x ∷ a) (y ∷ b) h k = go (eqb x y) refl (order_differs a b)
  where
    go : (o : Bool) → eqb x y ≡ o
        → (shared_len a b < length a → shared_len a b < length b → is_lt (byte_order a b) ≡ ltb (get_or a (shared_len a b) 0) (get_or b (shared_len a b) 0))
        → is_lt (byte_order (x ∷ a) (y ∷ b)) ≡ ltb (get_or (x ∷ a) (shared_len (x ∷ a) (y ∷ b)) 0) (get_or (y ∷ b) (shared_len (x ∷ a) (y ∷ b)) 0)
    go true e ih = rw (order_same x y a b e, shared_same x y a b e) (ih (omega (arith, shared_same x y a b e)) (omega (arith, shared_same x y a b e)))
    go false e ih = rw (order_other x y a b e, shared_other x y a b e)

-- where both are read behind what they share: nothing stands before a byte, and of two bytes the less stands first
pub order_decides : (a b : List ℕ) (s : ℕ) → s ≡ shared_len a b → (x y : Option (Bor ℕ))
    → MatchOption x (length a ≤ s) (λ v. (s < length a) × HoldsAt (λ z. v.now ≡ z) a s)
    → MatchOption y (length b ≤ s) (λ v. (s < length b) × HoldsAt (λ z. v.now ≡ z) b s)
    → partial_lt (option_partial_cmp (λ (v w : Bor ℕ). Some (nat_cmp v.now w.now))) x y ≡ is_lt (byte_order a b)
order_decides a b s e None None h k = sym (order_ends a b (omega (arith, e)))
order_decides a b s e (Some v) None h k = sym (order_ends a b (omega (arith, e)))
order_decides a b s e None (Some w) h k = sym (order_begins a b (omega (arith, e)) (omega (arith, e)))
order_decides a b s e (Some v) (Some w) h k =
    less_first v.now w.now
    ∙ (λ i. ltb (h.1 0 i) (k.1 0 i))
    ∙ ap (λ (n : ℕ). ltb (get_or a n 0) (get_or b n 0)) e ∙ sym (order_differs a b (omega (arith, e)) (omega (arith, e)))
  where
    less_first : (m n : ℕ) → Ordering.is_lt (nat_cmp m n) ≡ ltb m n
    less_first m n = grind (arith, nat_tests)

-- of two names that ascend, the second goes on behind what they share
pub ascending_goes_on : (a b : List ℕ) → is_lt (byte_order a b) ≡ true → shared_len a b < length b
ascending_goes_on a b e = go (dec_le (length b) (shared_len a b))
  where
    go : Dec (length b ≤ shared_len a b) → shared_len a b < length b
    go (yes h) = absurd (false≢true (sym (order_ends a b h) ∙ e))
    go (no h) = omega arith
