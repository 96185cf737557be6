-- Ascending lists, and sorted insertion without repeats: its members and its order; an ascending list is decided by its members. Rests on Order.
use Rattle.listing_rules.proofs.Prelude.{◌∙◌, ◌≡◌, ap, refl, subst, sym, Bool, cond, false, true, ◌⊎◌, inl, inr, ⊎_elim, List, list_mem}
use Rattle.listing_rules.proofs.Prelude.{list_mem_cases_cons, list_mem_head, list_mem_not_nil, list_mem_tail, [], ◌++◌, ◌∷◌, Ordering}
use Rattle.listing_rules.proofs.Prelude.{ordering_eq, ordering_gt, ordering_lt, ◌≤◌, suc, ℕ, arith, length}
use Rattle.listing_rules.specs.Bytes.{same}
use Rattle.listing_rules.specs.Lists.{keep}
use Rattle.listing_rules.specs.Orders.{placed, insert, sorted, byte_order, is_lt, ascends_from, ascends}
use Rattle.listing_rules.proofs.Bools.{and_l, and_r}
use Rattle.listing_rules.proofs.ListLaws.{same_true}
use Rattle.listing_rules.proofs.Order.{swap, Total, bytes_total}

-- x is below each of the list
abbrev pub Above : {A : Type 0} → (A → A → Ordering) → A → List A → Type 0
Above cmp x [] = Unit {0}
Above cmp x (y ∷ ys) = (cmp x y ≡ ordering_lt) × Above cmp x ys

abbrev pub Asc : {A : Type 0} → (A → A → Ordering) → List A → Type 0
Asc cmp [] = Unit {0}
Asc cmp (x ∷ xs) = Above cmp x xs × Asc cmp xs

module _ {A : Type 0} (cmp : A → A → Ordering) (L : Total cmp) where
  gt_lt : (a b : A) → cmp a b ≡ ordering_gt → cmp b a ≡ ordering_lt
  gt_lt a b e = L.turned a b ∙ ap swap e

  pub irrefl : (a : A) → cmp a a ≡ ordering_lt → ⊥
  irrefl a e = clash (sym (L.same a) ∙ e)
    where
      code : Ordering → Type 0
      code ordering_lt = ⊥
      code ordering_eq = Unit {0}
      code ordering_gt = Unit {0}

      clash : ordering_eq ≡ ordering_lt → ⊥
      clash p = subst code p tt

  -- members
  mem_new : (x : A) (l : List A) → list_mem x (insert cmp x l)
  unfolding insert placed
  mem_new x [] = list_mem_head refl
  mem_new x (y ∷ ys) = go (cmp x y) refl (mem_new x ys)
    where
      go : (o : Ordering) → cmp x y ≡ o → list_mem x (insert cmp x ys) → list_mem x (placed o x y ys (insert cmp x ys))
      go ordering_lt e ih = list_mem_head refl
      go ordering_eq e ih = list_mem_head (L.equal x y e)
      go ordering_gt e ih = list_mem_tail ih

  mem_old : (x z : A) (l : List A) → list_mem z l → list_mem z (insert cmp x l)
  unfolding insert placed
  mem_old x z [] m = absurd (list_mem_not_nil m)
  mem_old x z (y ∷ ys) m = go (cmp x y) (mem_old x z ys) (list_mem_cases_cons m)
    where
      go : (o : Ordering) → (list_mem z ys → list_mem z (insert cmp x ys)) → (z ≡ y) ⊎ list_mem z ys → list_mem z (placed o x y ys (insert cmp x ys))
      go ordering_lt ih s = list_mem_tail m
      go ordering_eq ih s = m
      go ordering_gt ih (inl e) = list_mem_head e
      go ordering_gt ih (inr k) = list_mem_tail (ih k)

  mem_cases : (x z : A) (l : List A) → list_mem z (insert cmp x l) → (z ≡ x) ⊎ list_mem z l
  unfolding insert placed
  mem_cases x z [] m = list_mem_cases_cons m
  mem_cases x z (y ∷ ys) m = go (cmp x y) (mem_cases x z ys) m
    where
      deeper : (z ≡ x) ⊎ list_mem z ys → (z ≡ x) ⊎ list_mem z (y ∷ ys)
      deeper (inl e) = inl e
      deeper (inr k) = inr (list_mem_tail k)

      go : (o : Ordering) → (list_mem z (insert cmp x ys) → (z ≡ x) ⊎ list_mem z ys) → list_mem z (placed o x y ys (insert cmp x ys)) → (z ≡ x) ⊎ list_mem z (y ∷ ys)
      go ordering_lt ih k = list_mem_cases_cons k
      go ordering_eq ih k = inr k
      go ordering_gt ih k = ⊎_elim (λ e. inr (list_mem_head e)) (λ j. deeper (ih j)) (list_mem_cases_cons k)

  -- order
  pub above_mem : (w z : A) (l : List A) → Above cmp w l → list_mem z l → cmp w z ≡ ordering_lt
  above_mem w z [] a m = absurd (list_mem_not_nil m)
  above_mem w z (y ∷ ys) a m = ⊎_elim (λ e. rw e a.0) (above_mem w z ys a.1) (list_mem_cases_cons m)

  pub above_trans : (w x : A) (l : List A) → cmp w x ≡ ordering_lt → Above cmp x l → Above cmp w l
  above_trans w x [] e a = tt
  above_trans w x (y ∷ ys) e a = (L.trans w x y e a.0, above_trans w x ys e a.1)

  above_insert : (w x : A) (l : List A) → cmp w x ≡ ordering_lt → Above cmp w l → Above cmp w (insert cmp x l)
  unfolding insert placed
  above_insert w x [] e a = (e, tt)
  above_insert w x (y ∷ ys) e a = go (cmp x y) (above_insert w x ys e a.1)
    where
      go : (o : Ordering) → Above cmp w (insert cmp x ys) → Above cmp w (placed o x y ys (insert cmp x ys))
      go ordering_lt ih = (e, a)
      go ordering_eq ih = a
      go ordering_gt ih = (a.0, ih)

  asc_insert : (x : A) (l : List A) → Asc cmp l → Asc cmp (insert cmp x l)
  unfolding insert placed
  asc_insert x [] s = (tt, tt)
  asc_insert x (y ∷ ys) s = go (cmp x y) refl (asc_insert x ys s.1)
    where
      go : (o : Ordering) → cmp x y ≡ o → Asc cmp (insert cmp x ys) → Asc cmp (placed o x y ys (insert cmp x ys))
      go ordering_lt e ih = ((e, above_trans x y ys e s.0), s)
      go ordering_eq e ih = s
      go ordering_gt e ih = (above_insert y x ys (gt_lt x y e) s.0, ih)

  pub asc_sorted : (l : List A) → Asc cmp (sorted cmp l)
  unfolding sorted
  asc_sorted [] = tt
  asc_sorted (x ∷ xs) = asc_insert x (sorted cmp xs) (asc_sorted xs)

  pub sorted_mem : (z : A) (l : List A) → list_mem z l → list_mem z (sorted cmp l)
  unfolding sorted
  sorted_mem z [] m = m
  sorted_mem z (x ∷ xs) m = go (sorted_mem z xs) (list_mem_cases_cons m)
    where
      go : (list_mem z xs → list_mem z (sorted cmp xs)) → (z ≡ x) ⊎ list_mem z xs → list_mem z (insert cmp x (sorted cmp xs))
      go ih (inl e) = rw e (mem_new x (sorted cmp xs))
      go ih (inr k) = mem_old x z (sorted cmp xs) (ih k)

  pub mem_sorted : (z : A) (l : List A) → list_mem z (sorted cmp l) → list_mem z l
  unfolding sorted
  mem_sorted z [] m = m
  mem_sorted z (x ∷ xs) m = ⊎_elim (λ e. list_mem_head e) (λ k. list_mem_tail (mem_sorted z xs k)) (mem_cases x z (sorted cmp xs) m)

  -- an ascending list is decided by its members
  heads : (x y : A) (xs ys : List A) → Above cmp x xs → Above cmp y ys → (x ≡ y) ⊎ list_mem x ys → (y ≡ x) ⊎ list_mem y xs → x ≡ y
  heads x y xs ys a b (inl e) q = e
  heads x y xs ys a b (inr m) (inl e) = sym e
  heads x y xs ys a b (inr m) (inr k) = absurd (irrefl x (L.trans x y x (above_mem x y xs a k) (above_mem y x ys b m)))

  pub decided : (l m : List A) → Asc cmp l → Asc cmp m → ((z : A) → list_mem z l → list_mem z m) → ((z : A) → list_mem z m → list_mem z l) → l ≡ m
  decided [] [] s t f g = refl
  decided [] (y ∷ ys) s t f g = absurd (list_mem_not_nil (g y (list_mem_head refl)))
  decided (x ∷ xs) [] s t f g = absurd (list_mem_not_nil (f x (list_mem_head refl)))
  decided (x ∷ xs) (y ∷ ys) s t f g = go (decided xs ys s.1 t.1)
    where
      same_head : x ≡ y
      same_head = heads x y xs ys s.0 t.0 (list_mem_cases_cons (f x (list_mem_head refl))) (list_mem_cases_cons (g y (list_mem_head refl)))

      left : (z : A) → list_mem z xs → list_mem z ys
      left z k =
          ⊎_elim (λ e. absurd (irrefl x (subst (λ (w : A). cmp x w ≡ ordering_lt) (e ∙ sym same_head) (above_mem x z xs s.0 k)))) (λ j. j) (list_mem_cases_cons (f z (list_mem_tail k)))

      right : (z : A) → list_mem z ys → list_mem z xs
      right z k =
          ⊎_elim (λ e. absurd (irrefl y (subst (λ (w : A). cmp y w ≡ ordering_lt) (e ∙ same_head) (above_mem y z ys t.0 k)))) (λ j. j) (list_mem_cases_cons (g z (list_mem_tail k)))

      go : (((z : A) → list_mem z xs → list_mem z ys) → ((z : A) → list_mem z ys → list_mem z xs) → xs ≡ ys) → Path (List A) (x ∷ xs) (y ∷ ys)
      go ih = let tails : xs ≡ ys = ih left right in rw (same_head, tails)

  -- an ascending list whose members all stand in another is no longer than that
  pub pigeons : (l m : List A) → Asc cmp l → Asc cmp m → ((z : A) → list_mem z l → list_mem z m) → length l ≤ length m
  pigeons [] m s t f = omega arith
  pigeons (x ∷ xs) [] s t f = absurd (list_mem_not_nil (f x (list_mem_head refl)))
  pigeons (x ∷ xs) (y ∷ ys) s t f = go (list_mem_cases_cons (f x (list_mem_head refl))) (pigeons xs ys s.1 t.1) (pigeons (x ∷ xs) ys s t.1)
    where
      go : (x ≡ y) ⊎ list_mem x ys → (((z : A) → list_mem z xs → list_mem z ys) → length xs ≤ length ys)
          → (((z : A) → list_mem z (x ∷ xs) → list_mem z ys) → suc (length xs) ≤ length ys) → suc (length xs) ≤ suc (length ys)
      go (inl e) ih jh =
          let r = ih (λ z m. ⊎_elim (λ p. absurd (irrefl x (subst (λ (w : A). cmp x w ≡ ordering_lt) (p ∙ sym e) (above_mem x z xs s.0 m))))
          (λ k. k) (list_mem_cases_cons (f z (list_mem_tail m)))) in
          omega arith
      go (inr k) ih jh =
          let y<x = above_mem y x ys t.0 k in
          let r = jh (λ z m. ⊎_elim (λ p. absurd (irrefl y (subst (λ (w : A). cmp y w ≡ ordering_lt) p (past z y<x (list_mem_cases_cons m))))) (λ j. j) (list_mem_cases_cons (f z m))) in
          omega arith
        where
          past : (z : A) → cmp y x ≡ ordering_lt → (z ≡ x) ⊎ list_mem z xs → cmp y z ≡ ordering_lt
          past z l (inl p) = rw p l
          past z l (inr m) = L.trans y x z l (above_mem x z xs s.0 m)

-- ascending lists that are cut down or put one behind the other, and the same list by another order
module _ {A : Type 0} (cmp : A → A → Ordering) where
  above_keep : (p : A → Bool) (w : A) (l : List A) → Above cmp w l → Above cmp w (keep p l)
  unfolding keep
  above_keep p w [] a = tt
  above_keep p w (x ∷ l) a = pick (p x) (above_keep p w l a.1)
    where
      pick : (o : Bool) → Above cmp w (keep p l) → Above cmp w (cond o (x ∷ keep p l) (keep p l))
      pick true ih = (a.0, ih)
      pick false ih = ih

  pub asc_keep : (p : A → Bool) (l : List A) → Asc cmp l → Asc cmp (keep p l)
  unfolding keep
  asc_keep p [] s = tt
  asc_keep p (x ∷ l) s = pick (p x) (asc_keep p l s.1)
    where
      pick : (o : Bool) → Asc cmp (keep p l) → Asc cmp (cond o (x ∷ keep p l) (keep p l))
      pick true ih = (above_keep p x l s.0, ih)
      pick false ih = ih

  pub asc_other : (d : A → A → Ordering) (l : List A) → ((x y : A) → list_mem x l → list_mem y l → cmp x y ≡ ordering_lt → d x y ≡ ordering_lt) → Asc cmp l → Asc d l
  asc_other d [] f s = tt
  asc_other d (x ∷ l) f s =
      (above d x l (λ y m. f x y (list_mem_head refl) (list_mem_tail m)) s.0, asc_other d l (λ y z m n. f y z (list_mem_tail m) (list_mem_tail n)) s.1)
    where
      above : (d : A → A → Ordering) (x : A) (l : List A) → ((y : A) → list_mem y l → cmp x y ≡ ordering_lt → d x y ≡ ordering_lt) → Above cmp x l → Above d x l
      above d x [] f a = tt
      above d x (y ∷ l) f a = (f y (list_mem_head refl) a.0, above d x l (λ z m. f z (list_mem_tail m)) a.1)

  pub above_append : (w : A) (xs ys : List A) → Above cmp w xs → Above cmp w ys → Above cmp w (xs ++ ys)
  above_append w [] ys a b = b
  above_append w (x ∷ xs) ys a b = (a.0, above_append w xs ys a.1 b)

  pub above_all : (w : A) (ys : List A) → ((y : A) → list_mem y ys → cmp w y ≡ ordering_lt) → Above cmp w ys
  above_all w [] h = tt
  above_all w (y ∷ ys) h = (h y (list_mem_head refl), above_all w ys (λ z m. h z (list_mem_tail m)))

  pub asc_append : (xs ys : List A) → Asc cmp xs → Asc cmp ys → ((x y : A) → list_mem x xs → list_mem y ys → cmp x y ≡ ordering_lt) → Asc cmp (xs ++ ys)
  asc_append [] ys a b h = b
  asc_append (x ∷ xs) ys a b h =
      (above_append x xs ys a.0 (above_all x ys (λ y m. h x y (list_mem_head refl) m)), asc_append xs ys a.1 b (λ z y m k. h z y (list_mem_tail m) k))

  insert_length : (x : A) (l : List A) → length (insert cmp x l) ≤ suc (length l)
  unfolding insert placed
  insert_length x [] = omega arith
  insert_length x (y ∷ l) = pick (cmp x y) (insert_length x l)
    where
      pick : (u : Ordering) → length (insert cmp x l) ≤ suc (length l) → length (placed u x y l (insert cmp x l)) ≤ suc (suc (length l))
      pick ordering_lt h = omega arith
      pick ordering_eq h = omega arith
      pick ordering_gt h = omega arith

  pub sorted_length : (l : List A) → length (sorted cmp l) ≤ length l
  unfolding sorted
  sorted_length [] = omega arith
  sorted_length (x ∷ l) = omega (arith, insert_length x (sorted cmp l), sorted_length l)

-- the test that names strictly ascend by bytes
pub lt_true : (o : Ordering) → is_lt o ≡ true → o ≡ ordering_lt
unfolding is_lt
lt_true ordering_lt e = refl
lt_true ordering_eq e = cc
lt_true ordering_gt e = cc

pub order_trans : (a b c : List ℕ) → is_lt (byte_order a b) ≡ true → is_lt (byte_order b c) ≡ true → is_lt (byte_order a c) ≡ true
unfolding is_lt
order_trans a b c p q = ap is_lt (bytes_total.trans a b c (lt_true (byte_order a b) p) (lt_true (byte_order b c) q))

-- a name that comes before another is not the same
pub before_other : (a n : List ℕ) → is_lt (byte_order a n) ≡ true → same a n ≡ false
before_other a n e = go (same a n) refl
  where
    go : (o : Bool) → same a n ≡ o → o ≡ false
    go true h = absurd (irrefl byte_order bytes_total n (subst (λ (z : List ℕ). byte_order z n ≡ ordering_lt) (same_true a n h) (lt_true (byte_order a n) e)))
    go false h = refl

ascends_from_lem : (x : List ℕ) (l : List (List ℕ)) → ascends_from x l ≡ true → Asc byte_order (x ∷ l)
unfolding ascends_from
ascends_from_lem x [] h = (tt, tt)
ascends_from_lem x (y ∷ l) h =
    let e = lt_true (byte_order x y) (and_l (is_lt (byte_order x y)) (ascends_from y l) h) in
    let s = ascends_from_lem y l (and_r (is_lt (byte_order x y)) (ascends_from y l) h) in
    ((e, above_trans byte_order bytes_total x y l e s.0), s)

pub ascends_asc : (l : List (List ℕ)) → ascends l ≡ true → Asc byte_order l
unfolding ascends
ascends_asc [] h = tt
ascends_asc (x ∷ l) h = ascends_from_lem x l h
