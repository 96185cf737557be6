-- Byte order on names, and level order on their levels, are total orders: one law over the order of the elements. Rests on the library alone.
use Rattle.listing_rules.proofs.Prelude.{◌∙◌, ◌≡◌, refl, List, [], ◌∷◌, Ordering, ordering_eq, ordering_gt, ordering_lt, ◌<◌, compare}
use Rattle.listing_rules.proofs.Prelude.{compare_suc_suc, compare_suc_zero, compare_zero_suc, compare_zero_zero, suc, zero, ℕ, arith}
use Rattle.listing_rules.specs.Orders.{lex_by, byte_order, then_by}
use Rattle.listing_rules.specs.Names.{level_order}

-- the other way round
abbrev pub swap : Ordering → Ordering
swap ordering_lt = ordering_gt
swap ordering_eq = ordering_eq
swap ordering_gt = ordering_lt

pub record Total {A : Type 0} (cmp : A → A → Ordering) : Type 0 where
  pub same : (a : A) → cmp a a ≡ ordering_eq
  pub equal : (a b : A) → cmp a b ≡ ordering_eq → a ≡ b
  pub turned : (a b : A) → cmp b a ≡ swap (cmp a b)
  pub trans : (a b c : A) → cmp a b ≡ ordering_lt → cmp b c ≡ ordering_lt → cmp a c ≡ ordering_lt

-- numbers
pub data View (x y : ℕ) : Type 0 where
  less : compare x y ≡ ordering_lt → x < y → View x y
  equal : compare x y ≡ ordering_eq → x ≡ y → View x y
  more : compare x y ≡ ordering_gt → y < x → View x y

up : (x y : ℕ) → View x y → View (suc x) (suc y)
up x y (less e h) = less (compare_suc_suc x y ∙ e) (omega arith)
up x y (equal e h) = equal (compare_suc_suc x y ∙ e) (omega arith)
up x y (more e h) = more (compare_suc_suc x y ∙ e) (omega arith)

pub view : (x y : ℕ) → View x y
view zero zero = equal compare_zero_zero refl
view zero (suc y) = less (compare_zero_suc y) (omega arith)
view (suc x) zero = more (compare_suc_zero x) (omega arith)
view (suc x) (suc y) = up x y (view x y)

pub lt_compare : (x y : ℕ) → x < y → compare x y ≡ ordering_lt
lt_compare x y h = go (view x y)
  where
    go : View x y → compare x y ≡ ordering_lt
    go (less e k) = e
    go (equal e k) = absurd (omega arith)
    go (more e k) = absurd (omega arith)

pub eq_compare : (x : ℕ) → compare x x ≡ ordering_eq
eq_compare zero = compare_zero_zero
eq_compare (suc x) = compare_suc_suc x x ∙ eq_compare x

pub gt_compare : (x y : ℕ) → y < x → compare x y ≡ ordering_gt
gt_compare x y h = go (view x y)
  where
    go : View x y → compare x y ≡ ordering_gt
    go (less e k) = absurd (omega arith)
    go (equal e k) = absurd (omega arith)
    go (more e k) = e

pub numbers_total : Total compare
numbers_total =
    record {
      same = eq_compare;
      equal = λ a b e. eq a b e (view a b);
      turned = λ a b. turn a b (view a b);
      trans = λ a b c p q. lt_compare a c (omega (arith, lt a b p (view a b), lt b c q (view b c)));
    }
  where
    eq : (a b : ℕ) → compare a b ≡ ordering_eq → View a b → a ≡ b
    eq a b e (less f h) = cc
    eq a b e (equal f h) = h
    eq a b e (more f h) = cc

    lt : (a b : ℕ) → compare a b ≡ ordering_lt → View a b → a < b
    lt a b e (less f h) = h
    lt a b e (equal f h) = absurd (let z : ◌≡◌ {A = ℕ} 0 1 = cc in omega arith)
    lt a b e (more f h) = absurd (let z : ◌≡◌ {A = ℕ} 0 1 = cc in omega arith)

    turn : (a b : ℕ) → View a b → compare b a ≡ swap (compare a b)
    turn a b (less f h) = rw (f, gt_compare b a h)
    turn a b (equal f h) = rw (f, h, eq_compare b)
    turn a b (more f h) = rw (f, lt_compare b a h)

-- an order that decides nothing more
pub then_by_eq : (o : Ordering) → then_by o ordering_eq ≡ o
unfolding then_by
then_by_eq ordering_lt = refl
then_by_eq ordering_eq = refl
then_by_eq ordering_gt = refl

-- lists, by the order of their elements
module _ {A : Type 0} (cmp : A → A → Ordering) (L : Total cmp) where
  lex_same : (a : List A) → lex_by cmp a a ≡ ordering_eq
  unfolding lex_by then_by
  lex_same [] = refl
  lex_same (x ∷ xs) = rw (L.same x) (lex_same xs)

  lex_equal : (a b : List A) → lex_by cmp a b ≡ ordering_eq → a ≡ b
  unfolding lex_by then_by
  lex_equal [] [] e = refl
  lex_equal [] (y ∷ ys) e = cc
  lex_equal (x ∷ xs) [] e = cc
  lex_equal (x ∷ xs) (y ∷ ys) e = go (cmp x y) refl e (lex_equal xs ys)
    where
      go : (o : Ordering) → cmp x y ≡ o → then_by o (lex_by cmp xs ys) ≡ ordering_eq → (lex_by cmp xs ys ≡ ordering_eq → xs ≡ ys) → Path (List A) (x ∷ xs) (y ∷ ys)
      go ordering_lt c k ih = cc
      go ordering_eq c k ih = let h : x ≡ y = L.equal x y c in let t : xs ≡ ys = ih k in cc
      go ordering_gt c k ih = cc

  lex_turned : (a b : List A) → lex_by cmp b a ≡ swap (lex_by cmp a b)
  unfolding lex_by then_by
  lex_turned [] [] = refl
  lex_turned [] (y ∷ ys) = refl
  lex_turned (x ∷ xs) [] = refl
  lex_turned (x ∷ xs) (y ∷ ys) = rw (L.turned x y) (go (cmp x y) (lex_turned xs ys))
    where
      go : (o : Ordering) → lex_by cmp ys xs ≡ swap (lex_by cmp xs ys) → then_by (swap o) (lex_by cmp ys xs) ≡ swap (then_by o (lex_by cmp xs ys))
      go ordering_lt ih = refl
      go ordering_eq ih = ih
      go ordering_gt ih = refl

  lex_trans : (a b c : List A) → lex_by cmp a b ≡ ordering_lt → lex_by cmp b c ≡ ordering_lt → lex_by cmp a c ≡ ordering_lt
  unfolding lex_by then_by
  lex_trans [] [] c p q = cc
  lex_trans [] (y ∷ ys) [] p q = cc
  lex_trans [] (y ∷ ys) (z ∷ zs) p q = refl
  lex_trans (x ∷ xs) [] c p q = cc
  lex_trans (x ∷ xs) (y ∷ ys) [] p q = cc
  lex_trans (x ∷ xs) (y ∷ ys) (z ∷ zs) p q = go (cmp x y) (cmp y z) refl refl p q (lex_trans xs ys zs)
    where
      go : (o u : Ordering) → cmp x y ≡ o → cmp y z ≡ u → then_by o (lex_by cmp xs ys) ≡ ordering_lt → then_by u (lex_by cmp ys zs) ≡ ordering_lt
          → (lex_by cmp xs ys ≡ ordering_lt → lex_by cmp ys zs ≡ ordering_lt → lex_by cmp xs zs ≡ ordering_lt)
          → then_by (cmp x z) (lex_by cmp xs zs) ≡ ordering_lt
      go ordering_lt ordering_lt d e p q ih = rw (L.trans x y z d e)
      go ordering_lt ordering_eq d e p q ih = rw (← L.equal y z e, d)
      go ordering_lt ordering_gt d e p q ih = cc
      go ordering_eq ordering_lt d e p q ih = rw (L.equal x y d, e)
      go ordering_eq ordering_eq d e p q ih = rw (L.equal x y d, e) (ih p q)
      go ordering_eq ordering_gt d e p q ih = cc
      go ordering_gt u d e p q ih = cc

  lex_total : Total (lex_by cmp)
  lex_total = record { same = lex_same; equal = lex_equal; turned = lex_turned; trans = lex_trans }

pub bytes_total : Total byte_order
unfolding byte_order
bytes_total = lex_total compare numbers_total

pub levels_total : Total level_order
unfolding level_order
levels_total = lex_total byte_order bytes_total
