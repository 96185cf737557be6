-- The order by bytes and the order by places that differ, and lists sorted by an order.
use Rattle.std.specs.Prelude.{List, [], ◌∷◌, Bool, true, false, ◌&&◌}
use Prim.Native.Nat.{ℕ, compare, Ordering}

-- the first order decides, and where it does not, the second
unfoldable pub then_by : Ordering → Ordering → Ordering
then_by Ordering.lt o = Ordering.lt
then_by Ordering.eq o = o
then_by Ordering.gt o = Ordering.gt

-- the first place that differs decides, a prefix first
unfoldable pub lex_by : {A : Type 0} → (A → A → Ordering) → List A → List A → Ordering
lex_by cmp [] [] = Ordering.eq
lex_by cmp [] (y ∷ ys) = Ordering.lt
lex_by cmp (x ∷ xs) [] = Ordering.gt
lex_by cmp (x ∷ xs) (y ∷ ys) = let r = lex_by cmp xs ys in then_by (cmp x y) r

-- "by bytes, a prefix first"
unfoldable pub byte_order : List ℕ → List ℕ → Ordering
byte_order a b = lex_by compare a b

unfoldable pub is_lt : Ordering → Bool
is_lt Ordering.lt = true
is_lt Ordering.eq = false
is_lt Ordering.gt = false

-- "names strictly ascend by bytes, a prefix first": each is below the next, x being the one before the first
unfoldable pub ascends_from : List ℕ → List (List ℕ) → Bool
ascends_from x [] = true
ascends_from x (y ∷ ys) = is_lt (byte_order x y) && ascends_from y ys

unfoldable pub ascends : List (List ℕ) → Bool
ascends [] = true
ascends (x ∷ xs) = ascends_from x xs

-- a thing put into an ascending list at its place, and not again if it is there
unfoldable pub placed : {A : Type 0} → Ordering → A → A → List A → List A → List A
placed Ordering.lt x y ys r = x ∷ y ∷ ys
placed Ordering.eq x y ys r = y ∷ ys
placed Ordering.gt x y ys r = y ∷ r

unfoldable pub insert : {A : Type 0} → (A → A → Ordering) → A → List A → List A
insert cmp x [] = x ∷ []
insert cmp x (y ∷ ys) = let r = insert cmp x ys in placed (cmp x y) x y ys r

-- the different members of a list, ascending
unfoldable pub sorted : {A : Type 0} → (A → A → Ordering) → List A → List A
sorted cmp [] = []
sorted cmp (x ∷ xs) = insert cmp x (sorted cmp xs)
