-- The levels of a name and of its child; walk order between the children that two names of one depth have. Rests on Order and Percent.
use Rattle.listing_rules.proofs.Prelude.{◌∙◌, ◌≡◌, ap, refl, sym, Bool, cond, false, not, true, ◌⊎◌, inl, inr, List, [], ◌++◌, ◌∷◌, Ordering}
use Rattle.listing_rules.proofs.Prelude.{ordering_eq, ordering_gt, ordering_lt, ◌+◌, compare, ℕ, arith, eqb, length, length-append, eq-eqb}
use Rattle.listing_rules.proofs.Prelude.{eqb-true, not-true}
use Rattle.listing_rules.specs.Bytes.{all, slash}
use Rattle.listing_rules.proofs.Keys.{open_bytes}
use Rattle.listing_rules.specs.Lists.{on_first}
use Rattle.listing_rules.specs.Orders.{lex_by, byte_order, then_by}
use Rattle.listing_rules.specs.Names.{below, levels, level_order, walk_order}
use Rattle.listing_rules.proofs.Bools.{and_l, and_r, and_i}
use Rattle.listing_rules.proofs.Order.{Total, numbers_total, levels_total, eq_compare, then_by_eq}
use Rattle.listing_rules.proofs.Percent.{one_level}

-- a name, or any bytes in its place
abbrev pub Name : Type 0
Name = List ℕ

pub levels_cons : (a : List ℕ) → (l : List ℕ) × (ls : List (List ℕ)) × (levels a ≡ l ∷ ls)
unfolding levels on_first
levels_cons [] = ([], [], refl)
levels_cons (b ∷ a) = go (eqb b slash) (levels_cons a)
  where
    go : (o : Bool) → (l : List ℕ) × (ls : List (List ℕ)) × (levels a ≡ l ∷ ls) → (l : List ℕ) × (ls : List (List ℕ)) × (cond o ([] ∷ levels a) (on_first b (levels a)) ≡ l ∷ ls)
    go true w = ([], levels a, refl)
    go false w = (b ∷ w.0, w.1, rw w.2)

on_first_append : (b : ℕ) (ls ms : List (List ℕ)) → (l : List ℕ) × (ks : List (List ℕ)) × (ls ≡ l ∷ ks) → on_first b (ls ++ ms) ≡ on_first b ls ++ ms
unfolding on_first
on_first_append b ls ms w = rw w.2

pub levels_append : (a m : List ℕ) → levels (a ++ (slash ∷ m)) ≡ levels a ++ levels m
unfolding levels slash
levels_append [] m = refl
levels_append (b ∷ a) m = go (eqb b slash) (levels_append a m)
  where
    go : (o : Bool) → levels (a ++ (slash ∷ m)) ≡ levels a ++ levels m
        → cond o ([] ∷ levels (a ++ (slash ∷ m))) (on_first b (levels (a ++ (slash ∷ m)))) ≡ cond o ([] ∷ levels a) (on_first b (levels a)) ++ levels m
    go true ih = ap (λ (x : List (List ℕ)). [] ∷ x) ih
    go false ih = ap (on_first b) ih ∙ on_first_append b (levels a) (levels m) (levels_cons a)

pub levels_one : (x : List ℕ) → one_level x ≡ true → levels x ≡ x ∷ []
unfolding levels on_first open_bytes
levels_one [] h = refl
levels_one (b ∷ x) h =
    rw (not-true (eqb b slash) (and_l (not (eqb b slash)) (one_level x) h), levels_one x (and_r (not (eqb b slash)) (one_level x) h))

-- the child of a with this last level
abbrev pub child : List ℕ → List ℕ → List ℕ
child a x = a ++ (slash ∷ x)

-- e is a child of a
abbrev pub ChildOf : Name → Name → Type 0
ChildOf a e = (x : Name) × (e ≡ child a x) × (one_level x ≡ true)

-- a name has one level, or is a child
abbrev pub TopOrChild : Name → Type 0
TopOrChild z = (one_level z ≡ true) ⊎ ((p : Name) × (x : Name) × (z ≡ child p x) × (one_level x ≡ true))

pub parent : (z : Name) → TopOrChild z
unfolding all
parent [] = inl refl
parent (b ∷ z) = pick (eqb b slash) refl (parent z)
  where
    pick : (c : Bool) → eqb b slash ≡ c → TopOrChild z → TopOrChild (b ∷ z)
    pick true e (inl h) = inr ([], z, ap (λ (c : ℕ). c ∷ z) (eqb-true b slash e), h)
    pick false e (inl h) = inl (rw e h)
    pick c e (inr w) = inr (b ∷ w.0, w.1, ap (λ (y : Name). b ∷ y) w.2, w.3)

pub below_child : (p x : Name) → below p (child p x) ≡ true
unfolding below open_bytes
below_child [] x = refl
below_child (b ∷ p) x = and_i (eqb b b) (below p (child p x)) (eq-eqb b b refl) (below_child p x)

pub levels_child : (a x : List ℕ) → one_level x ≡ true → levels (child a x) ≡ levels a ++ (x ∷ [])
levels_child a x h = levels_append a x ∙ ap (λ (y : List (List ℕ)). levels a ++ y) (levels_one x h)

-- lists that differ first in their last element
lex_snoc : {A : Type 0} (cmp : A → A → Ordering) (p q : List A) (x y : A) → length p ≡ length q → lex_by cmp (p ++ (x ∷ [])) (q ++ (y ∷ [])) ≡ then_by (lex_by cmp p q) (cmp x y)
unfolding lex_by then_by
lex_snoc cmp [] [] x y e = then_by_eq (cmp x y)
lex_snoc cmp [] (b ∷ q) x y e = absurd (omega arith)
lex_snoc cmp (a ∷ p) [] x y e = absurd (omega arith)
lex_snoc cmp (a ∷ p) (b ∷ q) x y e = go (cmp a b) (lex_snoc cmp p q x y (omega arith))
  where
    go : (o : Ordering) → lex_by cmp (p ++ (x ∷ [])) (q ++ (y ∷ [])) ≡ then_by (lex_by cmp p q) (cmp x y)
        → then_by o (lex_by cmp (p ++ (x ∷ [])) (q ++ (y ∷ []))) ≡ then_by (then_by o (lex_by cmp p q)) (cmp x y)
    go ordering_lt ih = refl
    go ordering_eq ih = ih
    go ordering_gt ih = refl

lex_prefix : {A : Type 0} (cmp : A → A → Ordering) → Total cmp → (p x y : List A) → lex_by cmp (p ++ x) (p ++ y) ≡ lex_by cmp x y
unfolding lex_by then_by
lex_prefix cmp L [] x y = refl
lex_prefix cmp L (a ∷ p) x y = rw (L.same a) (lex_prefix cmp L p x y)

-- walk order between names of one depth, and between their children
pub walk_same_depth : (a b : List ℕ) → length (levels a) ≡ length (levels b) → walk_order a b ≡ level_order (levels a) (levels b)
unfolding walk_order then_by
walk_same_depth a b e = rw (e, eq_compare (length (levels b)))

pub walk_children : (a b x y : List ℕ) → length (levels a) ≡ length (levels b) → one_level x ≡ true → one_level y ≡ true
    → walk_order (child a x) (child b y) ≡ then_by (level_order (levels a) (levels b)) (byte_order x y)
unfolding level_order
walk_children a b x y e h k =
    walk_same_depth (child a x) (child b y) (ap length (levels_child a x h) ∙ depth ∙ sym (ap length (levels_child b y k)))
    ∙ rw (levels_child a x h, levels_child b y k) (lex_snoc byte_order (levels a) (levels b) x y e)
  where
    depth : length (levels a ++ (x ∷ [])) ≡ length (levels b ++ (y ∷ []))
    depth = length-append (levels a) (x ∷ []) ∙ ap (λ (n : ℕ). n + 1) e ∙ sym (length-append (levels b) (y ∷ []))

-- siblings: walk order is byte order
pub walk_siblings : (a x y : List ℕ) → one_level x ≡ true → one_level y ≡ true → walk_order (child a x) (child a y) ≡ byte_order (child a x) (child a y)
unfolding byte_order then_by
walk_siblings a x y h k =
    walk_children a a x y refl h k
    ∙ rw (levels_total.same (levels a)) (sym (lex_prefix compare numbers_total a (slash ∷ x) (slash ∷ y) ∙ lex_prefix compare numbers_total (slash ∷ []) x y))
