-- Walk order is a total order. Rests on Order and Levels.
use Rattle.listing_rules.proofs.Prelude.{◌∙◌, ◌≡◌, ap, refl, sym, Bool, cond, false, true, List, [], ◌++◌, ◌∷◌, Ordering, ordering_eq}
use Rattle.listing_rules.proofs.Prelude.{ordering_gt, ordering_lt, compare, ℕ, eqb, length, eqb-true}
use Rattle.listing_rules.specs.Bytes.{slash}
use Rattle.listing_rules.specs.Lists.{on_first}
use Rattle.listing_rules.specs.Orders.{then_by}
use Rattle.listing_rules.specs.Names.{levels, level_order, walk_order}
use Rattle.listing_rules.proofs.Order.{Total, swap, numbers_total, levels_total}
use Rattle.listing_rules.proofs.Levels.{levels_cons}

-- two orders, one after the other
module _ {A B C : Type 0} (c : B → B → Ordering) (d : C → C → Ordering) (L : Total c) (M : Total d) (f : A → B) (g : A → C) (inj : (a b : A) → g a ≡ g b → a ≡ b) where
  abbrev pub both : A → A → Ordering
  both a b = then_by (c (f a) (f b)) (d (g a) (g b))

  pub both_total : Total both
  unfolding then_by
  both_total =
      record {
        same = λ a. rw (L.same (f a)) (M.same (g a));
        equal = λ a b e. eq a b (c (f a) (f b)) e;
        turned = λ a b. rw (L.turned (f a) (f b), M.turned (g a) (g b)) (turn (c (f a) (f b)) (d (g a) (g b)));
        trans = λ x y z p q. tr x y z (c (f x) (f y)) (c (f y) (f z)) refl refl p q;
      }
    where
      eq : (a b : A) (o : Ordering) → then_by o (d (g a) (g b)) ≡ ordering_eq → a ≡ b
      eq a b ordering_lt e = cc
      eq a b ordering_eq e = inj a b (M.equal (g a) (g b) e)
      eq a b ordering_gt e = cc

      turn : (o u : Ordering) → then_by (swap o) (swap u) ≡ swap (then_by o u)
      turn ordering_lt u = refl
      turn ordering_eq u = refl
      turn ordering_gt u = refl

      tr : (x y z : A) (o u : Ordering) → c (f x) (f y) ≡ o → c (f y) (f z) ≡ u → then_by o (d (g x) (g y)) ≡ ordering_lt
          → then_by u (d (g y) (g z)) ≡ ordering_lt → then_by (c (f x) (f z)) (d (g x) (g z)) ≡ ordering_lt
      tr x y z ordering_lt ordering_lt h k p q = rw (L.trans (f x) (f y) (f z) h k)
      tr x y z ordering_lt ordering_eq h k p q = rw (← L.equal (f y) (f z) k, h)
      tr x y z ordering_lt ordering_gt h k p q = cc
      tr x y z ordering_eq ordering_lt h k p q = rw (L.equal (f x) (f y) h, k)
      tr x y z ordering_eq ordering_eq h k p q = rw (L.equal (f x) (f y) h, k) (M.trans (g x) (g y) (g z) p q)
      tr x y z ordering_eq ordering_gt h k p q = cc
      tr x y z ordering_gt u h k p q = cc

-- the name of its levels
glue : List ℕ → List (List ℕ) → List ℕ
glue l [] = l
glue l (m ∷ ms) = l ++ (slash ∷ glue m ms)

named : List (List ℕ) → List ℕ
named [] = []
named (l ∷ ls) = glue l ls

on_first_named : (b : ℕ) (l : List ℕ) (ls : List (List ℕ)) → named (on_first b (l ∷ ls)) ≡ b ∷ named (l ∷ ls)
unfolding named glue on_first
on_first_named b l [] = refl
on_first_named b l (m ∷ ms) = refl

named_levels : (a : List ℕ) → named (levels a) ≡ a
unfolding named glue levels
named_levels [] = refl
named_levels (b ∷ a) = go (eqb b slash) refl (levels_cons a) (named_levels a)
  where
    go : (o : Bool) → eqb b slash ≡ o → (l : List ℕ) × (ls : List (List ℕ)) × (levels a ≡ l ∷ ls) → named (levels a) ≡ a → named (cond o ([] ∷ levels a) (on_first b (levels a))) ≡ b ∷ a
    go true e w ih =
        let s : b ≡ slash = eqb-true b slash e in
        let i : glue w.0 w.1 ≡ a = rw w.2 at ih in
        rw (w.2, s) (ap (λ (x : List ℕ). slash ∷ x) i)
    go false e w ih =
        rw w.2 (on_first_named b w.0 w.1 ∙ ap (λ (x : List ℕ). b ∷ x) (rw w.2 at ih))

levels_injective : (a b : List ℕ) → levels a ≡ levels b → a ≡ b
levels_injective a b e = sym (named_levels a) ∙ ap named e ∙ named_levels b

pub walk_total : Total walk_order
unfolding walk_order
walk_total = both_total compare level_order numbers_total levels_total (λ a. length (levels a)) levels levels_injective
