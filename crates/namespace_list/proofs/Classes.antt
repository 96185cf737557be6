-- Classes that do not descend, with at most four entries each: one count is enough, which starts anew where the class rises.
-- Rests on the library alone.
use Rattle.listing_rules.proofs.Prelude.{◌∙◌, ◌≡◌, ap, refl, sym, Bool, ◌&&◌, and-false, cond, false, true, ◌⊎◌, inl, inr, List, [], ◌∷◌, ◌+◌, ◌<◌}
use Rattle.listing_rules.proofs.Prelude.{◌≤◌, suc, zero, ℕ, arith, eqb, leb, length, eq-eqb, eqb-false, eqb-true, le-leb, leb-true, lt-leb, ne_eqb}
use Rattle.listing_rules.specs.Lists.{keep}
use Rattle.listing_rules.specs.Namespaces.{Entry, classes_rise, of_class}
use Rattle.listing_rules.proofs.Bools.{and_l, and_r}

-- what a count of k for the class c says of the class d: nothing was counted of any other class
unfoldable pub held : ℕ → ℕ → ℕ → ℕ
held c k d = cond (eqb d c) k 0

-- "at most 4 entries a class", those before included
unfoldable pub few : ℕ → ℕ → ℕ → List Entry → Bool
few c k d es = leb (held c k d + length (of_class d es)) 4

-- classes do not descend, and have few entries, behind k entries of the class c
unfoldable pub orderly : ℕ → ℕ → List Entry → Bool
orderly c k es = classes_rise c es && (few c k 0 es && (few c k 1 es && few c k 2 es))

-- the entries of a class, by the first of all
pub class_first : (d : ℕ) (e : Entry) (es : List Entry) → e.class ≡ d → of_class d (e ∷ es) ≡ e ∷ of_class d es
unfolding keep of_class
class_first d e es h = rw (eq-eqb e.class d h)

pub class_behind : (d : ℕ) (e : Entry) (es : List Entry) → (e.class ≡ d → ⊥) → of_class d (e ∷ es) ≡ of_class d es
unfolding keep of_class
class_behind d e es h = rw (ne_eqb e.class d h)

pub class_empty : (d : ℕ) → of_class d [] ≡ []
unfolding keep of_class
class_empty d = refl

held_here : (c k d : ℕ) → d ≡ c → held c k d ≡ k
unfolding held
held_here c k d e = rw (eq-eqb d c e)

held_other : (c k d : ℕ) → (d ≡ c → ⊥) → held c k d ≡ 0
unfolding held
held_other c k d e = rw (ne_eqb d c e)

same_or_not : (a b : ℕ) → (a ≡ b) ⊎ (a ≡ b → ⊥)
same_or_not a b = go (eqb a b) refl
  where
    go : (o : Bool) → eqb a b ≡ o → (a ≡ b) ⊎ (a ≡ b → ⊥)
    go true e = inl (eqb-true a b e)
    go false e = inr (eqb-false a b e)

-- where classes do not descend, none lower than the first comes behind
none_lower : (x d : ℕ) (es : List Entry) → d < x → classes_rise x es ≡ true → of_class d es ≡ []
unfolding classes_rise
none_lower x d [] h r = class_empty d
none_lower x d (e ∷ es) h r =
    let g : x ≤ e.class = leb-true x e.class (and_l (leb x e.class) (classes_rise e.class es) r) in
    class_behind d e es (λ q. omega arith) ∙ none_lower e.class d es (omega arith) (and_r (leb x e.class) (classes_rise e.class es) r)

module _ (c k : ℕ) (e : Entry) (es : List Entry) where
  rise_same : e.class ≡ c → classes_rise c (e ∷ es) ≡ classes_rise c es
  unfolding classes_rise
  rise_same h = rw (h, le-leb c c (omega arith))

  few_same : (d : ℕ) → e.class ≡ c → few c k d (e ∷ es) ≡ few c (k + 1) d es
  unfolding few
  few_same d h = ap (λ (n : ℕ). leb n 4) counted
    where
      counted : held c k d + length (of_class d (e ∷ es)) ≡ held c (k + 1) d + length (of_class d es)
      counted = elim (same_or_not d c) [
        | inl q ↦ omega (arith, held_here c k d q, held_here c (k + 1) d q, ap length (class_first d e es (h ∙ sym q)))
        | inr q ↦ omega (arith, held_other c k d q, held_other c (k + 1) d q, ap length (class_behind d e es (λ g. q (sym g ∙ h))))
      ]

  -- one entry more of the class that is counted
  pub orderly_same : e.class ≡ c → orderly c k (e ∷ es) ≡ orderly c (k + 1) es
  unfolding orderly
  orderly_same h = rw (rise_same h, few_same 0 h, few_same 1 h, few_same 2 h)

  few_rise : (d : ℕ) → c < e.class → k ≤ 4 → classes_rise e.class es ≡ true → few c k d (e ∷ es) ≡ few e.class 1 d es
  unfolding few
  few_rise d h g r = elim (same_or_not d c) [
    | inl q ↦
        let n : length (of_class d es) ≡ 0 = ap length (none_lower e.class d es (omega arith) r) in
        let m : length (of_class d (e ∷ es)) ≡ 0 = ap length (class_behind d e es (λ t. omega arith)) ∙ n in
        le-leb (held c k d + length (of_class d (e ∷ es))) 4 (omega (arith, held_here c k d q))
        ∙ sym (le-leb (held e.class 1 d + length (of_class d es)) 4 (omega (arith, held_other e.class 1 d (λ t. omega arith))))
    | inr q ↦ ap (λ (n : ℕ). leb n 4) (counted q)
  ]
    where
      counted : (d ≡ c → ⊥) → held c k d + length (of_class d (e ∷ es)) ≡ held e.class 1 d + length (of_class d es)
      counted q = elim (same_or_not d e.class) [
        | inl t ↦ omega (arith, held_other c k d q, held_here e.class 1 d t, ap length (class_first d e es (sym t)))
        | inr t ↦ omega (arith, held_other c k d q, held_other e.class 1 d t, ap length (class_behind d e es (λ u. t (sym u))))
      ]

  -- the first entry of a higher class: the lower ones are done, and the count starts anew
  pub orderly_rise : c < e.class → k ≤ 4 → orderly c k (e ∷ es) ≡ orderly e.class 1 es
  unfolding classes_rise orderly
  orderly_rise h g = rw (le-leb c e.class (omega arith)) (go (classes_rise e.class es) refl)
    where
      go : (o : Bool) → classes_rise e.class es ≡ o
          → o && (few c k 0 (e ∷ es) && (few c k 1 (e ∷ es) && few c k 2 (e ∷ es))) ≡ o && (few e.class 1 0 es && (few e.class 1 1 es && few e.class 1 2 es))
      go true r = rw (few_rise 0 h g r, few_rise 1 h g r, few_rise 2 h g r)
      go false r = refl

  -- an entry of a lower class
  pub orderly_fall : e.class < c → orderly c k (e ∷ es) ≡ false
  unfolding classes_rise orderly
  orderly_fall h = rw (lt-leb c e.class h)

few_full : (c k : ℕ) (es : List Entry) → 4 < k → few c k c es ≡ false
unfolding few
few_full c k es h = lt-leb (held c k c + length (of_class c es)) 4 (omega (arith, held_here c k c refl))

-- too many of one of the three classes
pub orderly_full : (c k : ℕ) (es : List Entry) → c ≤ 2 → 4 < k → orderly c k es ≡ false
unfolding orderly
orderly_full zero k es h g = rw (few_full 0 k es g) (and-false (classes_rise 0 es))
orderly_full (suc zero) k es h g = rw (few_full 1 k es g, and-false (few 1 k 0 es)) (and-false (classes_rise 1 es))
orderly_full (suc (suc zero)) k es h g =
    rw (few_full 2 k es g, and-false (few 2 k 1 es), and-false (few 2 k 0 es)) (and-false (classes_rise 2 es))
orderly_full (suc (suc (suc c))) k es h g = absurd (omega arith)

few_end : (c k d : ℕ) → k ≤ 4 → few c k d [] ≡ true
unfolding few
few_end c k d h = le-leb (held c k d + length (of_class d [])) 4 (most (same_or_not d c))
  where
    most : (d ≡ c) ⊎ (d ≡ c → ⊥) → held c k d + length (of_class d []) ≤ 4
    most (inl q) = omega (arith, held_here c k d q, ap length (class_empty d))
    most (inr q) = omega (arith, held_other c k d q, ap length (class_empty d))

-- no entry behind
pub orderly_end : (c k : ℕ) → k ≤ 4 → orderly c k [] ≡ true
unfolding classes_rise orderly
orderly_end c k h = rw (few_end c k 0 h, few_end c k 1 h, few_end c k 2 h)
