-- Lists in parts, of which one is put in the place of another: tests, members, kept members and order. Rests on ListLaws and Sorted.
use Rattle.listing_rules.proofs.Prelude.{◌≡◌, ap, refl, Bool, ◌||◌, cond, false, true, ◌⊎◌, inl, inr, ⊎_elim, List, list_mem}
use Rattle.listing_rules.proofs.Prelude.{list_mem_append_cases, list_mem_head, list_mem_tail, mem_append_left, mem_append_right, [], ◌++◌}
use Rattle.listing_rules.proofs.Prelude.{◌∷◌, Ordering, ℕ}
use Rattle.listing_rules.specs.Lists.{every, any_of, keep}
use Rattle.listing_rules.specs.Orders.{byte_order, is_lt, ascends_from, ascends}
use Rattle.listing_rules.proofs.Bools.{and_l, and_r, and_i}
use Rattle.listing_rules.proofs.ListLaws.{every_mem, mem_every}
use Rattle.listing_rules.proofs.Sorted.{Above, Asc}

-- tests over lists in parts
module _ {A : Type 0} (p : A → Bool) where
  pub every_append : (a b : List A) → every p a ≡ true → every p b ≡ true → every p (a ++ b) ≡ true
  unfolding every
  every_append [] b h g = g
  every_append (x ∷ a) b h g = and_i (p x) (every p (a ++ b)) (and_l (p x) (every p a) h) (every_append a b (and_r (p x) (every p a) h) g)

  pub every_right : (a b : List A) → every p (a ++ b) ≡ true → every p b ≡ true
  unfolding every
  every_right [] b h = h
  every_right (x ∷ a) b h = every_right a b (and_r (p x) (every p (a ++ b)) h)

  pub any_append : (a b : List A) → any_of p (a ++ b) ≡ (any_of p a || any_of p b)
  unfolding any_of
  any_append [] b = refl
  any_append (x ∷ a) b = go (p x) (any_append a b)
    where
      go : (o : Bool) → any_of p (a ++ b) ≡ (any_of p a || any_of p b) → (o || any_of p (a ++ b)) ≡ ((o || any_of p a) || any_of p b)
      go true e = refl
      go false e = e

  pub mem_none : (l : List A) → ((z : A) → list_mem z l → p z ≡ false) → any_of p l ≡ false
  unfolding any_of
  mem_none [] f = refl
  mem_none (x ∷ l) f = rw (f x (list_mem_head refl)) (mem_none l (λ z m. f z (list_mem_tail m)))

  pub keep_append : (a b : List A) → keep p (a ++ b) ≡ keep p a ++ keep p b
  unfolding keep
  keep_append [] b = refl
  keep_append (x ∷ a) b = go (p x) (keep_append a b)
    where
      go : (o : Bool) → keep p (a ++ b) ≡ keep p a ++ keep p b → cond o (x ∷ keep p (a ++ b)) (keep p (a ++ b)) ≡ cond o (x ∷ keep p a) (keep p a) ++ keep p b
      go true e = ap (λ (l : List A). x ∷ l) e
      go false e = e

  pub keep_none : (l : List A) → ((z : A) → list_mem z l → p z ≡ false) → keep p l ≡ []
  unfolding keep
  keep_none [] f = refl
  keep_none (x ∷ l) f = rw (f x (list_mem_head refl)) (keep_none l (λ z m. f z (list_mem_tail m)))

  pub keep_all : (l : List A) → every p l ≡ true → keep p l ≡ l
  unfolding keep every
  keep_all [] h = refl
  keep_all (x ∷ l) h = rw (and_l (p x) (every p l) h) (ap (λ (k : List A). x ∷ k) (keep_all l (and_r (p x) (every p l) h)))

  -- a middle part put in the place of another
  pub every_swapped : (a old new b : List A) → every p (a ++ (old ++ b)) ≡ true → every p new ≡ true → every p (a ++ (new ++ b)) ≡ true
  every_swapped a old new b h g =
      every_append a (new ++ b) (mem_every p a (λ z m. every_mem p (a ++ (old ++ b)) h z (mem_append_left _ m)))
      (every_append new b g (every_right old b (every_right a (old ++ b) h)))

module _ {A : Type 0} where
  pub mem_swapped : (a old new b : List A) (z : A) → list_mem z (a ++ (new ++ b)) → list_mem z new ⊎ list_mem z (a ++ (old ++ b))
  mem_swapped a old new b z m =
      ⊎_elim (λ k. inr (mem_append_left _ k))
      (λ k. ⊎_elim inl (λ j. inr (mem_append_right a (mem_append_right old j))) (list_mem_append_cases new k)) (list_mem_append_cases a m)

-- ascending lists in parts, and the test
module _ {A : Type 0} (cmp : A → A → Ordering) where
  above_left : (w : A) (a b : List A) → Above cmp w (a ++ b) → Above cmp w a
  above_left w [] b s = tt
  above_left w (x ∷ a) b s = (s.0, above_left w a b s.1)

  pub asc_left : (a b : List A) → Asc cmp (a ++ b) → Asc cmp a
  asc_left [] b s = tt
  asc_left (x ∷ a) b s = (above_left x a b s.0, asc_left a b s.1)

  pub asc_right : (a b : List A) → Asc cmp (a ++ b) → Asc cmp b
  asc_right [] b s = s
  asc_right (x ∷ a) b s = asc_right a b s.1

pub asc_ascends : (l : List (List ℕ)) → Asc byte_order l → ascends l ≡ true
unfolding ascends ascends_from is_lt
asc_ascends [] s = refl
asc_ascends (x ∷ l) s = ascending x l s
  where
    ascending : (x : List ℕ) (l : List (List ℕ)) → Asc byte_order (x ∷ l) → ascends_from x l ≡ true
    ascending x [] s = refl
    ascending x (y ∷ l) s = rw s.0.0 (ascending y l s.1)
