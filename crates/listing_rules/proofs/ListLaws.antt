-- Lists: what a test over a list says of its members, which members a list that is kept, mapped, joined or appended has, and a part of a list that
-- is mapped. Rests on Bools.
use Rattle.listing_rules.proofs.Prelude.{◌∙◌, ◌≡◌, ap, refl, subst, sym, Bool, cond, false, false≢true, true, ◌⊎◌, inl, inr, ⊎_elim, List}
use Rattle.listing_rules.proofs.Prelude.{list_mem, list_mem_append_cases, list_mem_cases_cons, list_mem_head, list_mem_not_nil}
use Rattle.listing_rules.proofs.Prelude.{list_mem_tail, mem_append_left, mem_append_right, mem_map, mem_of_map, [], ◌++◌, ◌∷◌, map, ◌≤◌}
use Rattle.listing_rules.proofs.Prelude.{suc, zero, ℕ, arith, eqb, drop, length, take, eq-eqb, eqb-true}
use Rattle.listing_rules.specs.Bytes.{all, is_empty, same}
use Rattle.listing_rules.specs.Lists.{every, any_of, keep, joined}
use Rattle.listing_rules.proofs.Bools.{and_l, and_r, and_i, or_cases, or_l, or_r}

-- equal tests
pub any_cong : {A : Type 0} (f g : A → Bool) → ((x : A) → f x ≡ g x) → (l : List A) → any_of f l ≡ any_of g l
unfolding any_of
any_cong f g e [] = refl
any_cong f g e (x ∷ l) = rw (e x, any_cong f g e l)

-- tests over lists, and membership
module _ {A : Type 0} (p : A → Bool) where
  pub every_mem : (l : List A) → every p l ≡ true → (z : A) → list_mem z l → p z ≡ true
  unfolding every
  every_mem [] h z m = absurd (list_mem_not_nil m)
  every_mem (x ∷ l) h z m =
      ⊎_elim (λ e. ap p e ∙ and_l (p x) (every p l) h) (every_mem l (and_r (p x) (every p l) h) z) (list_mem_cases_cons m)

  pub mem_every : (l : List A) → ((z : A) → list_mem z l → p z ≡ true) → every p l ≡ true
  unfolding every
  mem_every [] h = refl
  mem_every (x ∷ l) h = and_i (p x) (every p l) (h x (list_mem_head refl)) (mem_every l (λ z m. h z (list_mem_tail m)))

  pub some_mem : (l : List A) → any_of p l ≡ true → (z : A) × list_mem z l × (p z ≡ true)
  unfolding any_of
  some_mem [] h = absurd (false≢true h)
  some_mem (x ∷ l) h = pick (or_cases (p x) (any_of p l) h) (some_mem l)
    where
      pick : (p x ≡ true) ⊎ (any_of p l ≡ true) → (any_of p l ≡ true → (z : A) × list_mem z l × (p z ≡ true)) → (z : A) × list_mem z (x ∷ l) × (p z ≡ true)
      pick (inl e) ih = (x, list_mem_head refl, e)
      pick (inr e) ih = let w = ih e in (w.0, list_mem_tail w.1, w.2)

  pub mem_some : (l : List A) (z : A) → list_mem z l → p z ≡ true → any_of p l ≡ true
  unfolding any_of
  mem_some [] z m h = absurd (list_mem_not_nil m)
  mem_some (x ∷ l) z m h = ⊎_elim (λ e. or_l (p x) (any_of p l) (ap p (sym e) ∙ h)) (λ k. or_r (p x) (any_of p l) (mem_some l z k h)) (list_mem_cases_cons m)

  pub none_mem : (l : List A) → any_of p l ≡ false → (z : A) → list_mem z l → p z ≡ false
  none_mem l h z m = go (p z) refl
    where
      go : (o : Bool) → p z ≡ o → o ≡ false
      go true e = sym (mem_some l z m e) ∙ h
      go false e = refl

  pub keep_mem : (l : List A) (z : A) → list_mem z (keep p l) → list_mem z l × (p z ≡ true)
  unfolding keep
  keep_mem [] z m = absurd (list_mem_not_nil m)
  keep_mem (x ∷ l) z m = go (p x) refl m (keep_mem l z)
    where
      deeper : list_mem z l × (p z ≡ true) → list_mem z (x ∷ l) × (p z ≡ true)
      deeper w = (list_mem_tail w.0, w.1)

      go : (o : Bool) → p x ≡ o → list_mem z (cond o (x ∷ keep p l) (keep p l)) → (list_mem z (keep p l) → list_mem z l × (p z ≡ true)) → list_mem z (x ∷ l) × (p z ≡ true)
      go true e k ih = ⊎_elim (λ q. (list_mem_head q, ap p q ∙ e)) (λ j. deeper (ih j)) (list_mem_cases_cons k)
      go false e k ih = deeper (ih k)

  pub mem_keep : (l : List A) (z : A) → list_mem z l → p z ≡ true → list_mem z (keep p l)
  unfolding keep
  mem_keep [] z m h = m
  mem_keep (x ∷ l) z m h = go (p x) refl (list_mem_cases_cons m) (mem_keep l z)
    where
      go : (o : Bool) → p x ≡ o → (z ≡ x) ⊎ list_mem z l → (list_mem z l → p z ≡ true → list_mem z (keep p l)) → list_mem z (cond o (x ∷ keep p l) (keep p l))
      go true e (inl q) ih = list_mem_head q
      go true e (inr j) ih = list_mem_tail (ih j h)
      go false e (inl q) ih = absurd (false≢true (sym e ∙ ap p (sym q) ∙ h))
      go false e (inr j) ih = ih j h

  -- no more are kept than there are
  pub keep_length : (l : List A) → length (keep p l) ≤ length l
  unfolding keep
  keep_length [] = omega arith
  keep_length (x ∷ l) = go (p x) (keep_length l)
    where
      go : (o : Bool) → length (keep p l) ≤ length l → length (cond o (x ∷ keep p l) (keep p l)) ≤ suc (length l)
      go true h = omega arith
      go false h = omega arith

  pub every_left : (a b : List A) → every p (a ++ b) ≡ true → every p a ≡ true
  unfolding every
  every_left [] b h = refl
  every_left (x ∷ a) b h = and_i (p x) (every p a) (and_l (p x) (every p (a ++ b)) h) (every_left a b (and_r (p x) (every p (a ++ b)) h))

-- members of lists that are mapped and joined; a part of a list that is mapped
module _ {A B : Type 0} where
  pub mem_map_lem : (f : A → B) {x : A} {l : List A} → list_mem x l → list_mem (f x) (map f l)
  mem_map_lem f m = mem_map f m

  pub map_mem : (f : A → B) (y : B) (l : List A) → list_mem y (map f l) → (x : A) × list_mem x l × (y ≡ f x)
  map_mem f y l m = let w = mem_of_map f l m in (w.0, w.1, sym w.2)

  pub map_take : (f : A → B) (n : ℕ) (l : List A) → map f (take n l) ≡ take n (map f l)
  map_take f zero l = refl
  map_take f (suc n) [] = refl
  map_take f (suc n) (x ∷ l) = ap (λ (r : List B). f x ∷ r) (map_take f n l)

  pub map_drop : (f : A → B) (n : ℕ) (l : List A) → map f (drop n l) ≡ drop n (map f l)
  map_drop f zero l = refl
  map_drop f (suc n) [] = refl
  map_drop f (suc n) (x ∷ l) = map_drop f n l

module _ {A : Type 0} where
  pub mem_joined : (x : A) {l : List A} {ls : List (List A)} → list_mem x l → list_mem l ls → list_mem x (joined ls)
  unfolding joined
  mem_joined x {l} m (list_mem_head {x = k} e) = mem_append_left _ (subst (λ (j : List A). list_mem x j) e m)
  mem_joined x m (list_mem_tail {x = k} t) = mem_append_right k (mem_joined x m t)

  pub joined_mem : (x : A) (ls : List (List A)) → list_mem x (joined ls) → (l : List A) × list_mem l ls × list_mem x l
  unfolding joined
  joined_mem x [] m = absurd (list_mem_not_nil m)
  joined_mem x (l ∷ ls) m = go (joined_mem x ls) (list_mem_append_cases l m)
    where
      go : (list_mem x (joined ls) → (k : List A) × list_mem k ls × list_mem x k) → list_mem x l ⊎ list_mem x (joined ls) → (k : List A) × list_mem k (l ∷ ls) × list_mem x k
      go ih (inl k) = (l, list_mem_head refl, k)
      go ih (inr k) = let r = ih k in (r.0, list_mem_tail r.1, r.2)

-- tests over bytes
module _ (p : ℕ → Bool) where
  pub all_append : (a b : List ℕ) → all p a ≡ true → all p b ≡ true → all p (a ++ b) ≡ true
  unfolding all
  all_append [] b h g = g
  all_append (x ∷ a) b h g = and_i (p x) (all p (a ++ b)) (and_l (p x) (all p a) h) (all_append a b (and_r (p x) (all p a) h) g)

  pub all_left : (a b : List ℕ) → all p (a ++ b) ≡ true → all p a ≡ true
  unfolding all
  all_left [] b h = refl
  all_left (x ∷ a) b h = and_i (p x) (all p a) (and_l (p x) (all p (a ++ b)) h) (all_left a b (and_r (p x) (all p (a ++ b)) h))

  pub all_right : (a b : List ℕ) → all p (a ++ b) ≡ true → all p b ≡ true
  unfolding all
  all_right [] b h = h
  all_right (x ∷ a) b h = all_right a b (and_r (p x) (all p (a ++ b)) h)

pub all_imp : (p q : ℕ → Bool) → ((b : ℕ) → p b ≡ true → q b ≡ true) → (n : List ℕ) → all p n ≡ true → all q n ≡ true
unfolding all
all_imp p q f [] h = refl
all_imp p q f (b ∷ n) h = and_i (q b) (all q n) (f b (and_l (p b) (all p n) h)) (all_imp p q f n (and_r (p b) (all p n) h))

pub empty_true : (n : List ℕ) → is_empty n ≡ true → n ≡ []
unfolding is_empty
empty_true [] e = refl
empty_true (b ∷ n) e = cc

-- `same` decides equality
pub same_refl : (a : List ℕ) → same a a ≡ true
unfolding same
same_refl [] = refl
same_refl (x ∷ xs) = and_i (eqb x x) (same xs xs) (eq-eqb x x refl) (same_refl xs)

pub same_true : (a b : List ℕ) → same a b ≡ true → a ≡ b
unfolding same
same_true [] [] e = refl
same_true [] (y ∷ ys) e = cc
same_true (x ∷ xs) [] e = cc
same_true (x ∷ xs) (y ∷ ys) e =
    let h : x ≡ y = eqb-true x y (and_l (eqb x y) (same xs ys) e) in
    let t : xs ≡ ys = same_true xs ys (and_r (eqb x y) (same xs ys) e) in
    cc
