-- Proper ancestors: the test `below` and the list `properAncestors` agree; candidates are closed under proper ancestors. Rests on Sorted and
-- ListLaws.
use Rattle.listing_rules.proofs.Prelude.{◌∙◌, ◌≡◌, refl, subst, Bool, cond, false, false≢true, true, ◌⊎◌, inl, inr, ⊎_elim, List, list_mem}
use Rattle.listing_rules.proofs.Prelude.{list_mem_cases_cons, list_mem_head, list_mem_not_nil, list_mem_tail, [], ◌∷◌, map, ℕ, eqb, eq-eqb}
use Rattle.listing_rules.proofs.Prelude.{eqb-true}
use Rattle.listing_rules.specs.Bytes.{slash}
use Rattle.listing_rules.specs.Orders.{byte_order}
use Rattle.listing_rules.specs.Names.{proper_ancestors, below}
use Rattle.listing_rules.specs.Table.{Row}
use Rattle.listing_rules.specs.Listing.{candidates}
use Rattle.listing_rules.proofs.Bools.{and_l, and_r, and_i}
use Rattle.listing_rules.proofs.ListLaws.{mem_map_lem, map_mem, mem_joined, joined_mem}
use Rattle.listing_rules.proofs.Order.{bytes_total}
use Rattle.listing_rules.proofs.Sorted.{sorted_mem, mem_sorted}

-- `below` is the test of `properAncestors`
pub anc_below : (a n : List ℕ) → list_mem a (proper_ancestors n) → below a n ≡ true
unfolding below proper_ancestors
anc_below a [] m = absurd (list_mem_not_nil m)
anc_below a (b ∷ t) m = go (λ c k. anc_below c t k) (eqb b slash) refl m
  where
    IH : Type 0
    IH = (c : List ℕ) → list_mem c (proper_ancestors t) → below c t ≡ true

    deeper : IH → list_mem a (map (λ c. b ∷ c) (proper_ancestors t)) → below a (b ∷ t) ≡ true
    deeper ih k =
        let w = map_mem (λ c. b ∷ c) a (proper_ancestors t) k in
        rw w.2 (and_i (eqb b b) (below w.0 t) (eq-eqb b b refl) (ih w.0 w.1))

    go : IH → (o : Bool) → eqb b slash ≡ o → list_mem a (cond o ([] ∷ map (λ c. b ∷ c) (proper_ancestors t)) (map (λ c. b ∷ c) (proper_ancestors t))) → below a (b ∷ t) ≡ true
    go ih true e k = ⊎_elim (λ p. rw p e) (deeper ih) (list_mem_cases_cons k)
    go ih false e k = deeper ih k

pub below_anc : (a n : List ℕ) → below a n ≡ true → list_mem a (proper_ancestors n)
unfolding below proper_ancestors
below_anc [] [] e = absurd (false≢true e)
below_anc [] (c ∷ n) e = rw e (list_mem_head refl)
below_anc (b ∷ a) [] e = absurd (false≢true e)
below_anc (b ∷ a) (c ∷ n) e = go (eqb c slash) (below_anc a n (and_r (eqb b c) (below a n) e))
  where
    deeper : list_mem a (proper_ancestors n) → list_mem (b ∷ a) (map (λ x. c ∷ x) (proper_ancestors n))
    deeper m = rw (eqb-true b c (and_l (eqb b c) (below a n) e)) (mem_map_lem (λ x. c ∷ x) m)

    go : (o : Bool) → list_mem a (proper_ancestors n) → list_mem (b ∷ a) (cond o ([] ∷ map (λ x. c ∷ x) (proper_ancestors n)) (map (λ x. c ∷ x) (proper_ancestors n)))
    go true m = list_mem_tail (deeper m)
    go false m = deeper m

pub below_trans : (a b c : List ℕ) → below a b ≡ true → below b c ≡ true → below a c ≡ true
unfolding below
below_trans [] [] c p q = cc
below_trans [] (y ∷ b) [] p q = cc
below_trans [] (y ∷ b) (z ∷ c) p q = rw (← eqb-true y z (and_l (eqb y z) (below b c) q)) p
below_trans (x ∷ a) [] c p q = cc
below_trans (x ∷ a) (y ∷ b) [] p q = cc
below_trans (x ∷ a) (y ∷ b) (z ∷ c) p q =
    and_i (eqb x z) (below a c)
    (eq-eqb x z (eqb-true x y (and_l (eqb x y) (below a b) p) ∙ eqb-true y z (and_l (eqb y z) (below b c) q)))
    (below_trans a b c (and_r (eqb x y) (below a b) p) (and_r (eqb y z) (below b c) q))

-- a candidate is a row's name or a proper ancestor of one
pub candidate_cases : (rs : List Row) (n : List ℕ) → list_mem n (candidates rs) → (r : Row) × list_mem r rs × list_mem n (r.name ∷ proper_ancestors r.name)
unfolding candidates
candidate_cases rs n m =
    let j = joined_mem n (map (λ r. r.name ∷ proper_ancestors r.name) rs) (mem_sorted byte_order bytes_total n _ m) in
    let w = map_mem (λ (r : Row). r.name ∷ proper_ancestors r.name) j.0 rs j.1 in
    (w.0, w.1, subst (λ (l : List (List ℕ)). list_mem n l) w.2 j.2)

pub candidate : (rs : List Row) (n : List ℕ) (r : Row) → list_mem r rs → list_mem n (r.name ∷ proper_ancestors r.name) → list_mem n (candidates rs)
unfolding candidates
candidate rs n r m k =
    sorted_mem byte_order bytes_total n _ (mem_joined n k (mem_map_lem (λ (q : Row). q.name ∷ proper_ancestors q.name) m))

-- candidates are closed under proper ancestors
pub candidates_closed : (rs : List Row) (a n : List ℕ) → list_mem n (candidates rs) → list_mem a (proper_ancestors n) → list_mem a (candidates rs)
candidates_closed rs a n m k =
    let c = candidate_cases rs n m in
    candidate rs a c.0 c.1 (list_mem_tail (below_anc a c.0.name (up c.0.name (list_mem_cases_cons c.2))))
  where
    up : (w : List ℕ) → (n ≡ w) ⊎ list_mem n (proper_ancestors w) → below a w ≡ true
    up w (inl e) = rw (← e) (anc_below a n k)
    up w (inr j) = below_trans a n w (anc_below a n k) (anc_below n w j)
