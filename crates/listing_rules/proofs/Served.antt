-- The queue stands at the front of what is served; that is closed under children; the queue runs empty; the finds of what is served ascend. Rests
-- on Bfs and ListLaws.
use Rattle.listing_rules.proofs.Prelude.{◌∙◌, ◌≡◌, ap, refl, subst, sym, ⊎_elim, List, list_mem, list_mem_append_cases, list_mem_cases_cons}
use Rattle.listing_rules.proofs.Prelude.{list_mem_head, list_mem_not_nil, list_mem_tail, mem_append_left, mem_append_right, [], ◌++◌, ◌∷◌}
use Rattle.listing_rules.proofs.Prelude.{append_assoc, map, nil≢cons, ordering_lt, ◌<◌, suc, zero, ℕ, arith, length}
use Rattle.listing_rules.specs.Lists.{joined}
use Rattle.listing_rules.specs.Names.{walk_order}
use Rattle.listing_rules.proofs.ListLaws.{joined_mem, map_mem}
use Rattle.listing_rules.proofs.Order.{View, view, less, equal, more}
use Rattle.listing_rules.proofs.Sorted.{Asc, above_mem, asc_append, pigeons}
use Rattle.listing_rules.proofs.Levels.{child, Name, ChildOf}
use Rattle.listing_rules.proofs.WalkOrder.{walk_total}
use Rattle.listing_rules.proofs.Bfs.{depth, depth_child, walk_deeper, walk_higher, walk_cousins, Good, served, served_asc}

-- the queue that is left
unfoldable pub left : (Name → List Name) → ℕ → List Name → List Name
left kids zero q = q
left kids (suc k) [] = []
left kids (suc k) (a ∷ q) = left kids k (q ++ kids a)

module _ (kids : Name → List Name) where
  -- each of the queue is served, if the queue runs empty
  pub queue_served : (k : ℕ) (q : List Name) → left kids k q ≡ [] → (z : Name) → list_mem z q → list_mem z (served kids k q)
  unfolding left served
  queue_served zero q e z m = absurd (list_mem_not_nil (subst (λ (l : List Name). list_mem z l) e m))
  queue_served (suc k) [] e z m = absurd (list_mem_not_nil m)
  queue_served (suc k) (a ∷ q) e z m =
      ⊎_elim (λ p. list_mem_head p) (λ j. list_mem_tail (queue_served k (q ++ kids a) e z (mem_append_left (kids a) j))) (list_mem_cases_cons m)

  -- and so is each child of what is served
  pub kids_served : (k : ℕ) (q : List Name) → left kids k q ≡ [] → (a z : Name) → list_mem a (served kids k q) → list_mem z (kids a) → list_mem z (served kids k q)
  unfolding left served
  kids_served zero q e a z m n = absurd (list_mem_not_nil m)
  kids_served (suc k) [] e a z m n = absurd (list_mem_not_nil m)
  kids_served (suc k) (b ∷ q) e a z m n =
      ⊎_elim
      (λ p. list_mem_tail (queue_served k (q ++ kids b) e z (mem_append_right q (subst (λ (w : Name). list_mem z (kids w)) p n))))
      (λ j. list_mem_tail (kids_served k (q ++ kids b) e a z j n))
      (list_mem_cases_cons m)

  -- nothing else is served
  pub served_only : (P : Name → Type 0) → ((a z : Name) → P a → list_mem z (kids a) → P z) → (k : ℕ) (q : List Name)
      → ((z : Name) → list_mem z q → P z) → (z : Name) → list_mem z (served kids k q) → P z
  unfolding served
  served_only P c zero q h z m = absurd (list_mem_not_nil m)
  served_only P c (suc k) [] h z m = absurd (list_mem_not_nil m)
  served_only P c (suc k) (a ∷ q) h z m =
      ⊎_elim (λ p. subst P (sym p) (h a (list_mem_head refl)))
      (λ j. served_only P c k (q ++ kids a) (λ y n. ⊎_elim (λ i. h y (list_mem_tail i)) (λ i. c a y (h a (list_mem_head refl)) i) (list_mem_append_cases q n)) z j)
      (list_mem_cases_cons m)

  -- the queue stands at the front of what is served
  pub front : (k : ℕ) (q : List Name) → left kids k q ≡ [] → (r : List Name) × (served kids k q ≡ q ++ r)
  unfolding left served
  front zero [] e = ([], refl)
  front zero (a ∷ q) e = absurd (nil≢cons (sym e))
  front (suc k) [] e = ([], refl)
  front (suc k) (a ∷ q) e =
      let w = front k (q ++ kids a) e in
      (kids a ++ w.0, ap (λ (x : List Name). a ∷ x) (w.1 ∙ append_assoc q (kids a) w.0))

  -- with something left, each unit of fuel served a name
  count_served : (k : ℕ) (q : List Name) → ((left kids k q ≡ []) → ⊥) → length (served kids k q) ≡ k
  unfolding left served
  count_served zero q h = refl
  count_served (suc k) [] h = absurd (h refl)
  count_served (suc k) (a ∷ q) h = ap suc (count_served k (q ++ kids a) h)

module _ (kids : Name → List Name) (kids_asc : (a : Name) → Asc walk_order (kids a)) (kids_shape : (a e : Name) → list_mem e (kids a) → ChildOf a e) where
  -- so the queue runs empty if all that can be served stands in an ascending list shorter than the fuel
  pub runs_empty : (k : ℕ) (q m : List Name) → Good q → Asc walk_order m → ((a z : Name) → list_mem a m → list_mem z (kids a) → list_mem z m)
      → ((z : Name) → list_mem z q → list_mem z m) → length m < k → left kids k q ≡ []
  runs_empty k q m g s c h f = go (left kids k q) refl
    where
      go : (l : List Name) → left kids k q ≡ l → left kids k q ≡ []
      go [] e = e
      go (x ∷ l) e =
          let full = count_served kids k q (λ p. nil≢cons (sym p ∙ e)) in
          let short = pigeons walk_order walk_total (served kids k q) m (asc_of k q g) s (served_only kids (λ z. list_mem z m) c k q h) in
          absurd (omega arith)
        where
          asc_of : (k : ℕ) (q : List Name) → Good q → Asc walk_order (served kids k q)
          asc_of k q g = served_asc kids kids_asc kids_shape k q g

-- finds: each of an ascending list of names gives some of its children
module _ (finds : Name → List Name) (finds_asc : (a : Name) → Asc walk_order (finds a)) (finds_shape : (a e : Name) → list_mem e (finds a) → ChildOf a e) where
  cross : (a b e f : Name) → walk_order a b ≡ ordering_lt → list_mem e (finds a) → list_mem f (finds b) → walk_order e f ≡ ordering_lt
  cross a b e f l m n = go (finds_shape a e m) (finds_shape b f n) (view (depth a) (depth b))
    where
      go : ChildOf a e → ChildOf b f → View (depth a) (depth b) → walk_order e f ≡ ordering_lt
      go w v (less c h) = rw (w.1, v.1) (walk_deeper (child a w.0) (child b v.0) (omega (arith, depth_child a w.0 w.2, depth_child b v.0 v.2)))
      go w v (equal c h) = rw (w.1, v.1) (walk_cousins a b w.0 v.0 h w.2 v.2 l)
      go w v (more c h) = let g = walk_higher a b h in cc

  pub finds_asc_lem : (l : List Name) → Asc walk_order l → Asc walk_order (joined (map finds l))
  unfolding joined
  finds_asc_lem [] s = tt
  finds_asc_lem (a ∷ l) s = asc_append walk_order (finds a) (joined (map finds l)) (finds_asc a) (finds_asc_lem l s.1) (λ e f m n. later e f m (joined_mem f (map finds l) n))
    where
      later : (e f : Name) → list_mem e (finds a) → (k : List Name) × list_mem k (map finds l) × list_mem f k → walk_order e f ≡ ordering_lt
      later e f m w =
          let v = map_mem finds w.0 l w.1 in
          cross a v.0 e f (above_mem walk_order walk_total a v.0 l s.0 v.1) m (subst (λ (k : List Name). list_mem f k) v.2 w.2)
