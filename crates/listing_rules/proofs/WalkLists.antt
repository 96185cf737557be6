-- The lists that the walk comes to: the names asked are the different proper ancestors of the names that meet the criteria, and the names found are those names. Rests on Served and WalkMembers.
use Rattle.listing_rules.proofs.Prelude.{◌∙◌, ◌≡◌, ap, refl, subst, sym, Bool, cond, false, true, ◌⊎◌, inl, inr, List, list_mem}
use Rattle.listing_rules.proofs.Prelude.{list_mem_append_cases, list_mem_head, list_mem_not_nil, list_mem_tail, mem_append_left}
use Rattle.listing_rules.proofs.Prelude.{mem_append_right, [], ◌++◌, ◌∷◌, map, ordering_lt, ◌≤◌, suc, zero, ℕ, arith, length, length-append}
use Rattle.listing_rules.specs.Bytes.{slash, all}
use Rattle.listing_rules.specs.Lists.{keep, joined}
use Rattle.listing_rules.specs.Orders.{byte_order, sorted}
use Rattle.listing_rules.specs.Names.{name_byte, below, proper_ancestors, walk_order}
use Rattle.listing_rules.specs.Table.{Table, rows, passes}
use Rattle.listing_rules.specs.Listing.{candidate_meets}
use Rattle.listing_rules.specs.Demand3.{meeting_names, meeting_ancestors}
use Rattle.listing_rules.proofs.ListLaws.{mem_map_lem, map_mem, mem_joined, joined_mem, mem_keep, keep_mem}
use Rattle.listing_rules.proofs.Sorted.{Asc, asc_sorted, sorted_mem, mem_sorted, decided, asc_append, sorted_length}
use Rattle.listing_rules.proofs.Ancestors.{anc_below, below_anc, below_trans, candidates_closed}
use Rattle.listing_rules.proofs.Percent.{one_level}
use Rattle.listing_rules.proofs.Levels.{child, levels_one, levels_cons, Name, below_child, parent, ChildOf, TopOrChild}
use Rattle.listing_rules.proofs.WalkOrder.{walk_total}
use Rattle.listing_rules.proofs.LawfulNames.{good_parts}
use Rattle.listing_rules.proofs.Passes.{candidate_good}
use Rattle.listing_rules.proofs.Bfs.{depth, depth_child, walk_deeper, Good, served, served_asc}
use Rattle.listing_rules.proofs.Served.{left, queue_served, kids_served, served_only, runs_empty, finds_asc_lem}
use Rattle.listing_rules.proofs.Asked.{finds, asks}
use Rattle.listing_rules.proofs.WalkSets.{Walks}
use Rattle.listing_rules.proofs.WalkMembers.{M, Low, cands, find_to, find_from, ask_to, ask_from_lem, hit_top, top_hit, hit_below, below_hit}
use Rattle.listing_rules.proofs.WalkMembers.{top_deeper, below_deeper, finds_bytes, asks_bytes, tops_asc, kids_asc_lem, Hit}

-- what a command gives below a name; nothing below what is no name
abbrev pub under : (Name → List Name) → Name → List Name
under g a = cond (all name_byte a) (g (a ++ (slash ∷ []))) []

under_mem : (g : Name → List Name) (a z : Name) → list_mem z (under g a) → (all name_byte a ≡ true) × list_mem z (g (a ++ (slash ∷ [])))
under_mem g a z m = pick (all name_byte a) refl m
  where
    pick : (c : Bool) → all name_byte a ≡ c → list_mem z (cond c (g (a ++ (slash ∷ []))) []) → (all name_byte a ≡ true) × list_mem z (g (a ++ (slash ∷ [])))
    pick true e k = (e, k)
    pick false e k = absurd (list_mem_not_nil k)

mem_under : (g : Name → List Name) (a z : Name) → all name_byte a ≡ true → list_mem z (g (a ++ (slash ∷ []))) → list_mem z (under g a)
mem_under g a z e k = rw e k

module _ (t : Table) (o : ℕ) (wk : Walks t o) where
  -- it gives children, in walk order
  module _ (g : Name → List Name) (hits : (ref z : Name) → list_mem z (g ref) → Hit t o ref z) (bytes : (ref : Name) → Asc byte_order (g ref)) where
    under_shape : (a e : Name) → list_mem e (under g a) → ChildOf a e
    under_shape a e m = let w = under_mem g a e m in hit_below t o a e w.0 (hits (a ++ (slash ∷ [])) e w.1)

    under_asc : (a : Name) → Asc walk_order (under g a)
    under_asc a = kids_asc_lem t o a (under g a) (under_shape a) (pick (all name_byte a))
      where
        pick : (c : Bool) → Asc byte_order (cond c (g (a ++ (slash ∷ []))) [])
        pick true = bytes (a ++ (slash ∷ []))
        pick false = tt

  -- the names that are asked below a name, and those that are found there
  abbrev pub kids : Name → List Name
  kids a = under (asks t o) a

  abbrev pub finds' : Name → List Name
  finds' a = under (finds t o) a

  pub kids_shape : (a e : Name) → list_mem e (kids a) → ChildOf a e
  kids_shape = under_shape (asks t o) (λ ref z m. (ask_to t o wk ref z m).1) (asks_bytes t o)

  finds_shape : (a e : Name) → list_mem e (finds' a) → ChildOf a e
  finds_shape = under_shape (finds t o) (λ ref z m. (find_to t o wk ref z m).1) (finds_bytes t o)

  pub kids_asc : (a : Name) → Asc walk_order (kids a)
  kids_asc = under_asc (asks t o) (λ ref z m. (ask_to t o wk ref z m).1) (asks_bytes t o)

  finds_asc : (a : Name) → Asc walk_order (finds' a)
  finds_asc = under_asc (finds t o) (λ ref z m. (find_to t o wk ref z m).1) (finds_bytes t o)

  -- the first command
  top_one : (z : Name) → list_mem z (asks t o []) → one_level z ≡ true
  top_one z m = hit_top t o z (ask_to t o wk [] z m).1

  depth_one : (z : Name) → one_level z ≡ true → depth z ≡ 1
  depth_one z h = ap length (levels_one z h)

  top_good : Good (asks t o [])
  top_good = start (asks t o []) (tops_asc t o (asks t o []) top_one (asks_bytes t o [])) top_one
    where
      start : (l : List Name) → Asc walk_order l → ((z : Name) → list_mem z l → one_level z ≡ true) → Good l
      start [] s f = tt
      start (a ∷ l) s f = (s, λ e m. inl (depth_one e (f e (list_mem_tail m)) ∙ sym (depth_one a (f a (list_mem_head refl)))))

  -- all that is served, in its order
  abbrev pub fuel : ℕ
  fuel = suc (length (cands t o))

  abbrev pub P : List Name
  P = served kids fuel (asks t o [])

  pub low_cand : (z : Name) → Low t o z → list_mem z (cands t o)
  low_cand z l = candidates_closed (rows t) z l.0 l.1 (below_anc z l.0 l.2)

  kid_low : (a z : Name) → list_mem z (kids a) → Low t o z
  kid_low a z m = (ask_to t o wk (a ++ (slash ∷ [])) z (under_mem (asks t o) a z m).1).2

  -- what is served has a name below it that meets the criteria
  pub P-low : (z : Name) → list_mem z P → Low t o z
  P-low z m = served_only kids (λ z. Low t o z) (λ a z l k. kid_low a z k) fuel (asks t o []) (λ z k. (ask_to t o wk [] z k).2) z m

  pub P-ends : left kids fuel (asks t o []) ≡ []
  P-ends =
      runs_empty kids kids_asc kids_shape fuel (asks t o []) (sorted walk_order (cands t o)) top_good (asc_sorted walk_order walk_total (cands t o))
      (λ a z m k. sorted_mem walk_order walk_total z (cands t o) (low_cand z (kid_low a z k)))
      (λ z k. sorted_mem walk_order walk_total z (cands t o) (low_cand z (ask_to t o wk [] z k).2))
      (omega (arith, sorted_length walk_order (cands t o)))

  P-asc : Asc walk_order P
  P-asc = served_asc kids kids_asc kids_shape fuel (asks t o []) top_good

  -- all that is found, in its order
  abbrev pub F : List Name
  F = finds t o [] ++ joined (map finds' P)

  -- what is found meets the criteria
  F-only : (z : Name) → list_mem z F → list_mem z (cands t o) × (M t o z ≡ true)
  F-only z m = pick (list_mem_append_cases (finds t o []) m)
    where
      pick : list_mem z (finds t o []) ⊎ list_mem z (joined (map finds' P)) → list_mem z (cands t o) × (M t o z ≡ true)
      pick (inl k) = let w = find_to t o wk [] z k in (w.0, w.2)
      pick (inr k) =
          let j = joined_mem z (map finds' P) k in
          let v = map_mem finds' j.0 P j.1 in
          let w = find_to t o wk (v.0 ++ (slash ∷ [])) z (under_mem (finds t o) v.0 z (subst (λ (l : List Name). list_mem z l) v.2 j.2)).1 in
          (w.0, w.2)

  depth_pos : (a : Name) → 1 ≤ depth a
  depth_pos a = let w = levels_cons a in omega (arith, ap length w.2)

  F-asc : Asc walk_order F
  F-asc = asc_append walk_order (finds t o []) (joined (map finds' P)) tops (finds_asc_lem finds' finds_asc finds_shape P P-asc) cross
    where
      one : (z : Name) → list_mem z (finds t o []) → one_level z ≡ true
      one z m = hit_top t o z (find_to t o wk [] z m).1

      tops : Asc walk_order (finds t o [])
      tops = tops_asc t o (finds t o []) one (finds_bytes t o [])

      cross : (x y : Name) → list_mem x (finds t o []) → list_mem y (joined (map finds' P)) → walk_order x y ≡ ordering_lt
      cross x y m n =
          let j = joined_mem y (map finds' P) n in
          let v = map_mem finds' j.0 P j.1 in
          let w = finds_shape v.0 y (subst (λ (l : List Name). list_mem y l) v.2 j.2) in
          walk_deeper x y (omega (arith, depth_one x (one x m), ap depth w.1, depth_child v.0 w.0 w.2, depth_pos v.0))

  module _ (ok : passes t ≡ true) where
    cand_bytes : (z : Name) → list_mem z (cands t o) → all name_byte z ≡ true
    cand_bytes z m = (good_parts z (candidate_good t ok z m)).bytes

    kid_of : (p x : Name) → Low t o p → one_level x ≡ true → Low t o (child p x) → list_mem (child p x) (kids p)
    kid_of p x l h k =
        let g = cand_bytes p (low_cand p l) in
        mem_under (asks t o) p (child p x) g (ask_from_lem t o wk (p ++ (slash ∷ [])) (child p x) (λ d b i. below_deeper t o p x d g b i) (low_cand (child p x) k) (below_hit t o p x g h) k)

    low_parent : (p x : Name) → Low t o (child p x) → Low t o p
    low_parent p x l = (l.0, l.1, below_trans p (child p x) l.0 (below_child p x) l.2, l.3)

    P-top : (z : Name) → one_level z ≡ true → Low t o z → list_mem z P
    P-top z e l =
        queue_served kids fuel (asks t o []) P-ends z (ask_from_lem t o wk [] z (λ d b i. top_deeper t o z d b i) (low_cand z l) (top_hit t o z e) l)

    -- and every such name is served
    P-all : (n : ℕ) (z : Name) → length z ≤ n → Low t o z → list_mem z P
    P-all zero z h l = top (parent z)
      where
        top : TopOrChild z → list_mem z P
        top (inl e) = P-top z e l
        top (inr w) = absurd (omega (arith, ap length w.2, length-append w.0 (slash ∷ w.1)))
    P-all (suc n) z h l = step (parent z) (P-all n)
      where
        step : TopOrChild z → ((y : Name) → length y ≤ n → Low t o y → list_mem y P) → list_mem z P
        step (inl e) ih = P-top z e l
        step (inr w) ih =
            let k : Low t o (child w.0 w.1) = subst (λ (y : Name). Low t o y) w.2 l in
            let q = low_parent w.0 w.1 k in
            let m = ih w.0 (omega (arith, ap length w.2, length-append w.0 (slash ∷ w.1))) q in
            subst (λ (y : Name). list_mem y P) (sym w.2) (kids_served kids fuel (asks t o []) P-ends w.0 (child w.0 w.1) m (kid_of w.0 w.1 q w.3 k))

    P-has : (z : Name) → Low t o z → list_mem z P
    P-has z l = P-all (length z) z (omega arith) l

    -- and every such name is found
    F-has : (z : Name) → list_mem z (cands t o) → M t o z ≡ true → list_mem z F
    F-has z c m = pick (parent z)
      where
        pick : TopOrChild z → list_mem z F
        pick (inl e) = mem_append_left (joined (map finds' P)) (find_from t o wk [] z c (top_hit t o z e) m)
        pick (inr w) =
            let b : below w.0 z ≡ true = subst (λ (y : Name). below w.0 y ≡ true) (sym w.2) (below_child w.0 w.1) in
            let l : Low t o w.0 = (z, c, b, m) in
            let g = cand_bytes w.0 (low_cand w.0 l) in
            let hit = subst (λ (y : Name). list_mem y (finds t o (w.0 ++ (slash ∷ [])))) (sym w.2)
            (find_from t o wk (w.0 ++ (slash ∷ [])) (child w.0 w.1) (subst (λ (y : Name). list_mem y (cands t o)) w.2 c)
            (below_hit t o w.0 w.1 g w.3) (subst (λ (y : Name). M t o y ≡ true) w.2 m)) in
            mem_append_right (finds t o []) (mem_joined z (mem_under (finds t o) w.0 z g hit) (mem_map_lem finds' (P-has w.0 l)))

    -- so both are what the paper says
    pub F-is : F ≡ meeting_names (rows t) o
    unfolding meeting_names candidate_meets
    F-is =
        decided walk_order walk_total F (sorted walk_order (keep (M t o) (cands t o))) F-asc (asc_sorted walk_order walk_total (keep (M t o) (cands t o)))
        (λ z m. let w = F-only z m in sorted_mem walk_order walk_total z (keep (M t o) (cands t o)) (mem_keep (M t o) (cands t o) z w.0 w.1))
        (λ z m. let w = keep_mem (M t o) (cands t o) z (mem_sorted walk_order walk_total z (keep (M t o) (cands t o)) m) in F-has z w.0 w.1)

    met_low : (z : Name) → list_mem z (joined (map proper_ancestors (meeting_names (rows t) o))) → Low t o z
    met_low z m =
        let j = joined_mem z (map proper_ancestors (meeting_names (rows t) o)) m in
        let v = map_mem proper_ancestors j.0 (meeting_names (rows t) o) j.1 in
        let d : list_mem v.0 F = subst (λ (l : List Name). list_mem v.0 l) (sym F-is) v.1 in
        let w = F-only v.0 d in
        (v.0, w.0, anc_below z v.0 (subst (λ (l : List Name). list_mem z l) v.2 j.2), w.1)

    low_met : (z : Name) → Low t o z → list_mem z (joined (map proper_ancestors (meeting_names (rows t) o)))
    low_met z l =
        mem_joined z (below_anc z l.0 l.2) (mem_map_lem proper_ancestors (subst (λ (k : List Name). list_mem l.0 k) F-is (F-has l.0 l.1 l.3)))

    pub P-is : P ≡ meeting_ancestors (rows t) o
    unfolding meeting_ancestors
    P-is =
        decided walk_order walk_total P (sorted walk_order (joined (map proper_ancestors (meeting_names (rows t) o)))) P-asc
        (asc_sorted walk_order walk_total (joined (map proper_ancestors (meeting_names (rows t) o))))
        (λ z m. sorted_mem walk_order walk_total z (joined (map proper_ancestors (meeting_names (rows t) o))) (low_met z (P-low z m)))
        (λ z m. P-has z (met_low z (mem_sorted walk_order walk_total z (joined (map proper_ancestors (meeting_names (rows t) o))) m)))
