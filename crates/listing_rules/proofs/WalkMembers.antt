-- Which names a command of the collector finds, and which it asks next; both lists ascend in walk order. Rests on WalkSets and Asked.
use Rattle.listing_rules.proofs.Prelude.{◌∙◌, ◌≡◌, ap, refl, subst, sym, Bool, ◌&&◌, false, false≢true, not, true, List, list_mem, [], ◌++◌}
use Rattle.listing_rules.proofs.Prelude.{◌∷◌, append_assoc, append_cancel_left, tail-eq_of_cons-eq, ordering_lt, ℕ, eqb, length}
use Rattle.listing_rules.specs.Bytes.{slash, all}
use Rattle.listing_rules.proofs.Keys.{open_bytes}
use Rattle.listing_rules.specs.Lists.{any_of}
use Rattle.listing_rules.specs.Orders.{lex_by, byte_order}
use Rattle.listing_rules.specs.Names.{name_byte, below, level_order, walk_order}
use Rattle.listing_rules.specs.Table.{Table, rows, flags_of}
use Rattle.listing_rules.specs.Match.{matches_any}
use Rattle.listing_rules.specs.Options.{is_none}
use Rattle.listing_rules.specs.Listing.{candidates, meets_criteria, candidate_meets, meets_below, meets_unmatched_below, listed, listed_names}
use Rattle.listing_rules.specs.Walk.{is_find}
use Rattle.listing_rules.specs.Demand3.{walk_options}
use Rattle.listing_rules.proofs.Bools.{and_l, and_r, and_i, or_l, or_r}
use Rattle.listing_rules.proofs.ListLaws.{all_right, keep_mem, mem_keep, some_mem, mem_some}
use Rattle.listing_rules.proofs.Order.{bytes_total, then_by_eq}
use Rattle.listing_rules.proofs.Sorted.{Asc, asc_sorted, asc_keep, asc_other}
use Rattle.listing_rules.proofs.Percent.{one_level}
use Rattle.listing_rules.proofs.Levels.{child, levels_one, walk_siblings, walk_same_depth, Name, ChildOf}
use Rattle.listing_rules.proofs.LawfulNames.{below_split}
use Rattle.listing_rules.proofs.Asked.{pats, attrs_of, child_of, names_listed_lem, finds, asks}
use Rattle.listing_rules.proofs.WalkSets.{Walks, find_met, walk_asks, walk_listed, matches_top, matches_below}

-- names of one level: walk order is byte order
walk_tops : (x y : Name) → one_level x ≡ true → one_level y ≡ true → walk_order x y ≡ byte_order x y
unfolding level_order lex_by
walk_tops x y h k =
    walk_same_depth x y (ap length (levels_one x h) ∙ sym (ap length (levels_one y k)))
    ∙ rw (levels_one x h, levels_one y k) (then_by_eq (byte_order x y))

module _ (t : Table) (o : ℕ) where
  abbrev pub cands : List Name
  cands = candidates (rows t)

  -- the name meets the criteria
  abbrev pub M : Name → Bool
  M n = meets_criteria (walk_options o) (flags_of (rows t) n)

  -- some candidate below it does
  abbrev pub Low : Name → Type 0
  Low z = (d : Name) × list_mem d cands × (below z d ≡ true) × (M d ≡ true)

  -- its line has CHILDINFO
  abbrev asks_below : Name → Name → Bool
  asks_below ref n = not (is_none (child_of t o ref n))

  abbrev pub Hit : Name → Name → Type 0
  Hit ref z = matches_any (pats t o ref) z ≡ true

  pub find_to : Walks t o → (ref z : Name) → list_mem z (finds t o ref) → list_mem z cands × Hit ref z × (M z ≡ true)
  unfolding listed_names candidate_meets
  find_to wk ref z m =
      let w = keep_mem (λ n. is_find o (attrs_of t o ref n)) (names_listed_lem t o ref) z m in
      let v = keep_mem (listed (rows t) (walk_options o) (pats t o ref)) cands z w.0 in
      (v.0, and_l (matches_any (pats t o ref) z) _ (sym (walk_listed (rows t) o (pats t o ref) z) ∙ v.1), sym (find_met t o wk (pats t o ref) z) ∙ w.1)

  pub find_from : Walks t o → (ref z : Name) → list_mem z cands → Hit ref z → M z ≡ true → list_mem z (finds t o ref)
  unfolding listed_names candidate_meets
  find_from wk ref z c h m =
      mem_keep (λ n. is_find o (attrs_of t o ref n)) (names_listed_lem t o ref) z
      (mem_keep (listed (rows t) (walk_options o) (pats t o ref)) cands z c (walk_listed (rows t) o (pats t o ref) z ∙ and_i (matches_any (pats t o ref) z) _ h (or_l (M z) _ m)))
      (find_met t o wk (pats t o ref) z ∙ m)

  pub ask_to : Walks t o → (ref z : Name) → list_mem z (asks t o ref) → list_mem z cands × Hit ref z × Low z
  unfolding listed_names candidate_meets meets_below walk_options
  ask_to wk ref z m =
      let w = keep_mem (asks_below ref) (names_listed_lem t o ref) z m in
      let v = keep_mem (listed (rows t) (walk_options o) (pats t o ref)) cands z w.0 in
      let s = some_mem (λ d. below z d && M d) cands (sym (walk_asks (rows t) o wk.1 z) ∙ w.1) in (
        v.0,
        and_l (matches_any (pats t o ref) z) _ (sym (walk_listed (rows t) o (pats t o ref) z) ∙ v.1),
        (s.0, s.1, and_l (below z s.0) (M s.0) s.2, and_r (below z s.0) (M s.0) s.2),
      )

  pub ask_from_lem : Walks t o → (ref z : Name) → ((d : Name) → below z d ≡ true → Hit ref d → ⊥) → list_mem z cands → Hit ref z → Low z → list_mem z (asks t o ref)
  unfolding listed_names candidate_meets meets_below meets_unmatched_below walk_options
  ask_from_lem wk ref z deeper c h l =
      mem_keep (asks_below ref) (names_listed_lem t o ref) z
      (mem_keep (listed (rows t) (walk_options o) (pats t o ref)) cands z c (walk_listed (rows t) o (pats t o ref) z ∙ and_i (matches_any (pats t o ref) z) _ h (or_r (M z) _ unmatched)))
      (walk_asks (rows t) o wk.1 z ∙ mem_some (λ d. below z d && M d) cands l.0 l.1 (and_i (below z l.0) (M l.0) l.2 l.3))
    where
      no_hit : (d : Name) → below z d ≡ true → (b : Bool) → matches_any (pats t o ref) d ≡ b → not b ≡ true
      no_hit d e true q = absurd (deeper d e q)
      no_hit d e false q = refl

      unmatched : any_of (λ d. below z d && M d && not (matches_any (pats t o ref) d)) cands ≡ true
      unmatched =
          mem_some (λ d. below z d && M d && not (matches_any (pats t o ref) d)) cands l.0 l.1
          (and_i (below z l.0 && M l.0) (not (matches_any (pats t o ref) l.0)) (and_i (below z l.0) (M l.0) l.2 l.3) (no_hit l.0 l.2 (matches_any (pats t o ref) l.0) refl))

  -- the top, and below a name
  pub hit_top : (z : Name) → Hit [] z → one_level z ≡ true
  unfolding open_bytes
  hit_top z h = sym (matches_top z) ∙ h

  pub top_hit : (z : Name) → one_level z ≡ true → Hit [] z
  unfolding open_bytes
  top_hit z h = matches_top z ∙ h

  pub hit_below : (a z : Name) → all name_byte a ≡ true → Hit (a ++ (slash ∷ [])) z → ChildOf a z
  unfolding open_bytes
  hit_below a z g h = (matches_below a z g).0 h

  pub below_hit : (a x : Name) → all name_byte a ≡ true → one_level x ≡ true → Hit (a ++ (slash ∷ [])) (child a x)
  unfolding open_bytes
  below_hit a x g h = (matches_below a (child a x) g).1 (x, refl, h)

  no_slash : (x m : Name) → one_level (x ++ (slash ∷ m)) ≡ true → ⊥
  unfolding open_bytes
  no_slash x m h = false≢true (all_right (λ b. not (eqb b slash)) x (slash ∷ m) h)

  pub top_deeper : (z d : Name) → below z d ≡ true → Hit [] d → ⊥
  top_deeper z d b h =
      let w = below_split z d b in
      no_slash z w.0 (subst (λ (x : Name). one_level x ≡ true) w.1 (hit_top d h))

  pub below_deeper : (a x d : Name) → all name_byte a ≡ true → below (child a x) d ≡ true → Hit (a ++ (slash ∷ [])) d → ⊥
  below_deeper a x d g b h =
      let w = below_split (child a x) d b in
      let v = hit_below a d g h in
      let e : Path (List ℕ) (slash ∷ v.0) (slash ∷ (x ++ (slash ∷ w.0))) = append_cancel_left a _ _ (sym v.1 ∙ w.1 ∙ append_assoc a (slash ∷ x) (slash ∷ w.0)) in
      no_slash x w.0 (subst (λ (y : Name). one_level y ≡ true) (tail-eq_of_cons-eq e) v.2)

  -- both lists ascend in walk order
  cands_asc : Asc byte_order cands
  unfolding candidates
  cands_asc = asc_sorted byte_order bytes_total _

  listed_asc : (ref : Name) → Asc byte_order (names_listed_lem t o ref)
  unfolding listed_names
  listed_asc ref = asc_keep byte_order (listed (rows t) (walk_options o) (pats t o ref)) cands cands_asc

  pub finds_bytes : (ref : Name) → Asc byte_order (finds t o ref)
  finds_bytes ref = asc_keep byte_order (λ n. is_find o (attrs_of t o ref n)) (names_listed_lem t o ref) (listed_asc ref)

  pub asks_bytes : (ref : Name) → Asc byte_order (asks t o ref)
  asks_bytes ref = asc_keep byte_order (asks_below ref) (names_listed_lem t o ref) (listed_asc ref)

  pub tops_asc : (l : List Name) → ((z : Name) → list_mem z l → one_level z ≡ true) → Asc byte_order l → Asc walk_order l
  tops_asc l f s = asc_other byte_order walk_order l (λ x y m n e. walk_tops x y (f x m) (f y n) ∙ e) s

  pub kids_asc_lem : (a : Name) (l : List Name) → ((z : Name) → list_mem z l → ChildOf a z) → Asc byte_order l → Asc walk_order l
  kids_asc_lem a l f s = asc_other byte_order walk_order l (λ x y m n e. pair x y (f x m) (f y n) e) s
    where
      pair : (x y : Name) → ChildOf a x → ChildOf a y → byte_order x y ≡ ordering_lt → walk_order x y ≡ ordering_lt
      pair x y w v e =
          rw (w.1, v.1) (walk_siblings a w.0 v.0 w.2 v.2 ∙ (rw (w.1, v.1) at e))
