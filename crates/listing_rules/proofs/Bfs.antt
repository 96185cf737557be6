-- A queue of names, each of which puts its children at the end, is served in walk order. Rests on WalkOrder and Sorted.
use Rattle.listing_rules.proofs.Prelude.{◌∙◌, ◌≡◌, ap, refl, sym, true, ◌⊎◌, inl, inr, List, list_mem, list_mem_append_cases, list_mem_head}
use Rattle.listing_rules.proofs.Prelude.{list_mem_tail, [], ◌++◌, ◌∷◌, ordering_gt, ordering_lt, ◌<◌, suc, zero, ℕ, arith, length}
use Rattle.listing_rules.proofs.Prelude.{length-append}
use Rattle.listing_rules.specs.Orders.{then_by}
use Rattle.listing_rules.specs.Names.{levels, walk_order}
use Rattle.listing_rules.proofs.Order.{lt_compare, gt_compare}
use Rattle.listing_rules.proofs.Sorted.{Above, Asc, above_mem, above_trans, above_append, above_all, asc_append}
use Rattle.listing_rules.proofs.Percent.{one_level}
use Rattle.listing_rules.proofs.Levels.{child, levels_child, walk_children, walk_same_depth, Name, ChildOf}
use Rattle.listing_rules.proofs.WalkOrder.{walk_total}

abbrev pub depth : Name → ℕ
depth a = length (levels a)

pub depth_child : (a x : Name) → one_level x ≡ true → depth (child a x) ≡ suc (depth a)
depth_child a x h = ap length (levels_child a x h) ∙ length-append (levels a) (x ∷ []) ∙ omega arith

pub walk_deeper : (a b : Name) → depth a < depth b → walk_order a b ≡ ordering_lt
unfolding walk_order then_by
walk_deeper a b h = rw (lt_compare (depth a) (depth b) h)

pub walk_higher : (a b : Name) → depth b < depth a → walk_order a b ≡ ordering_gt
unfolding walk_order then_by
walk_higher a b h = rw (gt_compare (depth a) (depth b) h)

-- children of names in walk order
pub walk_cousins : (a b x y : Name) → depth a ≡ depth b → one_level x ≡ true → one_level y ≡ true → walk_order a b ≡ ordering_lt → walk_order (child a x) (child b y) ≡ ordering_lt
unfolding then_by
walk_cousins a b x y e h k l = walk_children a b x y e h k ∙ rw (sym (walk_same_depth a b e) ∙ l)

-- e is a child of some b before a, of a's depth
pub record Cousin (a e : Name) : Type 0 where
  pub parent : Name
  pub last : Name
  pub is : e ≡ child parent last
  pub one : one_level last ≡ true
  pub level : depth parent ≡ depth a
  pub earlier : walk_order parent a ≡ ordering_lt

-- what may stand in the queue behind a
abbrev pub Behind : Name → Name → Type 0
Behind a e = (depth e ≡ depth a) ⊎ Cousin a e

-- the queue ascends, and each in it has the depth of its first name or is a child of one served before
abbrev pub Good : List Name → Type 0
Good [] = Unit {0}
Good (a ∷ q) = Asc walk_order (a ∷ q) × ((e : Name) → list_mem e q → Behind a e)

-- the order of service: each name of the queue puts its children at the end
unfoldable pub served : (Name → List Name) → ℕ → List Name → List Name
served kids zero q = []
served kids (suc k) [] = []
served kids (suc k) (a ∷ q) = a ∷ served kids k (q ++ kids a)

module _ (kids : Name → List Name) (kids_asc : (a : Name) → Asc walk_order (kids a)) (kids_shape : (a e : Name) → list_mem e (kids a) → ChildOf a e) where
  kid_depth : (a e : Name) → list_mem e (kids a) → depth e ≡ suc (depth a)
  kid_depth a e m = let w = kids_shape a e m in ap depth w.1 ∙ depth_child a w.0 w.2

  cousin_depth : (a e : Name) → Cousin a e → depth e ≡ suc (depth a)
  cousin_depth a e c = ap depth c.is ∙ depth_child c.parent c.last c.one ∙ ap suc c.level

  -- what stands in the queue comes before the new children
  before_kid : (a e k : Name) → Behind a e → list_mem k (kids a) → walk_order e k ≡ ordering_lt
  before_kid a e k (inl d) m = walk_deeper e k (omega (arith, kid_depth a k m))
  before_kid a e k (inr c) m =
      let w = kids_shape a k m in
      rw (c.is, w.1) (walk_cousins c.parent a c.last w.0 c.level c.one w.2 c.earlier)

  later : (a b e : Name) → walk_order a b ≡ ordering_lt → depth b ≡ depth a → Behind a e → Behind b e
  later a b e l d (inl h) = inl (h ∙ sym d)
  later a b e l d (inr c) =
      inr (record { parent = c.parent; last = c.last; is = c.is; one = c.one; level = c.level ∙ sym d; earlier = walk_total.trans c.parent a b c.earlier l })

  kid_behind : (a b e : Name) → walk_order a b ≡ ordering_lt → depth b ≡ depth a → list_mem e (kids a) → Behind b e
  kid_behind a b e l d m =
      let w = kids_shape a e m in
      inr (record { parent = a; last = w.0; is = w.1; one = w.2; level = sym d; earlier = l })

  not_lt_higher : (b e : Name) → depth e < depth b → walk_order b e ≡ ordering_lt → ⊥
  not_lt_higher b e h l = let g = walk_higher b e h in let z : ◌≡◌ {A = ℕ} 0 1 = cc in omega arith

  good_next : (a : Name) (q : List Name) → Good (a ∷ q) → Good (q ++ kids a)
  good_next a [] g = start (kids a) (kids_asc a) (λ e m. kid_depth a e m)
    where
      start : (ks : List Name) → Asc walk_order ks → ((e : Name) → list_mem e ks → depth e ≡ suc (depth a)) → Good ks
      start [] s d = tt
      start (k ∷ ks) s d = (s, λ e m. inl (d e (list_mem_tail m) ∙ sym (d k (list_mem_head refl))))
  good_next a (b ∷ q) g =
      (asc_append walk_order (b ∷ q) (kids a) g.0.1 (kids_asc a) (λ e k m n. before_kid a e k (g.1 e m) n), λ e m. split e (list_mem_append_cases q m))
    where
      a<b : walk_order a b ≡ ordering_lt
      a<b = g.0.0.0

      old : (e : Name) → list_mem e q → Behind a b → Behind a e → Behind b e
      old e m (inl d) h = later a b e a<b d h
      old e m (inr c) (inl d) = absurd (not_lt_higher b e (omega (arith, cousin_depth a b c)) (above_mem walk_order walk_total b e q g.0.1.0 m))
      old e m (inr c) (inr k) = inl (cousin_depth a e k ∙ sym (cousin_depth a b c))

      new : (e : Name) → list_mem e (kids a) → Behind a b → Behind b e
      new e m (inl d) = kid_behind a b e a<b d m
      new e m (inr c) = inl (kid_depth a e m ∙ sym (cousin_depth a b c))

      split : (e : Name) → list_mem e q ⊎ list_mem e (kids a) → Behind b e
      split e (inl m) = old e m (g.1 b (list_mem_head refl)) (g.1 e (list_mem_tail m))
      split e (inr m) = new e m (g.1 b (list_mem_head refl))

  -- before the queue, before all that is served
  above_served : (k : ℕ) (w : Name) (q : List Name) → Above walk_order w q → Asc walk_order (served kids k q) → Above walk_order w (served kids k q)
  unfolding served
  above_served zero w q a s = tt
  above_served (suc k) w [] a s = tt
  above_served (suc k) w (x ∷ q) a s = (a.0, above_trans walk_order walk_total w x (served kids k (q ++ kids x)) a.0 s.0)

  above_next : (a : Name) (q : List Name) → Good (a ∷ q) → Above walk_order a (q ++ kids a)
  above_next a q g = above_append walk_order a q (kids a) g.0.0 (above_all walk_order a (kids a) (λ k m. walk_deeper a k (omega (arith, kid_depth a k m))))

  pub served_asc : (k : ℕ) (q : List Name) → Good q → Asc walk_order (served kids k q)
  unfolding served
  served_asc zero q g = tt
  served_asc (suc k) [] g = tt
  served_asc (suc k) (a ∷ q) g =
      let s = served_asc k (q ++ kids a) (good_next a q g) in
      (above_served k a (q ++ kids a) (above_next a q g) s, s)
