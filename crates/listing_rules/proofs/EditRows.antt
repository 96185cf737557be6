-- Rows of which the one of a name is put in, taken out or changed (W6): the others stay, the rows still pass, and of the subscribed names no other
-- comes or goes. Rests on EditLists and Passes.
use Rattle.listing_rules.proofs.Prelude.{◌∙◌, ◌≡◌, ap, refl, subst, sym, Bool, ◌&&◌, ◌||◌, and-true, cond, false, false≢true, not, or-false}
use Rattle.listing_rules.proofs.Prelude.{true, ◌⊎◌, inl, inr, ⊎_elim, List, list_mem, list_mem_append_cases, list_mem_head, list_mem_tail}
use Rattle.listing_rules.proofs.Prelude.{[], ◌++◌, ◌∷◌, append-nil, map, map-append, ordering_lt, ◌≤◌, ℕ, length, not-true}
use Rattle.listing_rules.specs.Bytes.{same}
use Rattle.listing_rules.specs.Lists.{every, any_of, keep}
use Rattle.listing_rules.specs.Orders.{byte_order, is_lt}
use Rattle.listing_rules.specs.Names.{lawful_name, below}
use Rattle.listing_rules.specs.Flags.{subscribed, no_inferiors, lawful_flags}
use Rattle.listing_rules.specs.Table.{Row, names, none_below}
use Rattle.listing_rules.specs.Subscriptions.{is_in}
use Rattle.listing_rules.proofs.ListLaws.{every_mem, mem_every, none_mem, map_mem, same_refl, same_true}
use Rattle.listing_rules.proofs.Order.{bytes_total}
use Rattle.listing_rules.proofs.Sorted.{Asc, asc_append, irrefl, lt_true, ascends_asc}
use Rattle.listing_rules.proofs.Passes.{TableParts}
use Rattle.listing_rules.proofs.EditLists.{any_append, mem_none, keep_append, keep_none, keep_all, every_swapped, mem_swapped, asc_left}
use Rattle.listing_rules.proofs.EditLists.{asc_right, asc_ascends}

-- Rows before and after an edit of the name n: those of lower and of higher names stay, in their order.
pub record Change (rs qs : List Row) (n : List ℕ) : Type 0 where
  pub lower : List Row
  pub old : List Row
  pub new : List Row
  pub upper : List Row
  pub was : rs ≡ lower ++ (old ++ upper)
  pub is : qs ≡ lower ++ (new ++ upper)
  pub lower_names : every (λ (r : Row). is_lt (byte_order r.name n)) lower ≡ true
  pub upper_names : every (λ (r : Row). is_lt (byte_order n r.name)) upper ≡ true
  pub old_names : every (λ (r : Row). same r.name n) old ≡ true
  pub new_names : every (λ (r : Row). same r.name n) new ≡ true

-- the rows of lower names, the row of the name n or none, and the rows of higher names
unfoldable pub rows_with : List Row → List ℕ → List Row → List Row
rows_with rs n row = keep (λ r. is_lt (byte_order r.name n)) rs ++ (row ++ keep (λ r. is_lt (byte_order n r.name)) rs)

-- what of a change the check asks: the new row is lawful, and lies below no row with no inferiors; if it has none itself, so had the old one
pub record Sound (rs qs : List Row) (n : List ℕ) (c : Change rs qs n) : Type 0 where
  pub few : length qs ≤ 512
  pub lawful_names : every (λ (r : Row). lawful_name r.name) c.new ≡ true
  pub lawful_flags_lem : every (λ (r : Row). lawful_flags r.flags) c.new ≡ true
  pub single : Asc byte_order (names c.new)
  pub open_above : (r : Row) → list_mem r rs → no_inferiors r.flags ≡ true → (q : Row) → list_mem q c.new → below r.name q.name ≡ false
  pub shut_before : (r : Row) → list_mem r c.new → no_inferiors r.flags ≡ true → (o : Row) × list_mem o rs × (o.name ≡ r.name) × (no_inferiors o.flags ≡ true)

-- names of rows in parts
names_parts : (a b d : List Row) → names (a ++ (b ++ d)) ≡ names a ++ (names b ++ names d)
unfolding names
names_parts a b d = map-append (λ (r : Row). r.name) a (b ++ d) ∙ ap (λ (l : List (List ℕ)). map (λ (r : Row). r.name) a ++ l) (map-append (λ (r : Row). r.name) b d)

name_row : (l : List Row) (x : List ℕ) → list_mem x (names l) → (r : Row) × list_mem r l × (x ≡ r.name)
unfolding names
name_row l x m = map_mem (λ (r : Row). r.name) x l m

-- whether a name is one of the subscribed rows'
unfoldable pub subscribed_in : List Row → List ℕ → Bool
subscribed_in rs m = is_in (map (λ r. r.name) (keep (λ r. subscribed r.flags) rs)) m

subscribed_test : (rs : List Row) (m : List ℕ) → subscribed_in rs m ≡ any_of (λ (r : Row). subscribed r.flags && same m r.name) rs
unfolding subscribed_in is_in keep any_of
subscribed_test [] m = refl
subscribed_test (r ∷ rs) m = go (subscribed r.flags) (subscribed_test rs m)
  where
    rest : Bool
    rest = any_of (λ (q : Row). subscribed q.flags && same m q.name) rs

    go : (o : Bool) → subscribed_in rs m ≡ rest
        → is_in (map (λ q. q.name) (cond o (r ∷ keep (λ q. subscribed q.flags) rs) (keep (λ q. subscribed q.flags) rs))) m
        ≡ ((o && same m r.name) || rest)
    go true e = ap (λ (b : Bool). same m r.name || b) e
    go false e = e

false_right : (a b : Bool) → b ≡ false → (a && b) ≡ false
false_right true b e = e
false_right false b e = refl

same_other : (n m x : List ℕ) → x ≡ n → same n m ≡ false → same m x ≡ false
same_other n m x e d = go (same m x) refl
  where
    go : (b : Bool) → same m x ≡ b → b ≡ false
    go true q = absurd (false≢true (sym d ∙ ap (same n) (same_true m x q ∙ e) ∙ same_refl n))
    go false q = refl

any_same : (p q : Row → Bool) (l : List Row) → ((z : Row) → list_mem z l → p z ≡ q z) → any_of p l ≡ any_of q l
unfolding any_of
any_same p q [] f = refl
any_same p q (x ∷ l) f = rw (f x (list_mem_head refl), any_same p q l (λ z m. f z (list_mem_tail m)))

module _ (rs qs : List Row) (n : List ℕ) (c : Change rs qs n) where
  lower_lt : (r : Row) → list_mem r c.lower → byte_order r.name n ≡ ordering_lt
  lower_lt r m = lt_true (byte_order r.name n) (every_mem (λ (r : Row). is_lt (byte_order r.name n)) c.lower c.lower_names r m)

  upper_lt : (r : Row) → list_mem r c.upper → byte_order n r.name ≡ ordering_lt
  upper_lt r m = lt_true (byte_order n r.name) (every_mem (λ (r : Row). is_lt (byte_order n r.name)) c.upper c.upper_names r m)

  old_is : (r : Row) → list_mem r c.old → r.name ≡ n
  old_is r m = same_true r.name n (every_mem (λ (r : Row). same r.name n) c.old c.old_names r m)

  new_is : (r : Row) → list_mem r c.new → r.name ≡ n
  new_is r m = same_true r.name n (every_mem (λ (r : Row). same r.name n) c.new c.new_names r m)

  -- "the other rows keeping name, flags and order"
  pub others_kept : keep (λ (r : Row). not (same r.name n)) qs ≡ keep (λ (r : Row). not (same r.name n)) rs
  others_kept = ap (keep other) c.is ∙ parts c.new (λ r m. named r (new_is r m)) ∙ sym (parts c.old (λ r m. named r (old_is r m))) ∙ ap (keep other) (sym c.was)
    where
      other : Row → Bool
      other r = not (same r.name n)

      named : (r : Row) → r.name ≡ n → other r ≡ false
      named r e = ap not (ap (λ (x : List ℕ). same x n) e ∙ same_refl n)

      parts : (mid : List Row) → ((r : Row) → list_mem r mid → other r ≡ false) → keep other (c.lower ++ (mid ++ c.upper)) ≡ keep other c.lower ++ keep other c.upper
      parts mid f = keep_append other c.lower (mid ++ c.upper)
          ∙ ap (λ (l : List Row). keep other c.lower ++ l)
          (keep_append other mid c.upper ∙ ap (λ (l : List Row). l ++ keep other c.upper) (keep_none other mid f))

  -- the names still ascend
  still_ascends : Asc byte_order (names c.new) → Asc byte_order (names rs) → Asc byte_order (names qs)
  still_ascends single s =
      subst (Asc byte_order) (sym (ap names c.is ∙ names_parts c.lower c.new c.upper))
      (asc_append byte_order (names c.lower) (names c.new ++ names c.upper) (asc_left byte_order (names c.lower) (names c.old ++ names c.upper) before)
      (asc_append byte_order (names c.new) (names c.upper) single
      (asc_right byte_order (names c.old) (names c.upper) (asc_right byte_order (names c.lower) (names c.old ++ names c.upper) before)) above)
      under)
    where
      before : Asc byte_order (names c.lower ++ (names c.old ++ names c.upper))
      before = subst (Asc byte_order) (ap names c.was ∙ names_parts c.lower c.old c.upper) s

      new_name : (y : List ℕ) → list_mem y (names c.new) → y ≡ n
      new_name y m = let w = name_row c.new y m in w.2 ∙ new_is w.0 w.1

      lower_name : (x : List ℕ) → list_mem x (names c.lower) → byte_order x n ≡ ordering_lt
      lower_name x m = let w = name_row c.lower x m in subst (λ (z : List ℕ). byte_order z n ≡ ordering_lt) (sym w.2) (lower_lt w.0 w.1)

      upper_name : (x : List ℕ) → list_mem x (names c.upper) → byte_order n x ≡ ordering_lt
      upper_name x m = let w = name_row c.upper x m in subst (λ (z : List ℕ). byte_order n z ≡ ordering_lt) (sym w.2) (upper_lt w.0 w.1)

      above : (x y : List ℕ) → list_mem x (names c.new) → list_mem y (names c.upper) → byte_order x y ≡ ordering_lt
      above x y m k = subst (λ (z : List ℕ). byte_order z y ≡ ordering_lt) (sym (new_name x m)) (upper_name y k)

      under : (x y : List ℕ) → list_mem x (names c.lower) → list_mem y (names c.new ++ names c.upper) → byte_order x y ≡ ordering_lt
      under x y m k =
          ⊎_elim (λ j. subst (λ (z : List ℕ). byte_order x z ≡ ordering_lt) (sym (new_name y j)) (lower_name x m))
          (λ j. bytes_total.trans x n y (lower_name x m) (upper_name y j))
          (list_mem_append_cases (names c.new) k)

  -- no row lies below a row with no inferiors
  still_open : Sound rs qs n c → every (λ r. none_below rs r) rs ≡ true → every (λ r. none_below qs r) qs ≡ true
  unfolding none_below
  still_open d h = mem_every (λ r. none_below qs r) qs (λ r m. judge r m (no_inferiors r.flags) refl)
    where
      back : (r : Row) → list_mem r qs → list_mem r c.new ⊎ list_mem r rs
      back r m =
          ⊎_elim inl (λ k. inr (subst (λ (l : List Row). list_mem r l) (sym c.was) k))
          (mem_swapped c.lower c.old c.new c.upper r (subst (λ (l : List Row). list_mem r l) c.is m))

      -- of the rows before
      shut : (r : Row) → list_mem r rs → no_inferiors r.flags ≡ true → (q : Row) → list_mem q qs → below r.name q.name ≡ false
      shut r m e q k = ⊎_elim (d.open_above r m e q) (none_mem (λ (x : Row). below r.name x.name) rs none q) (back q k)
        where
          none : any_of (λ (x : Row). below r.name x.name) rs ≡ false
          none =
              not-true (any_of (λ (x : Row). below r.name x.name) rs)
              (subst (λ (o : Bool). (not o || not (any_of (λ (x : Row). below r.name x.name) rs)) ≡ true) e (every_mem (λ r. none_below rs r) rs h r m))

      none_under : (r : Row) → no_inferiors r.flags ≡ true → list_mem r c.new ⊎ list_mem r rs → (q : Row) → list_mem q qs → below r.name q.name ≡ false
      none_under r e (inl m) q k =
          let w = d.shut_before r m e in
          subst (λ (x : List ℕ). below x q.name ≡ false) w.2 (shut w.0 w.1 w.3 q k)
      none_under r e (inr m) q k = shut r m e q k

      judge : (r : Row) → list_mem r qs → (o : Bool) → no_inferiors r.flags ≡ o → (not o || not (any_of (λ (q : Row). below r.name q.name) qs)) ≡ true
      judge r m true e = ap not (mem_none (λ (q : Row). below r.name q.name) qs (none_under r e (back r m)))
      judge r m false e = refl

  -- the rows before it and the name's own row decide the rows after it
  pub changed_rows : qs ≡ rows_with rs n c.new
  unfolding rows_with
  changed_rows = c.is ∙ sym (λ i. (ap (keep low) c.was ∙ lower_kept) i ++ (c.new ++ (ap (keep high) c.was ∙ upper_kept) i))
    where
      low : Row → Bool
      low r = is_lt (byte_order r.name n)

      high : Row → Bool
      high r = is_lt (byte_order n r.name)

      not_lt : (x y : List ℕ) → (byte_order x y ≡ ordering_lt → ⊥) → is_lt (byte_order x y) ≡ false
      not_lt x y f = go (is_lt (byte_order x y)) refl
        where
          go : (b : Bool) → is_lt (byte_order x y) ≡ b → b ≡ false
          go true e = absurd (f (lt_true (byte_order x y) e))
          go false e = refl

      own : (x y : List ℕ) → x ≡ y → byte_order x y ≡ ordering_lt → ⊥
      own x y e l = irrefl byte_order bytes_total y (subst (λ (z : List ℕ). byte_order z y ≡ ordering_lt) e l)

      turned : (x y : List ℕ) → byte_order y x ≡ ordering_lt → byte_order x y ≡ ordering_lt → ⊥
      turned x y l k = irrefl byte_order bytes_total x (bytes_total.trans x y x k l)

      lower_kept : keep low (c.lower ++ (c.old ++ c.upper)) ≡ c.lower
      lower_kept =
          keep_append low c.lower (c.old ++ c.upper)
          ∙ (λ i. keep_all low c.lower c.lower_names i ++ keep_none low (c.old ++ c.upper)
          (λ r m. ⊎_elim (λ k. not_lt r.name n (own r.name n (old_is r k))) (λ k. not_lt r.name n (turned r.name n (upper_lt r k)))
          (list_mem_append_cases c.old m)) i)
          ∙ append-nil c.lower

      upper_kept : keep high (c.lower ++ (c.old ++ c.upper)) ≡ c.upper
      upper_kept =
          keep_append high c.lower (c.old ++ c.upper)
          ∙ (λ i. keep_none high c.lower (λ r k. not_lt n r.name (turned n r.name (lower_lt r k))) i ++ keep high (c.old ++ c.upper))
          ∙ keep_append high c.old c.upper
          ∙ (λ i. keep_none high c.old (λ r k. not_lt n r.name (own n r.name (sym (old_is r k)))) i ++ keep_all high c.upper c.upper_names i)

  -- the rows still pass
  pub still_parts : Sound rs qs n c → TableParts rs → TableParts qs
  still_parts d p =
      record {
        few = d.few;
        lawful_names = swapped (λ (r : Row). lawful_name r.name) p.lawful_names d.lawful_names;
        lawful_flags_lem = swapped (λ (r : Row). lawful_flags r.flags) p.lawful_flags_lem d.lawful_flags_lem;
        ascend = asc_ascends (names qs) (still_ascends d.single (ascends_asc (names rs) p.ascend));
        inferiors = still_open d p.inferiors;
      }
    where
      swapped : (t : Row → Bool) → every t rs ≡ true → every t c.new ≡ true → every t qs ≡ true
      swapped t h g = ap (every t) c.is ∙ every_swapped t c.lower c.old c.new c.upper (ap (every t) (sym c.was) ∙ h) g

  -- the subscribed names: the name itself as the new row says, the others as before
  pub set_changed : (m : List ℕ) → subscribed_in qs m ≡ cond (same n m) (any_of (λ (r : Row). subscribed r.flags) c.new) (subscribed_in rs m)
  set_changed m = go (same n m) refl
    where
      test : Row → Bool
      test r = subscribed r.flags && same m r.name

      other : (mid : List Row) → ((r : Row) → list_mem r mid → r.name ≡ n) → same n m ≡ false → any_of test (c.lower ++ (mid ++ c.upper)) ≡ (any_of test c.lower || any_of test c.upper)
      other mid f e = any_append test c.lower (mid ++ c.upper)
          ∙ ap (λ (b : Bool). any_of test c.lower || b)
          (any_append test mid c.upper ∙ ap (λ (b : Bool). b || any_of test c.upper) (mem_none test mid away))
        where
          away : (r : Row) → list_mem r mid → test r ≡ false
          away r k = false_right (subscribed r.flags) (same m r.name) (same_other n m r.name (f r k) e)

      its_own : same n m ≡ true → any_of test (c.lower ++ (c.new ++ c.upper)) ≡ any_of (λ (r : Row). subscribed r.flags) c.new
      its_own e =
          any_append test c.lower (c.new ++ c.upper)
          ∙ ap (λ (b : Bool). b || any_of test (c.new ++ c.upper)) (mem_none test c.lower (λ r k. false_right (subscribed r.flags) (same m r.name) (unlike r.name (inl (lower_lt r k)))))
          ∙ any_append test c.new c.upper
          ∙ ap (λ (b : Bool). any_of test c.new || b) (mem_none test c.upper (λ r k. false_right (subscribed r.flags) (same m r.name) (unlike r.name (inr (upper_lt r k)))))
          ∙ or-false (any_of test c.new)
          ∙ any_same test (λ (r : Row). subscribed r.flags) c.new alike
        where
          is_n : n ≡ m
          is_n = same_true n m e

          unlike : (x : List ℕ) → (byte_order x n ≡ ordering_lt) ⊎ (byte_order n x ≡ ordering_lt) → same m x ≡ false
          unlike x o = go (same m x) refl
            where
              go : (b : Bool) → same m x ≡ b → b ≡ false
              go true q =
                  let xn : x ≡ n = sym (is_n ∙ same_true m x q) in
                  absurd (irrefl byte_order bytes_total n (⊎_elim (subst (λ (z : List ℕ). byte_order z n ≡ ordering_lt) xn) (subst (λ (z : List ℕ). byte_order n z ≡ ordering_lt) xn) o))
              go false q = refl

          alike : (r : Row) → list_mem r c.new → test r ≡ subscribed r.flags
          alike r k =
              ap (λ (b : Bool). subscribed r.flags && b) (ap (same m) (new_is r k ∙ is_n) ∙ same_refl m)
              ∙ and-true (subscribed r.flags)

      go : (o : Bool) → same n m ≡ o → subscribed_in qs m ≡ cond o (any_of (λ (r : Row). subscribed r.flags) c.new) (subscribed_in rs m)
      go true e = subscribed_test qs m ∙ ap (any_of test) c.is ∙ its_own e
      go false e =
          subscribed_test qs m ∙ ap (any_of test) c.is ∙ other c.new new_is e ∙ sym (other c.old old_is e) ∙ ap (any_of test) (sym c.was) ∙ sym (subscribed_test rs m)
