-- The flags of a name: those of its one row, and 0 for an implied name, which never meets the criteria; so what is asked of candidates is asked of rows. Rests on Ancestors.
use Rattle.listing_rules.proofs.Prelude.{◌∙◌, ◌≡◌, ap, refl, subst, sym, Bool, ◌&&◌, ◌||◌, and-false, cond, false, false≢true, not, true}
use Rattle.listing_rules.proofs.Prelude.{⊎_elim, List, list_mem, list_mem_cases_cons, list_mem_head, list_mem_not_nil, [], ◌∷◌}
use Rattle.listing_rules.proofs.Prelude.{ordering_lt, ℕ, not-true}
use Rattle.listing_rules.specs.Bytes.{same, bit}
use Rattle.listing_rules.specs.Lists.{any_of, keep}
use Rattle.listing_rules.specs.Orders.{byte_order, ascends}
use Rattle.listing_rules.specs.Names.{below}
use Rattle.listing_rules.specs.Flags.{exists, subscribed, remote, has_use}
use Rattle.listing_rules.specs.Table.{Row, names, has_row, flags_of}
use Rattle.listing_rules.specs.Options.{Options}
use Rattle.listing_rules.specs.Match.{matches_any}
use Rattle.listing_rules.specs.Listing.{candidates, implied, meets_criteria, candidate_meets, meets_below, meets_unmatched_below, unselective}
use Rattle.listing_rules.specs.Listing.{ends_in_percent, level_above, has_children}
use Rattle.listing_rules.proofs.Bools.{and_l, and_r, and_assoc, or_none_l, or_none_r, bools_equal}
use Rattle.listing_rules.proofs.ListLaws.{some_mem, mem_some, mem_map_lem, any_cong, same_refl, same_true}
use Rattle.listing_rules.proofs.Order.{bytes_total}
use Rattle.listing_rules.proofs.Sorted.{Asc, above_mem, irrefl, ascends_asc}
use Rattle.listing_rules.proofs.Ancestors.{candidate}

-- an implied name has flags 0
no_row_flags : (rs : List Row) (n : List ℕ) → has_row rs n ≡ false → flags_of rs n ≡ 0
unfolding has_row flags_of any_of
no_row_flags [] n h = refl
no_row_flags (r ∷ rs) n h = rw (or_none_l (same r.name n) (has_row rs n) h) (no_row_flags rs n (or_none_r (same r.name n) (has_row rs n) h))

pub implied_flags : (rs : List Row) (n : List ℕ) → implied rs n ≡ true → flags_of rs n ≡ 0
unfolding implied
implied_flags rs n h = no_row_flags rs n (not-true (has_row rs n) h)

-- and flags 0 meet no criteria
pub meets_zero : (o : Options) → meets_criteria o 0 ≡ false
unfolding meets_criteria exists subscribed remote bit
meets_zero o = go o.sel_subscribed (not o.sel_special || has_use 0)
  where
    go : (s u : Bool) → ((s && true) && (not s || false) && u) ≡ false
    go true u = refl
    go false u = refl

-- where no criterion is selected, what exists meets them, be it local or REMOTE selected
pub plain_criteria : (o : Options) (f : ℕ) → unselective o ≡ true → meets_criteria o f ≡ (exists f && (not (remote f) || o.sel_remote))
unfolding unselective meets_criteria
plain_criteria o f h = go o.sel_recursive o.sel_subscribed o.sel_special (exists f) (not (remote f) || o.sel_remote) h
  where
    go : (r s u e n : Bool) → (not r && not s && not u) ≡ true → ((e || s) && n && (not s || subscribed f) && (not u || has_use f)) ≡ (e && n)
    go true s u e n h = absurd (false≢true h)
    go false true u e n h = absurd (false≢true h)
    go false false true e n h = absurd (false≢true h)
    go false false false true true h = refl
    go false false false true false h = refl
    go false false false false n h = refl

pub implied_meets_not : (rs : List Row) (o : Options) (n : List ℕ) → implied rs n ≡ true → candidate_meets rs o n ≡ false
unfolding candidate_meets
implied_meets_not rs o n h = ap (meets_criteria o) (implied_flags rs n h) ∙ meets_zero o

-- a name that is not implied has a row, and the flags of that row
pub candidate_row : (rs : List Row) (n : List ℕ) → has_row rs n ≡ true → (r : Row) × list_mem r rs × (r.name ≡ n)
unfolding has_row
candidate_row rs n h = let w = some_mem (λ r. same r.name n) rs h in (w.0, w.1, same_true w.0.name n w.2)

row_flags_asc : (rs : List Row) → Asc byte_order (names rs) → (r : Row) → list_mem r rs → flags_of rs r.name ≡ r.flags
unfolding names flags_of
row_flags_asc [] s r m = absurd (list_mem_not_nil m)
row_flags_asc (q ∷ rs) s r m = ⊎_elim here (λ k. there k (row_flags_asc rs s.1 r k)) (list_mem_cases_cons m)
  where
    here : r ≡ q → flags_of (q ∷ rs) r.name ≡ r.flags
    here e = subst (λ (x : Row). flags_of (q ∷ rs) x.name ≡ x.flags) (sym e) (rw (same_refl q.name))

    later : list_mem r rs → byte_order q.name r.name ≡ ordering_lt
    later k = above_mem byte_order bytes_total q.name r.name (names rs) s.0 (mem_map_lem (λ (x : Row). x.name) k)

    there : list_mem r rs → flags_of rs r.name ≡ r.flags → flags_of (q ∷ rs) r.name ≡ r.flags
    there k ih = go (same q.name r.name) refl
      where
        go : (o : Bool) → same q.name r.name ≡ o → cond o q.flags (flags_of rs r.name) ≡ r.flags
        go true e = absurd (irrefl byte_order bytes_total r.name (subst (λ (n : List ℕ). byte_order n r.name ≡ ordering_lt) (same_true q.name r.name e) (later k)))
        go false e = ih

pub row_flags : (rs : List Row) → ascends (names rs) ≡ true → (r : Row) → list_mem r rs → flags_of rs r.name ≡ r.flags
row_flags rs h r m = row_flags_asc rs (ascends_asc (names rs) h) r m

-- a test of name and flags that flags 0 do not pass is passed by some candidate exactly if by some row
module _ (rs : List Row) (h : ascends (names rs) ≡ true) where
  tested_rows : (p : List ℕ → ℕ → Bool) → ((n : List ℕ) → p n 0 ≡ false) → any_of (λ d. p d (flags_of rs d)) (candidates rs) ≡ any_of (λ r. p r.name r.flags) rs
  tested_rows p none = bools_equal _ _ to from
    where
      to : any_of (λ d. p d (flags_of rs d)) (candidates rs) ≡ true → any_of (λ r. p r.name r.flags) rs ≡ true
      to e = let w = some_mem (λ d. p d (flags_of rs d)) (candidates rs) e in go w.0 w.2 (has_row rs w.0) refl
        where
          go : (d : List ℕ) → p d (flags_of rs d) ≡ true → (o : Bool) → has_row rs d ≡ o → any_of (λ r. p r.name r.flags) rs ≡ true
          go d f true k =
              let w = candidate_row rs d k in
              mem_some (λ r. p r.name r.flags) rs w.0 w.1 (ap (p w.0.name) (sym (row_flags rs h w.0 w.1)) ∙ subst (λ (n : List ℕ). p n (flags_of rs n) ≡ true) (sym w.2) f)
          go d f false k = absurd (false≢true (sym (none d) ∙ ap (p d) (sym (no_row_flags rs d k)) ∙ f))

      from : any_of (λ r. p r.name r.flags) rs ≡ true → any_of (λ d. p d (flags_of rs d)) (candidates rs) ≡ true
      from e =
          let w = some_mem (λ (r : Row). p r.name r.flags) rs e in
          mem_some (λ d. p d (flags_of rs d)) (candidates rs) w.0.name (candidate rs w.0.name w.0 w.1 (list_mem_head refl))
          (ap (p w.0.name) (row_flags rs h w.0 w.1) ∙ w.2)

  -- descendants that meet the criteria are rows
  pub meets_below_rows : (o : Options) (n : List ℕ) → meets_below rs o n ≡ any_of (λ r. below n r.name && meets_criteria o r.flags) rs
  unfolding meets_below candidate_meets
  meets_below_rows o n = tested_rows (λ d f. below n d && meets_criteria o f) (λ d. rw (meets_zero o) (and-false (below n d)))

  pub meets_unmatched_below_rows : (o : Options) (ps : List (List ℕ)) (n : List ℕ)
      → meets_unmatched_below rs o ps n ≡ any_of (λ r. below n r.name && meets_criteria o r.flags && not (matches_any ps r.name)) rs
  unfolding meets_unmatched_below candidate_meets
  meets_unmatched_below_rows o ps n = tested_rows (λ d f. below n d && meets_criteria o f && not (matches_any ps d)) (λ d. rw (meets_zero o, and-false (below n d)))

  -- W1: a level above what meets the criteria has children, so it never shows \HasNoChildren
  pub level_has_children : (o : Options) (ps : List (List ℕ)) (n : List ℕ) → level_above rs o ps n ≡ true → has_children rs o n ≡ true
  unfolding level_above has_children
  level_has_children o ps n e =
      sym (any_cong (λ r. below n r.name && meets_criteria o r.flags)
      (λ r. below n r.name && exists r.flags && (not (remote r.flags) || o.sel_remote))
      (λ r. same_child (below n r.name) r.flags) rs)
      ∙ sym (meets_below_rows o n)
      ∙ and_r (unselective o && not (exists (flags_of rs n)) && matches_any (keep ends_in_percent ps) n) (meets_below rs o n) e
    where
      free : unselective o ≡ true
      free = and_l (unselective o) (not (exists (flags_of rs n)))
          (and_l (unselective o && not (exists (flags_of rs n))) (matches_any (keep ends_in_percent ps) n)
          (and_l (unselective o && not (exists (flags_of rs n)) && matches_any (keep ends_in_percent ps) n) (meets_below rs o n) e))

      same_child : (b : Bool) (f : ℕ) → (b && meets_criteria o f) ≡ (b && exists f && (not (remote f) || o.sel_remote))
      same_child b f = ap (λ (m : Bool). b && m) (plain_criteria o f free) ∙ sym (and_assoc b (exists f) (not (remote f) || o.sel_remote))
