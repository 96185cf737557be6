-- W10 over the definitions of LIST. The line of a listed name hangs on table and options, not on the patterns. With more patterns nothing is lost
-- but, under RECURSIVEMATCH, a name that does not meet the criteria and whose meeting descendants all match now. Rests on NameFlags.
use Rattle.listing_rules.proofs.Prelude.{◌∙◌, ◌≡◌, ap, refl, sym, Bool, ◌&&◌, ◌||◌, false, false≢true, not, true, ◌⊎◌, inl, inr, ⊎_elim}
use Rattle.listing_rules.proofs.Prelude.{or-false, cond, List, list_mem, [], ◌∷◌, ℕ}
use Rattle.listing_rules.specs.Lists.{every, any_of, keep}
use Rattle.listing_rules.specs.Names.{below}
use Rattle.listing_rules.specs.Flags.{exists, remote}
use Rattle.listing_rules.specs.Table.{Row, flags_of}
use Rattle.listing_rules.specs.Options.{Options}
use Rattle.listing_rules.specs.Match.{matches, matches_any}
use Rattle.listing_rules.specs.Listing.{candidates, candidate_meets, meets_below, meets_unmatched_below, unselective, ends_in_percent, level_above}
use Rattle.listing_rules.specs.Listing.{listed, has_children, child_info, attributes_for, attributes}
use Rattle.listing_rules.specs.Lines.{list_line}
use Rattle.listing_rules.specs.Server.{line_of}
use Rattle.listing_rules.specs.Evidence.{meeting_below}
use Rattle.listing_rules.proofs.Bools.{and_l, and_r, and_i, or_cases, or_l, or_r}
use Rattle.listing_rules.proofs.ListLaws.{some_mem, mem_some, keep_mem, mem_keep}
use Rattle.listing_rules.proofs.NameFlags.{plain_criteria}

-- some member passes the first test and not the second: not all that pass the first pass the second
some_fails : {A : Type 0} (p q : A → Bool) (l : List A) → any_of (λ x. p x && not (q x)) l ≡ not (every q (keep p l))
unfolding any_of every keep
some_fails p q [] = refl
some_fails p q (x ∷ l) = pick (p x) refl (some_fails p q l)
  where
    fails : Bool
    fails = any_of (λ x. p x && not (q x)) l

    pick : (a : Bool) → p x ≡ a → fails ≡ not (every q (keep p l)) →
        ((p x && not (q x)) || fails) ≡ not (every q (cond (p x) (x ∷ keep p l) (keep p l)))
    pick false e ih = rw e ih
    pick true e ih = rw e (tested (q x) ih)
      where
        tested : (b : Bool) → fails ≡ not (every q (keep p l)) → (not b || fails) ≡ not (b && every q (keep p l))
        tested true ih = ih
        tested false ih = refl

-- every pattern of the one list stands in the other
abbrev pub Within : List (List ℕ) → List (List ℕ) → Type 0
Within ps qs = (p : List ℕ) → list_mem p ps → list_mem p qs

module _ (ps qs : List (List ℕ)) (w : Within ps qs) where
  pub more_matched : (n : List ℕ) → matches_any ps n ≡ true → matches_any qs n ≡ true
  unfolding matches_any
  more_matched n h = let s = some_mem (λ p. matches p n) ps h in mem_some (λ p. matches p n) qs s.0 (w s.0 s.1) s.2

  pub within_keep : (f : List ℕ → Bool) → Within (keep f ps) (keep f qs)
  within_keep f p m = let k = keep_mem f ps p m in mem_keep f qs p (w p k.0) k.1

-- what document 01 lists, W1's levels left out
abbrev reached : List Row → Options → List (List ℕ) → List ℕ → Bool
reached rs o ps n = matches_any ps n && (candidate_meets rs o n || (o.sel_recursive && meets_unmatched_below rs o ps n))

-- What a listed name is. W1's levels are the listed names that do not exist, where nothing is selected; so the patterns do not tell them apart.
module _ (rs : List Row) (o : Options) (ps : List (List ℕ)) (n : List ℕ) where
  meets_exists : unselective o ≡ true → candidate_meets rs o n ≡ true → exists (flags_of rs n) ≡ true
  unfolding candidate_meets
  meets_exists u h =
      and_l (exists (flags_of rs n)) (not (remote (flags_of rs n)) || o.sel_remote) (sym (plain_criteria o (flags_of rs n) u) ∙ h)

  -- under RECURSIVEMATCH there are none
  recursive_selects : o.sel_recursive ≡ true → unselective o ≡ false
  unfolding unselective
  recursive_selects e = rw e

  pub listed_level : listed rs o ps n ≡ true → level_above rs o ps n ≡ (unselective o && not (exists (flags_of rs n)))
  unfolding listed level_above
  listed_level h = go (unselective o) refl (exists (flags_of rs n)) refl (or_cases _ _ h)
    where
      M : Bool
      M = matches_any ps n && (candidate_meets rs o n || (o.sel_recursive && meets_unmatched_below rs o ps n))

      K : Bool
      K = matches_any (keep ends_in_percent ps) n

      B : Bool
      B = meets_below rs o n

      unmet : unselective o ≡ true → exists (flags_of rs n) ≡ false → M ≡ true → ⊥
      unmet u x m =
          ⊎_elim (λ c. false≢true (sym x ∙ meets_exists u c))
          (λ r. false≢true (sym (recursive_selects (and_l o.sel_recursive (meets_unmatched_below rs o ps n) r)) ∙ u))
          (or_cases (candidate_meets rs o n) (o.sel_recursive && meets_unmatched_below rs o ps n)
          (and_r (matches_any ps n) (candidate_meets rs o n || (o.sel_recursive && meets_unmatched_below rs o ps n)) m))

      go : (u : Bool) → unselective o ≡ u → (x : Bool) → exists (flags_of rs n) ≡ x → (M ≡ true) ⊎ ((((u && not x) && K) && B) ≡ true)
          → (((u && not x) && K) && B) ≡ (u && not x)
      go false eu x ex c = refl
      go true eu true ex c = refl
      go true eu false ex (inl m) = absurd (unmet eu ex m)
      go true eu false ex (inr l) = l

-- "a name's line": the same under any patterns that list it
pub line_same : (rs : List Row) (o : Options) (ps qs : List (List ℕ)) (n : List ℕ) → listed rs o ps n ≡ true → listed rs o qs n ≡ true
    → line_of rs o ps n ≡ line_of rs o qs n
unfolding line_of attributes
line_same rs o ps qs n h g =
    ap (λ (b : Bool). list_line (attributes_for (flags_of rs n) o (has_children rs o n) b) n (child_info rs o n))
    (listed_level rs o ps n h ∙ sym (listed_level rs o qs n g))

-- W10: "for one table, one reader, one reference and one set of options ..: without RECURSIVEMATCH, every name listed before is listed after"
module _ (rs : List Row) (o : Options) (ps qs : List (List ℕ)) (w : Within ps qs) (n : List ℕ) where
  more_levels : level_above rs o ps n ≡ true → level_above rs o qs n ≡ true
  unfolding level_above
  more_levels h =
      let u = unselective o && not (exists (flags_of rs n)) in
      let k = and_l (u && matches_any (keep ends_in_percent ps) n) (meets_below rs o n) h in
      and_i (u && matches_any (keep ends_in_percent qs) n) (meets_below rs o n)
      (and_i u (matches_any (keep ends_in_percent qs) n) (and_l u (matches_any (keep ends_in_percent ps) n) k)
      (more_matched (keep ends_in_percent ps) (keep ends_in_percent qs) (within_keep ps qs w ends_in_percent) n
      (and_r u (matches_any (keep ends_in_percent ps) n) k)))
      (and_r (u && matches_any (keep ends_in_percent ps) n) (meets_below rs o n) h)

  -- a name that meets the criteria is listed exactly if it matches, with RECURSIVEMATCH and without
  pub meeting_stays : listed rs o ps n ≡ true → candidate_meets rs o n ≡ true → listed rs o qs n ≡ true
  unfolding listed
  meeting_stays h c =
      ⊎_elim matched (λ l. or_r (reached rs o qs n) (level_above rs o qs n) (more_levels l)) (or_cases (reached rs o ps n) (level_above rs o ps n) h)
    where
      matched : reached rs o ps n ≡ true → listed rs o qs n ≡ true
      matched m =
          or_l (reached rs o qs n) (level_above rs o qs n)
          (and_i (matches_any qs n) (candidate_meets rs o n || (o.sel_recursive && meets_unmatched_below rs o qs n))
          (more_matched ps qs w n (and_l (matches_any ps n) (candidate_meets rs o n || (o.sel_recursive && meets_unmatched_below rs o ps n)) m))
          (or_l (candidate_meets rs o n) (o.sel_recursive && meets_unmatched_below rs o qs n) c))

  pub plain_stays : o.sel_recursive ≡ false → listed rs o ps n ≡ true → listed rs o qs n ≡ true
  unfolding listed
  plain_stays r h =
      ⊎_elim matched (λ l. or_r (reached rs o qs n) (level_above rs o qs n) (more_levels l)) (or_cases (reached rs o ps n) (level_above rs o ps n) h)
    where
      matched : reached rs o ps n ≡ true → listed rs o qs n ≡ true
      matched m =
          meeting_stays (or_l (reached rs o ps n) (level_above rs o ps n) m)
          (⊎_elim (λ c. c) (λ k. absurd (false≢true (sym r ∙ and_l o.sel_recursive (meets_unmatched_below rs o ps n) k)))
          (or_cases (candidate_meets rs o n) (o.sel_recursive && meets_unmatched_below rs o ps n)
          (and_r (matches_any ps n) (candidate_meets rs o n || (o.sel_recursive && meets_unmatched_below rs o ps n)) m)))

  -- under RECURSIVEMATCH there are no levels of W1
  no_level : (xs : List (List ℕ)) → o.sel_recursive ≡ true → level_above rs o xs n ≡ false
  unfolding level_above unselective
  no_level xs r = rw r

  unmatched_listed : o.sel_recursive ≡ true → candidate_meets rs o n ≡ false → listed rs o ps n ≡ true →
      listed rs o qs n ≡ meets_unmatched_below rs o qs n
  unfolding listed
  unmatched_listed r c h =
      rw (no_level qs r, c, more_matched ps qs w n matched)
      (or-false (o.sel_recursive && meets_unmatched_below rs o qs n) ∙ ap (λ (x : Bool). x && meets_unmatched_below rs o qs n) r)
    where
      matched : matches_any ps n ≡ true
      matched =
          ⊎_elim (λ m. and_l (matches_any ps n) (candidate_meets rs o n || (o.sel_recursive && meets_unmatched_below rs o ps n)) m)
          (λ l. absurd (false≢true (sym (no_level ps r) ∙ l)))
          (or_cases (reached rs o ps n) (level_above rs o ps n) h)

  -- "With RECURSIVEMATCH the same holds, except for a name that did not meet the criteria; that one goes exactly if each of its meeting descendants
  -- now matches a pattern."
  pub recursive_goes : o.sel_recursive ≡ true → candidate_meets rs o n ≡ false → listed rs o ps n ≡ true
      → listed rs o qs n ≡ not (every (matches_any qs) (meeting_below rs o n))
  unfolding meets_unmatched_below meeting_below
  recursive_goes r c h =
      unmatched_listed r c h ∙ some_fails (λ d. below n d && candidate_meets rs o d) (matches_any qs) (candidates rs)
