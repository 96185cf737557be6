-- W10, "If rows gain subscriptions instead, no listed name and no CHILDINFO is lost": with every set of options, and also where names gain rows 0002,
-- as SUBSCRIBE gives them. Rests on Ancestors, NameFlags and SubscriptionLaws.
use Rattle.listing_rules.proofs.Prelude.{◌∙◌, ◌≡◌, ap, refl, subst, sym, Bool, ◌&&◌, ◌||◌, cond, false, false≢true, not, true, ◌⊎◌, ⊎_elim}
use Rattle.listing_rules.proofs.Prelude.{List, list_mem, ◌∷◌, ℕ, ◌%◌, ◌+◌, ◌/◌, div-one, arith, eqb, eqb-false}
use Rattle.listing_rules.specs.Bytes.{bit, same}
use Rattle.listing_rules.specs.Lists.{keep}
use Rattle.listing_rules.specs.Names.{below, proper_ancestors}
use Rattle.listing_rules.specs.Flags.{exists, subscribed, remote, uses, has_use}
use Rattle.listing_rules.specs.Table.{Row, has_row, flags_of}
use Rattle.listing_rules.specs.Options.{Options, no_criteria, is_none, criteria}
use Rattle.listing_rules.specs.Match.{matches_any}
use Rattle.listing_rules.specs.Listing.{candidates, meets_criteria, candidate_meets, meets_below, meets_unmatched_below, unselective, ends_in_percent}
use Rattle.listing_rules.specs.Listing.{level_above, listed, child_info}
use Rattle.listing_rules.specs.Subscriptions.{with_subscribed}
use Rattle.listing_rules.specs.Evidence.{Gains}
use Rattle.listing_rules.proofs.Bools.{and_l, and_r, and_i, or_cases, or_l, or_r}
use Rattle.listing_rules.proofs.ListLaws.{some_mem, mem_some, same_refl}
use Rattle.listing_rules.proofs.Ancestors.{candidate_cases, candidate}
use Rattle.listing_rules.proofs.NameFlags.{candidate_row}
use Rattle.listing_rules.proofs.EditFlags.{set_subscribed}

-- the other flags that the criteria look at stay
module _ (g : ℕ) (h : subscribed g ≡ false) where
  clear : g / 2 % 2 ≡ 0
  unfolding subscribed bit
  clear = let k = eqb-false (g / 2 % 2) 1 h in omega (arith, k)

  twin_exists : exists (g + 2) ≡ exists g
  unfolding exists bit
  twin_exists = let e : (g + 2) / 1 % 2 ≡ g / 1 % 2 = omega (arith, div-one g, div-one (g + 2)) in ap (λ (x : ℕ). eqb x 1) e

  twin_remote : remote (g + 2) ≡ remote g
  unfolding remote bit
  twin_remote = let e : (g + 2) / 4 ≡ g / 4 = omega (arith, clear) in ap (λ (x : ℕ). eqb (x % 2) 1) e

  twin_use : has_use (g + 2) ≡ has_use g
  unfolding has_use uses bit
  twin_use =
      let b8 : (g + 2) / 256 ≡ g / 256 = omega (arith, clear) in
      let b9 : (g + 2) / 512 ≡ g / 512 = omega (arith, clear) in
      let b10 : (g + 2) / 1024 ≡ g / 1024 = omega (arith, clear) in
      let b11 : (g + 2) / 2048 ≡ g / 2048 = omega (arith, clear) in
      let b12 : (g + 2) / 4096 ≡ g / 4096 = omega (arith, clear) in
      let b13 : (g + 2) / 8192 ≡ g / 8192 = omega (arith, clear) in
      let b14 : (g + 2) / 16384 ≡ g / 16384 = omega (arith, clear) in
      rw (b8, b9, b10, b11, b12, b13, b14)

module _ (f : ℕ) where
  gained : (p : ℕ → Bool) → ((g : ℕ) → subscribed g ≡ false → p (g + 2) ≡ p g) → p (with_subscribed f) ≡ p f
  unfolding with_subscribed
  gained p t = go (subscribed f) refl
    where
      go : (o : Bool) → subscribed f ≡ o → p (cond o f (f + 2)) ≡ p f
      go true e = refl
      go false e = t f e

  pub set_exists : exists (with_subscribed f) ≡ exists f
  set_exists = gained exists twin_exists

  pub set_remote : remote (with_subscribed f) ≡ remote f
  set_remote = gained remote twin_remote

  pub set_use : has_use (with_subscribed f) ≡ has_use f
  set_use = gained has_use twin_use

  pub set_meets : (o : Options) → meets_criteria o f ≡ true → meets_criteria o (with_subscribed f) ≡ true
  unfolding meets_criteria
  set_meets o h =
      rw (set_exists, set_remote, set_use, set_subscribed f) (go (exists f || o.sel_subscribed) (not (remote f) || o.sel_remote)
      (not o.sel_subscribed) (subscribed f) (not o.sel_special || has_use f) h)
    where
      go : (e n s b u : Bool) → (((e && n) && (s || b)) && u) ≡ true → (((e && n) && (s || true)) && u) ≡ true
      go true true true b u k = k
      go true true false true u k = k
      go true true false false u k = absurd (false≢true k)
      go true false s b u k = absurd (false≢true k)
      go false n s b u k = absurd (false≢true k)

module _ (rs qs : List Row) (w : Gains rs qs) where
  gain_exists : (n : List ℕ) → exists (flags_of qs n) ≡ exists (flags_of rs n)
  gain_exists n = ⊎_elim (λ e. ap exists e) (λ e. ap exists e ∙ set_exists (flags_of rs n)) (w.gain n)

  -- candidates stay
  pub gain_candidates : (n : List ℕ) → list_mem n (candidates rs) → list_mem n (candidates qs)
  gain_candidates n m =
      let c = candidate_cases rs n m in
      let q = candidate_row qs c.0.name (w.stay c.0.name (has c.0 c.1)) in
      candidate qs n q.0 q.1 (subst (λ (x : List ℕ). list_mem n (x ∷ proper_ancestors x)) (sym q.2) c.2)
    where
      has : (r : Row) → list_mem r rs → has_row rs r.name ≡ true
      has r k = unfold has_row in mem_some (λ (q : Row). same q.name r.name) rs r k (same_refl r.name)

  module _ (o : Options) where
    -- what met the criteria meets them
    pub gain_meets : (n : List ℕ) → candidate_meets rs o n ≡ true → candidate_meets qs o n ≡ true
    unfolding candidate_meets
    gain_meets n h = ⊎_elim (λ e. ap (meets_criteria o) e ∙ h) (λ e. ap (meets_criteria o) e ∙ set_meets (flags_of rs n) o h) (w.gain n)

    gain_below : (n : List ℕ) → meets_below rs o n ≡ true → meets_below qs o n ≡ true
    unfolding meets_below
    gain_below n h =
        let d = some_mem (λ d. below n d && candidate_meets rs o d) (candidates rs) h in
        mem_some (λ d. below n d && candidate_meets qs o d) (candidates qs) d.0 (gain_candidates d.0 d.1)
        (and_i (below n d.0) (candidate_meets qs o d.0) (and_l (below n d.0) (candidate_meets rs o d.0) d.2)
        (gain_meets d.0 (and_r (below n d.0) (candidate_meets rs o d.0) d.2)))

    gain_unmatched : (ps : List (List ℕ)) (n : List ℕ) → meets_unmatched_below rs o ps n ≡ true → meets_unmatched_below qs o ps n ≡ true
    unfolding meets_unmatched_below
    gain_unmatched ps n h =
        let d = some_mem (λ d. (below n d && candidate_meets rs o d) && not (matches_any ps d)) (candidates rs) h in
        let b = and_l (below n d.0 && candidate_meets rs o d.0) (not (matches_any ps d.0)) d.2 in
        mem_some (λ d. (below n d && candidate_meets qs o d) && not (matches_any ps d)) (candidates qs) d.0 (gain_candidates d.0 d.1)
        (and_i (below n d.0 && candidate_meets qs o d.0) (not (matches_any ps d.0))
        (and_i (below n d.0) (candidate_meets qs o d.0) (and_l (below n d.0) (candidate_meets rs o d.0) b)
        (gain_meets d.0 (and_r (below n d.0) (candidate_meets rs o d.0) b)))
        (and_r (below n d.0 && candidate_meets rs o d.0) (not (matches_any ps d.0)) d.2))

    gain_level : (ps : List (List ℕ)) (n : List ℕ) → level_above rs o ps n ≡ true → level_above qs o ps n ≡ true
    unfolding level_above
    gain_level ps n h =
        let u = (unselective o && not (exists (flags_of rs n))) && matches_any (keep ends_in_percent ps) n in
        rw (gain_exists n) (and_i u (meets_below qs o n) (and_l u (meets_below rs o n) h) (gain_below n (and_r u (meets_below rs o n) h)))

    -- "no listed name .. is lost"
    pub gain_listed : (ps : List (List ℕ)) (n : List ℕ) → listed rs o ps n ≡ true → listed qs o ps n ≡ true
    unfolding listed
    gain_listed ps n h =
        ⊎_elim matched (λ l. or_r (reached qs) (level_above qs o ps n) (gain_level ps n l)) (or_cases (reached rs) (level_above rs o ps n) h)
      where
        by : List Row → Bool
        by xs = candidate_meets xs o n || (o.sel_recursive && meets_unmatched_below xs o ps n)

        reached : List Row → Bool
        reached xs = matches_any ps n && by xs

        matched : reached rs ≡ true → listed qs o ps n ≡ true
        matched m =
            or_l (reached qs) (level_above qs o ps n)
            (and_i (matches_any ps n) (by qs) (and_l (matches_any ps n) (by rs) m)
            (⊎_elim (λ c. or_l (candidate_meets qs o n) (o.sel_recursive && meets_unmatched_below qs o ps n) (gain_meets n c))
            (λ k. or_r (candidate_meets qs o n) (o.sel_recursive && meets_unmatched_below qs o ps n)
            (and_i o.sel_recursive (meets_unmatched_below qs o ps n) (and_l o.sel_recursive (meets_unmatched_below rs o ps n) k)
            (gain_unmatched ps n (and_r o.sel_recursive (meets_unmatched_below rs o ps n) k))))
            (or_cases (candidate_meets rs o n) (o.sel_recursive && meets_unmatched_below rs o ps n) (and_r (matches_any ps n) (by rs) m))))

    -- "no CHILDINFO is lost": it stands where it stood, and names the same criteria
    pub gain_child_info : (n : List ℕ) → is_none (child_info rs o n) ≡ false → child_info qs o n ≡ child_info rs o n
    unfolding child_info
    gain_child_info n h = go (o.sel_recursive && meets_below rs o n) refl h
      where
        go : (b : Bool) → (o.sel_recursive && meets_below rs o n) ≡ b → is_none (cond b (criteria o) no_criteria) ≡ false
            → cond (o.sel_recursive && meets_below qs o n) (criteria o) no_criteria ≡ cond b (criteria o) no_criteria
        go true e k =
            ap (λ (b : Bool). cond b (criteria o) no_criteria)
            (and_i o.sel_recursive (meets_below qs o n) (and_l o.sel_recursive (meets_below rs o n) e)
            (gain_below n (and_r o.sel_recursive (meets_below rs o n) e)))
        go false e k = absurd (false≢true (sym k ∙ nothing))
          where
            nothing : is_none no_criteria ≡ true
            nothing = unfold is_none no_criteria in refl
