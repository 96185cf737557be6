-- What LSUB lists (W5): with which text; what a client that goes down level by level finds; and LSUB as a LIST command. Rests on Ancestors.
use Rattle.listing_rules.proofs.Prelude.{◌∙◌, ◌≡◌, ap, refl, sym, Bool, ◌&&◌, ◌||◌, and-false, cond, false, not, or-false, true, List}
use Rattle.listing_rules.proofs.Prelude.{list_mem, [], ◌++◌, ◌∷◌, ◌≤◌, ℕ, arith, length}
use Rattle.listing_rules.specs.Bytes.{text, crlf, is_empty}
use Rattle.listing_rules.specs.Lists.{any_of, keep}
use Rattle.listing_rules.specs.Names.{below}
use Rattle.listing_rules.specs.Flags.{exists, subscribed, remote}
use Rattle.listing_rules.specs.Table.{Row, flags_of}
use Rattle.listing_rules.specs.Options.{Options, no_criteria, is_none}
use Rattle.listing_rules.specs.Command.{canonical}
use Rattle.listing_rules.specs.Match.{matches, matches_any}
use Rattle.listing_rules.specs.Listing.{candidates, meets_criteria, candidate_meets, meets_below, meets_unmatched_below, unselective, ends_in_percent}
use Rattle.listing_rules.specs.Listing.{level_above, listed, listed_names, in_order}
use Rattle.listing_rules.specs.Lines.{attribute_names, chosen, spaced, spaced_tail, quoted, child_info_text, word_line}
use Rattle.listing_rules.specs.Lsub.{is_subscribed, subscribed_match, subscribed_below, above_subscribed, lsub_listed, lsub_names, lsub_attributes}
use Rattle.listing_rules.specs.Lsub.{lsub_line}
use Rattle.listing_rules.proofs.Keys.{open_bytes}
use Rattle.listing_rules.proofs.ListLaws.{any_cong, mem_some, mem_keep}
use Rattle.listing_rules.proofs.Ancestors.{below_anc, candidates_closed}

-- An LSUB command has one pattern, or none where it is empty
pub lsub_one_pattern : (r p : List ℕ) → length (canonical r (p ∷ [])) ≤ 1
unfolding canonical
lsub_one_pattern r p = go (is_empty p)
  where
    go : (e : Bool) → length (cond e [] ((r ++ p) ∷ [])) ≤ 1
    go true = omega arith
    go false = omega arith

-- The text of a line: no attribute, or \Noselect alone

module _ (rs : List Row) (n : List ℕ) where
  pub subscribed_line : is_subscribed rs n ≡ true → lsub_line rs n ≡ text "* LSUB () \"/\" " ++ (quoted n ++ crlf)
  unfolding open_bytes lsub_line lsub_attributes in_order word_line chosen attribute_names spaced child_info_text is_none no_criteria
  subscribed_line e = rw e

  pub noselect_line : is_subscribed rs n ≡ false → lsub_line rs n ≡ text "* LSUB (\\Noselect) \"/\" " ++ (quoted n ++ crlf)
  unfolding open_bytes lsub_line lsub_attributes in_order word_line chosen attribute_names spaced spaced_tail child_info_text is_none no_criteria
  noselect_line e = rw e

-- Going down level by level: under a pattern that ends in "%", each name that matches above a subscribed name that does not match is
-- listed. So a client that asks for a level at a time misses nothing (RFC 3501, 6.3.9).

module _ (rs : List Row) (p a d : List ℕ) (level : ends_in_percent p ≡ true) (m : list_mem d (candidates rs)) (s : is_subscribed rs d ≡ true)
    (out : matches p d ≡ false) (b : below a d ≡ true) (k : matches p a ≡ true) where
  below_subscribed : subscribed_below rs (p ∷ []) a ≡ true
  unfolding subscribed_below matches_any any_of
  below_subscribed = mem_some (λ z. below a z && is_subscribed rs z && not (matches_any (p ∷ []) z)) (candidates rs) d m (rw (b, s, out))

  lsub_level : lsub_listed rs (p ∷ []) a ≡ true
  unfolding lsub_listed subscribed_match above_subscribed matches_any any_of keep
  lsub_level = rw (level, k, below_subscribed) (go (is_subscribed rs a))
    where
      go : (c : Bool) → ((c && true) || ((not c && true) && true)) ≡ true
      go true = refl
      go false = refl

  pub lsub_level_name : list_mem a (lsub_names rs (p ∷ []))
  unfolding lsub_names
  lsub_level_name = mem_keep (lsub_listed rs (p ∷ [])) (candidates rs) a (candidates_closed rs a d m (below_anc a d b)) lsub_level

-- LSUB as a LIST command

-- SUBSCRIBED and REMOTE selected, RECURSIVEMATCH if it is so said, and nothing else
abbrev pub subscribing : Bool → Options
subscribing recursive =
    record {
      sel_subscribed = true;
      sel_remote = true;
      sel_recursive = recursive;
      sel_special = false;
      ret_subscribed = false;
      ret_children = false;
      ret_special = false;
    }

-- RECURSIVEMATCH exactly if a pattern ends in "%"
abbrev pub lsub_options : List (List ℕ) → Options
lsub_options ps = subscribing (any_of ends_in_percent ps)

-- what meets the criteria then is what is subscribed
meets_subscribing : (r : Bool) (f : ℕ) → meets_criteria (subscribing r) f ≡ subscribed f
unfolding meets_criteria
meets_subscribing r f = go (exists f) (not (remote f)) (subscribed f)
  where
    go : (e l s : Bool) → ((((e || true) && (l || true)) && s) && true) ≡ s
    go true true true = refl
    go true true false = refl
    go true false true = refl
    go true false false = refl
    go false true true = refl
    go false true false = refl
    go false false true = refl
    go false false false = refl

module _ (rs : List Row) (r : Bool) (ps : List (List ℕ)) (n : List ℕ) where
  candidate_subscribed : (d : List ℕ) → candidate_meets rs (subscribing r) d ≡ is_subscribed rs d
  unfolding candidate_meets is_subscribed
  candidate_subscribed d = meets_subscribing r (flags_of rs d)

  below_same : meets_unmatched_below rs (subscribing r) ps n ≡ subscribed_below rs ps n
  unfolding meets_unmatched_below subscribed_below
  below_same =
      any_cong (λ d. below n d && candidate_meets rs (subscribing r) d && not (matches_any ps d)) (λ d. below n d && is_subscribed rs d && not (matches_any ps d))
      (λ d. ap (λ (c : Bool). below n d && c && not (matches_any ps d)) (candidate_subscribed d))
      (candidates rs)

  no_levels : level_above rs (subscribing r) ps n ≡ false
  unfolding level_above unselective
  no_levels = go r
    where
      go : (c : Bool) → (((((not c && false) && true) && not (exists (flags_of rs n))) && matches_any (keep ends_in_percent ps) n) && meets_below rs (subscribing r) n) ≡ false
      go true = refl
      go false = refl

  listed_subscribing : listed rs (subscribing r) ps n ≡ (matches_any ps n && (is_subscribed rs n || (r && subscribed_below rs ps n)))
  unfolding listed
  listed_subscribing = rw (candidate_subscribed n, below_same, no_levels) (or-false (matches_any ps n && (is_subscribed rs n || (r && subscribed_below rs ps n))))

-- tests that say the same keep the same
module _ {A : Type 0} where
  keep_cong : (f g : A → Bool) → ((x : A) → f x ≡ g x) → (l : List A) → keep f l ≡ keep g l
  unfolding keep
  keep_cong f g e [] = refl
  keep_cong f g e (x ∷ l) = rw (e x, keep_cong f g e l)

  keep_twice : (f g : A → Bool) (l : List A) → keep f (keep g l) ≡ keep (λ x. g x && f x) l
  unfolding keep
  keep_twice f g [] = refl
  keep_twice f g (x ∷ l) = go (g x) (keep_twice f g l)
    where
      go : (c : Bool) → keep f (keep g l) ≡ keep (λ x. g x && f x) l → keep f (cond c (x ∷ keep g l) (keep g l)) ≡ cond (c && f x) (x ∷ keep (λ x. g x && f x) l) (keep (λ x. g x && f x) l)
      go true e = ap (λ (t : List A). cond (f x) (x ∷ t) t) e
      go false e = e

module _ (rs : List Row) where
  test : (ps : List (List ℕ)) (n : List ℕ) → (lsub_listed rs ps n && is_subscribed rs n) ≡ (matches_any ps n && (is_subscribed rs n || false))
  unfolding lsub_listed subscribed_match above_subscribed
  test ps n = go (is_subscribed rs n) (matches_any ps n) (matches_any (keep ends_in_percent ps) n) (subscribed_below rs ps n)
    where
      go : (s m x b : Bool) → (((s && m) || ((not s && x) && b)) && s) ≡ (m && (s || false))
      go true true x b = refl
      go true false x b = refl
      go false m x b = and-false (x && b) ∙ sym (and-false m)

  -- the names of lines without \Noselect are those of LIST (SUBSCRIBED REMOTE) with the same patterns
  pub lsub_list : (ps : List (List ℕ)) → keep (is_subscribed rs) (lsub_names rs ps) ≡ listed_names rs (subscribing false) ps
  unfolding lsub_names listed_names
  lsub_list ps =
      keep_twice (is_subscribed rs) (lsub_listed rs ps) (candidates rs)
      ∙ keep_cong (λ n. lsub_listed rs ps n && is_subscribed rs n) (listed rs (subscribing false) ps) (λ n. test ps n ∙ sym (listed_subscribing rs false ps n)) (candidates rs)

  -- for the one pattern of an LSUB command, or none: LSUB lists what LIST (SUBSCRIBED REMOTE) lists, with RECURSIVEMATCH if it ends in "%"
  lsub_test : (ps : List (List ℕ)) (n : List ℕ) → length ps ≤ 1 → lsub_listed rs ps n ≡ (matches_any ps n && (is_subscribed rs n || (any_of ends_in_percent ps && subscribed_below rs ps n)))
  unfolding lsub_listed subscribed_match above_subscribed matches_any any_of keep
  lsub_test [] n h = go (is_subscribed rs n)
    where
      go : (s : Bool) → ((s && false) || ((not s && false) && subscribed_below rs [] n)) ≡ false
      go true = refl
      go false = refl
  lsub_test (p ∷ []) n h = go (ends_in_percent p)
    where
      level : (s m b : Bool) → ((s && m) || ((not s && m) && b)) ≡ (m && (s || b))
      level true true b = refl
      level true false b = refl
      level false m b = refl

      plain : (s m b : Bool) → ((s && m) || ((not s && false) && b)) ≡ (m && (s || false))
      plain true true b = refl
      plain true false b = refl
      plain false m b = sym (and-false m)

      go : (e : Bool) → ((is_subscribed rs n && (matches p n || false))
          || ((not (is_subscribed rs n) && any_of (λ q. matches q n) (cond e (p ∷ []) [])) && subscribed_below rs (p ∷ []) n))
          ≡ ((matches p n || false) && (is_subscribed rs n || ((e || false) && subscribed_below rs (p ∷ []) n)))
      go true = level (is_subscribed rs n) (matches p n || false) (subscribed_below rs (p ∷ []) n)
      go false = plain (is_subscribed rs n) (matches p n || false) (subscribed_below rs (p ∷ []) n)
  lsub_test (p ∷ q ∷ ps) n h = absurd (omega arith)

  pub lsub_as_list : (ps : List (List ℕ)) → length ps ≤ 1 → lsub_names rs ps ≡ listed_names rs (lsub_options ps) ps
  unfolding lsub_names listed_names
  lsub_as_list ps h =
      keep_cong (lsub_listed rs ps) (listed rs (lsub_options ps) ps)
      (λ n. lsub_test ps n h ∙ sym (listed_subscribing rs (any_of ends_in_percent ps) ps n))
      (candidates rs)
