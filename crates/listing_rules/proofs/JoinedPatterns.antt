-- W11 over the definitions of LIST. Without RECURSIVEMATCH two lists of patterns together list what one of them lists; and the patterns of a command
-- count as a set. Rests on PatternLaws.
use Rattle.listing_rules.proofs.Prelude.{◌∙◌, ◌≡◌, ap, refl, sym, Bool, ◌&&◌, ◌||◌, false, false≢true, not, true, and-false, or-true, List}
use Rattle.listing_rules.proofs.Prelude.{◌++◌, map, ℕ}
use Rattle.listing_rules.specs.Lists.{any_of, keep, joined}
use Rattle.listing_rules.specs.Names.{below}
use Rattle.listing_rules.specs.Flags.{exists}
use Rattle.listing_rules.specs.Table.{Row, flags_of}
use Rattle.listing_rules.specs.Options.{Options}
use Rattle.listing_rules.specs.Match.{matches, matches_any}
use Rattle.listing_rules.specs.Listing.{candidates, candidate_meets, meets_below, meets_unmatched_below, unselective, ends_in_percent, level_above}
use Rattle.listing_rules.specs.Listing.{listed, listed_names, has_children, child_info, attributes_for, attributes}
use Rattle.listing_rules.specs.Lines.{list_line, ok_line}
use Rattle.listing_rules.specs.Server.{line_of, list_answer}
use Rattle.listing_rules.proofs.Bools.{bools_equal}
use Rattle.listing_rules.proofs.ListLaws.{any_cong}
use Rattle.listing_rules.proofs.EditLists.{any_append, keep_append}
use Rattle.listing_rules.proofs.PatternLaws.{Within, more_matched, within_keep}

-- Without RECURSIVEMATCH two lists of patterns together list what the one or the other lists
module _ (rs : List Row) (o : Options) (r : o.sel_recursive ≡ false) (ps qs : List (List ℕ)) (n : List ℕ) where
  pub matched_either : matches_any (ps ++ qs) n ≡ (matches_any ps n || matches_any qs n)
  unfolding matches_any
  matched_either = any_append (λ p. matches p n) ps qs

  percent_either : matches_any (keep ends_in_percent (ps ++ qs)) n ≡ (matches_any (keep ends_in_percent ps) n || matches_any (keep ends_in_percent qs) n)
  unfolding matches_any
  percent_either =
      ap (any_of (λ p. matches p n)) (keep_append ends_in_percent ps qs) ∙ any_append (λ p. matches p n) (keep ends_in_percent ps) (keep ends_in_percent qs)

  pub listed_either : listed rs o (ps ++ qs) n ≡ (listed rs o ps n || listed rs o qs n)
  unfolding listed level_above
  listed_either =
      rw (matched_either, percent_either)
      (go (matches_any ps n) (matches_any qs n) (candidate_meets rs o n) o.sel_recursive r (unselective o && not (exists (flags_of rs n)))
      (matches_any (keep ends_in_percent ps) n) (matches_any (keep ends_in_percent qs) n) (meets_below rs o n))
    where
      levels : (u p q b : Bool) → ((u && (p || q)) && b) ≡ (((u && p) && b) || ((u && q) && b))
      levels true true q true = refl
      levels true true q false = sym (and-false q)
      levels true false q b = refl
      levels false p q b = refl

      go : (p q c x : Bool) → x ≡ false → (u k m b : Bool)
          → (((p || q) && (c || (x && meets_unmatched_below rs o (ps ++ qs) n))) || ((u && (k || m)) && b))
          ≡ (((p && (c || (x && meets_unmatched_below rs o ps n))) || ((u && k) && b)) ||
          ((q && (c || (x && meets_unmatched_below rs o qs n))) || ((u && m) && b)))
      go p q c true e u k m b = absurd (false≢true (sym e))
      go true q true false e u k m b = refl
      go true q false false e u k m b = plain q
        where
          plain : (q : Bool) → ((u && (k || m)) && b) ≡ (((u && k) && b) || ((q && false) || ((u && m) && b)))
          plain true = levels u k m b
          plain false = levels u k m b
      go false true true false e u k m b = sym (or-true ((u && k) && b))
      go false true false false e u k m b = levels u k m b
      go false false c false e u k m b = levels u k m b

-- Joining is "indifferent to order, to grouping, and to joining a list with itself": the patterns count as a set, with RECURSIVEMATCH too.
module _ (rs : List Row) (o : Options) (ps qs : List (List ℕ)) (w : Within ps qs) (v : Within qs ps) where
  same_matched : (n : List ℕ) → matches_any ps n ≡ matches_any qs n
  same_matched n = bools_equal (matches_any ps n) (matches_any qs n) (more_matched ps qs w n) (more_matched qs ps v n)

  same_percent : (n : List ℕ) → matches_any (keep ends_in_percent ps) n ≡ matches_any (keep ends_in_percent qs) n
  same_percent n =
      bools_equal (matches_any (keep ends_in_percent ps) n) (matches_any (keep ends_in_percent qs) n)
      (more_matched (keep ends_in_percent ps) (keep ends_in_percent qs) (within_keep ps qs w ends_in_percent) n)
      (more_matched (keep ends_in_percent qs) (keep ends_in_percent ps) (within_keep qs ps v ends_in_percent) n)

  same_unmatched : (n : List ℕ) → meets_unmatched_below rs o ps n ≡ meets_unmatched_below rs o qs n
  unfolding meets_unmatched_below
  same_unmatched n =
      any_cong (λ d. (below n d && candidate_meets rs o d) && not (matches_any ps d))
      (λ d. (below n d && candidate_meets rs o d) && not (matches_any qs d))
      (λ d. ap (λ (b : Bool). (below n d && candidate_meets rs o d) && not b) (same_matched d))
      (candidates rs)

  same_level : (n : List ℕ) → level_above rs o ps n ≡ level_above rs o qs n
  unfolding level_above
  same_level n = rw (same_percent n)

  pub same_listed : (n : List ℕ) → listed rs o ps n ≡ listed rs o qs n
  unfolding listed
  same_listed n = rw (same_matched n, same_unmatched n, same_level n)

  pub same_line : (n : List ℕ) → line_of rs o ps n ≡ line_of rs o qs n
  unfolding line_of attributes
  same_line n = ap (λ (b : Bool). list_line (attributes_for (flags_of rs n) o (has_children rs o n) b) n (child_info rs o n)) (same_level n)

  pub same_answer : (tag : List ℕ) → list_answer rs tag o ps ≡ list_answer rs tag o qs
  unfolding list_answer listed_names
  same_answer tag = λ i. joined (map (λ n. same_line n i) (keep (λ n. same_listed n i) (candidates rs))) ++ ok_line tag
