-- A name is listed by its own right or as a level, never both, so one match decides.
use Rattle.listing_rules.proofs.Prelude.{◌∙◌, ◌≡◌, ap, refl, sym, Bool, ◌&&◌, ◌||◌, and-false, and-true, false, false≢true, not, true, List, ℕ}
use Rattle.listing_rules.proofs.Prelude.{not-true}
use Rattle.listing_rules.specs.Lists.{any_of, keep}
use Rattle.listing_rules.specs.Flags.{exists, remote}
use Rattle.listing_rules.specs.Table.{Row, flags_of}
use Rattle.listing_rules.specs.Options.{Options}
use Rattle.listing_rules.specs.Match.{matches, matches_any}
use Rattle.listing_rules.specs.Listing.{meets_criteria, candidate_meets, meets_below, unselective, ends_in_percent, level_above, listed}
use Rattle.listing_rules.proofs.Bools.{and_l, and_r}
use Rattle.listing_rules.proofs.ListLaws.{some_mem, mem_some, keep_mem}
use Rattle.listing_rules.proofs.NameFlags.{plain_criteria}
use Rattle.pattern.specs.Chosen.{chosen}
use Rattle.pattern.proofs.Chosen.{chosen_all, chosen_levels}
use Rattle.list_answer.specs.Marks.{levels_asked, level_only}
use Rattle.list_answer.specs.Shown.{by_right, as_level, matches_for}

-- a name matches a pattern that ends in "%" only if there is one
match_some : (ps : List (List ℕ)) (n : List ℕ) → matches_any (keep ends_in_percent ps) n ≡ true → any_of ends_in_percent ps ≡ true
unfolding matches_any
match_some ps n e =
    let w = some_mem (λ p. matches p n) (keep ends_in_percent ps) e in
    let v = keep_mem ends_in_percent ps w.0 w.1 in
    mem_some ends_in_percent ps w.0 v.0 v.1

-- where levels are listed, RECURSIVEMATCH is not selected, and what does not exist does not meet the criteria
pub recursive_levels : (o : Options) (ps : List (List ℕ)) → o.sel_recursive ≡ true → levels_asked o ps ≡ false
unfolding unselective
recursive_levels o ps e = rw e

module _ (o : Options) (ps : List (List ℕ)) (f : ℕ) (h : level_only o ps f ≡ true) where
  asked : levels_asked o ps ≡ true
  asked = and_l (levels_asked o ps) (not (exists f)) h

  level_plain : o.sel_recursive ≡ false
  level_plain = go o.sel_recursive refl
    where
      go : (b : Bool) → o.sel_recursive ≡ b → b ≡ false
      go true e = absurd (false≢true (sym (recursive_levels o ps e) ∙ asked))
      go false e = refl

  level_meets_not : meets_criteria o f ≡ false
  level_meets_not =
      plain_criteria o f (and_l (unselective o) (any_of ends_in_percent ps) asked)
      ∙ ap (λ (b : Bool). b && (not (remote f) || o.sel_remote)) (not-true (exists f) (and_r (levels_asked o ps) (not (exists f)) h))

module _ (rs : List Row) (o : Options) (ps : List (List ℕ)) (n : List ℕ) where
  -- it is a level above exactly if it matches a pattern that ends in "%", too
  level_above_lem : level_above rs o ps n ≡ (as_level rs o ps n && matches_any (keep ends_in_percent ps) n)
  unfolding level_above
  level_above_lem = go (unselective o) (any_of ends_in_percent ps) (not (exists (flags_of rs n))) (matches_any (keep ends_in_percent ps) n) (meets_below rs o n) (match_some ps n)
    where
      last : (u e d : Bool) → (((u && e) && true) && d) ≡ ((((u && true) && e) && d) && true)
      last true true true = refl
      last true true false = refl
      last true false d = refl
      last false e d = refl

      go : (u a e m d : Bool) → (m ≡ true → a ≡ true) → (((u && e) && m) && d) ≡ ((((u && a) && e) && d) && m)
      go u a e true d f = last u e d ∙ ap (λ (x : Bool). (((u && x) && e) && d) && true) (sym (f refl))
      go u a e false d f = ap (λ (x : Bool). x && d) (and-false (u && e)) ∙ sym (and-false (((u && a) && e) && d))

  -- what can be listed as a level alone has no right of its own
  no_right : level_only o ps (flags_of rs n) ≡ true → by_right rs o ps n ≡ false
  unfolding candidate_meets
  no_right h = rw (level_meets_not o ps (flags_of rs n) h, level_plain o ps (flags_of rs n) h)

  -- so one match decides, against the patterns that count for it
  pub listed_for : listed rs o ps n ≡ (matches_for rs o ps n && (by_right rs o ps n || as_level rs o ps n))
  unfolding listed
  listed_for =
      ap (λ (b : Bool). (matches_any ps n && by_right rs o ps n) || b) level_above_lem
      ∙ go (level_only o ps (flags_of rs n)) (by_right rs o ps n) (meets_below rs o n) no_right
    where
      as_level_lem : (m k own d : Bool) → own ≡ false → ((m && own) || (d && k)) ≡ (k && (own || d))
      as_level_lem true true true d f = absurd (false≢true (sym f))
      as_level_lem true true false true f = refl
      as_level_lem true true false false f = refl
      as_level_lem true false true d f = absurd (false≢true (sym f))
      as_level_lem true false false d f = and-false d
      as_level_lem false true true d f = absurd (false≢true (sym f))
      as_level_lem false true false true f = refl
      as_level_lem false true false false f = refl
      as_level_lem false false own d f = and-false d

      by_itself : (m own : Bool) → ((m && own) || false) ≡ (m && (own || false))
      by_itself true true = refl
      by_itself true false = refl
      by_itself false own = refl

      go : (l own d : Bool) → (l ≡ true → own ≡ false) → ((matches_any ps n && own) || ((l && d) && matches_any (keep ends_in_percent ps) n)) ≡ (matches_any (chosen l ps) n && (own || (l && d)))
      go true own d f = as_level_lem (matches_any ps n) (matches_any (keep ends_in_percent ps) n) own d (f refl) ∙ ap (λ (l : List (List ℕ)). matches_any l n && (own || d)) (sym (chosen_levels ps))
      go false own d f = by_itself (matches_any ps n) own ∙ ap (λ (l : List (List ℕ)). matches_any l n && (own || false)) (sym (chosen_all ps))

  -- what can be listed as a level and matches is a level above
  pub level_matched : matches_for rs o ps n ≡ true → level_above rs o ps n ≡ as_level rs o ps n
  level_matched h = level_above_lem ∙ go (level_only o ps (flags_of rs n)) h
    where
      go : (l : Bool) → matches_any (chosen l ps) n ≡ true → ((l && meets_below rs o n) && matches_any (keep ends_in_percent ps) n) ≡ (l && meets_below rs o n)
      go true k =
          ap (λ (b : Bool). meets_below rs o n && b) (ap (λ (l : List (List ℕ)). matches_any l n) (sym (chosen_levels ps)) ∙ k)
          ∙ and-true (meets_below rs o n)
      go false k = refl
