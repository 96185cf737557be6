-- What is listed is listed among the beginnings that the server looks at, in their order.
use Rattle.listing_rules.proofs.Prelude.{◌∙◌, ◌≡◌, ap, refl, sym, Bool, ◌&&◌, ◌||◌, false, false≢true, not, true, ⊎_elim, List, list_mem}
use Rattle.listing_rules.proofs.Prelude.{list_mem_cases_cons, list_mem_head, [], ◌++◌, ◌∷◌, append-nil, map, ℕ, arith}
use Rattle.listing_rules.specs.Bytes.{slash}
use Rattle.listing_rules.specs.Lists.{any_of, keep, joined}
use Rattle.listing_rules.specs.Orders.{byte_order, ascends}
use Rattle.listing_rules.specs.Names.{lawful_name, below, proper_ancestors}
use Rattle.listing_rules.specs.Flags.{exists}
use Rattle.listing_rules.specs.Table.{Row, names, has_row, flags_of}
use Rattle.listing_rules.specs.Options.{Options}
use Rattle.listing_rules.specs.Match.{matches_any}
use Rattle.listing_rules.specs.Listing.{candidates, implied, candidate_meets, meets_below, meets_unmatched_below, unselective, ends_in_percent, level_above}
use Rattle.listing_rules.specs.Listing.{listed, listed_names}
use Rattle.list_line.specs.declared.words.LineWord.{LineWord}
use Rattle.listing_rules.proofs.Bools.{and_l, and_r, or_cases}
use Rattle.listing_rules.proofs.ListLaws.{every_mem, some_mem, keep_mem, mem_keep}
use Rattle.listing_rules.proofs.Order.{bytes_total}
use Rattle.listing_rules.proofs.Sorted.{Asc, asc_keep, asc_sorted, decided}
use Rattle.listing_rules.proofs.Ancestors.{anc_below, below_anc, candidate, candidate_cases, candidates_closed}
use Rattle.listing_rules.proofs.LawfulNames.{below_split, good_below, good_parts}
use Rattle.listing_rules.proofs.NameFlags.{implied_meets_not, candidate_row}
use Rattle.list_answer.specs.Prefixes.{prefixes}
use Rattle.mailbox_table.specs.Index.{Lawful}
use Rattle.list_answer.specs.Shown.{line_on, shown_text}
use Rattle.list_answer.proofs.AtRow.{joined_shown}
use Rattle.list_answer.proofs.Prefixes.{prefixes_have, prefixes_asc, AllFull}

module _ (rs : List Row) (o : Options) (ps : List (List ℕ)) where
  -- a name that meets the criteria has a row
  meets_candidate : (z : List ℕ) → candidate_meets rs o z ≡ true → list_mem z (candidates rs)
  meets_candidate z e = go (has_row rs z) refl
    where
      go : (b : Bool) → has_row rs z ≡ b → list_mem z (candidates rs)
      go true h = let w = candidate_row rs z h in candidate rs z w.0 w.1 (list_mem_head (sym w.2))
      go false h = absurd (false≢true (sym (implied_meets_not rs o z (unfold implied in rw h)) ∙ e))

  -- a name with a descendant that meets them is an ancestor, be the descendant unmatched or the name a level above
  below_candidate : (z : List ℕ) → meets_unmatched_below rs o ps z ≡ true → list_mem z (candidates rs)
  unfolding meets_unmatched_below
  below_candidate z e =
      let w = some_mem (λ d. below z d && candidate_meets rs o d && not (matches_any ps d)) (candidates rs) e in
      let b : below z w.0 ≡ true = and_l (below z w.0) (candidate_meets rs o w.0) (and_l (below z w.0 && candidate_meets rs o w.0) (not (matches_any ps w.0)) w.2) in
      candidates_closed rs z w.0 w.1 (below_anc z w.0 b)

  level_candidate : (z : List ℕ) → level_above rs o ps z ≡ true → list_mem z (candidates rs)
  unfolding level_above meets_below
  level_candidate z e =
      let w = some_mem (λ d. below z d && candidate_meets rs o d) (candidates rs)
      (and_r (unselective o && not (exists (flags_of rs z)) && matches_any (keep ends_in_percent ps) z)
      (any_of (λ d. below z d && candidate_meets rs o d) (candidates rs)) e) in
      candidates_closed rs z w.0 w.1 (below_anc z w.0 (and_l (below z w.0) (candidate_meets rs o w.0) w.2))

  listed_candidate : (z : List ℕ) → listed rs o ps z ≡ true → list_mem z (candidates rs)
  unfolding listed
  listed_candidate z e = ⊎_elim matched (level_candidate z) (or_cases (matches_any ps z && (candidate_meets rs o z || (o.sel_recursive && meets_unmatched_below rs o ps z))) (level_above rs o ps z) e)
    where
      matched : (matches_any ps z && (candidate_meets rs o z || (o.sel_recursive && meets_unmatched_below rs o ps z))) ≡ true → list_mem z (candidates rs)
      matched f =
          ⊎_elim (meets_candidate z) (λ k. below_candidate z (and_r o.sel_recursive (meets_unmatched_below rs o ps z) k))
          (or_cases (candidate_meets rs o z) (o.sel_recursive && meets_unmatched_below rs o ps z)
          (and_r (matches_any ps z) (candidate_meets rs o z || (o.sel_recursive && meets_unmatched_below rs o ps z)) f))

  module _ (law : Lawful rs) where
    full : AllFull rs
    full r m = (good_parts r.name (every_mem (λ (q : Row). lawful_name q.name) rs law r m)).least

    begins : (r : Row) (z s : List ℕ) → list_mem r rs → lawful_name z ≡ true → r.name ≡ z ++ s → list_mem z (prefixes rs)
    begins r [] s m g e = absurd (omega (arith, (good_parts [] g).least))
    begins r (b ∷ z) s m g e = prefixes_have rs r b z s m e

    candidate_prefix : (z : List ℕ) → list_mem z (candidates rs) → list_mem z (prefixes rs)
    candidate_prefix z m = ⊎_elim itself above (list_mem_cases_cons w.2)
      where
        w : (r : Row) × list_mem r rs × list_mem z (r.name ∷ proper_ancestors r.name)
        w = candidate_cases rs z m

        good : lawful_name w.0.name ≡ true
        good = every_mem (λ (q : Row). lawful_name q.name) rs law w.0 w.1

        itself : z ≡ w.0.name → list_mem z (prefixes rs)
        itself e = begins w.0 z [] w.1 (ap lawful_name e ∙ good) (sym e ∙ sym (append-nil z))

        above : list_mem z (proper_ancestors w.0.name) → list_mem z (prefixes rs)
        above k =
            let b = anc_below z w.0.name k in
            let v = below_split z w.0.name b in
            begins w.0 z (slash ∷ v.0) w.1 (good_below z w.0.name good b) v.1

    -- the listed names, found among the beginnings
    listed_prefixes : ascends (names rs) ≡ true → keep (listed rs o ps) (prefixes rs) ≡ listed_names rs o ps
    unfolding listed_names
    listed_prefixes a =
        decided byte_order bytes_total (keep L (prefixes rs)) (keep L (candidates rs)) (asc_keep byte_order L (prefixes rs) (prefixes_asc rs a full)) (asc_keep byte_order L (candidates rs) cand_asc)
        (λ z m. let w = keep_mem L (prefixes rs) z m in mem_keep L (candidates rs) z (listed_candidate z w.1) w.1)
        (λ z m. let w = keep_mem L (candidates rs) z m in mem_keep L (prefixes rs) z (candidate_prefix z w.0) w.1)
      where
        L : List ℕ → Bool
        L = listed rs o ps

        cand_asc : Asc byte_order (candidates rs)
        cand_asc = unfold candidates in asc_sorted byte_order bytes_total (joined (map (λ r. r.name ∷ proper_ancestors r.name) rs))

-- The text of the beginnings that are looked at is that of the listed names.
pub answer_text_lem : (w : LineWord) (rs : List Row) (o : Options) (ps : List (List ℕ)) → Lawful rs → ascends (names rs) ≡ true →
    joined (map (shown_text w rs o ps) (prefixes rs)) ≡ joined (map (line_on w rs o ps) (listed_names rs o ps))
unfolding shown_text
answer_text_lem w rs o ps law a = sym (joined_shown (listed rs o ps) (line_on w rs o ps) (prefixes rs)) ∙ ap (λ (l : List (List ℕ)). joined (map (line_on w rs o ps) l)) (listed_prefixes rs o ps law a)
