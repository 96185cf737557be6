-- What is known of a beginning of a row's name in the whole table, by the row's word and by scans from the row on.
-- Rests on AtRow (the beginning comes after all rows before), on mailbox_table's ScanLaws, and on Marking.
use Rattle.listing_rules.proofs.Prelude.{◌∙◌, ◌≡◌, ap, refl, subst, sym, Bool, ◌&&◌, ◌||◌, and-true, cond, false, false≢true, not, true, ⊎_elim, List}
use Rattle.listing_rules.proofs.Prelude.{list_mem, list_mem_cases_cons, list_mem_head, [], ◌++◌, ◌∷◌, map, ◌-◌, ◌<◌, suc, zero, ℕ, dec_le, arith}
use Rattle.listing_rules.proofs.Prelude.{eqb, leb, drop, get_or, length, length-map, length-take, take, take-append-drop, drop-cons, length-take-le}
use Rattle.listing_rules.proofs.Prelude.{take_all, eqb-false, eqb-true, le-leb, leb-true}
use Rattle.listing_rules.specs.Bytes.{bit}
use Rattle.listing_rules.specs.Lists.{any_of}
use Rattle.listing_rules.specs.Orders.{byte_order}
use Rattle.listing_rules.specs.Names.{below}
use Rattle.listing_rules.specs.Flags.{exists, remote}
use Rattle.listing_rules.specs.Table.{Row, names, flags_of}
use Rattle.listing_rules.specs.Options.{Options}
use Rattle.listing_rules.specs.Match.{matches_any}
use Rattle.listing_rules.specs.Listing.{meets_criteria, candidate_meets, meets_below, meets_unmatched_below, has_children}
use Rattle.listing_rules.proofs.Bools.{and_assoc}
use Rattle.listing_rules.proofs.ListLaws.{any_cong}
use Rattle.listing_rules.proofs.Order.{bytes_total}
use Rattle.listing_rules.proofs.Sorted.{Asc, ascends_asc, lt_true}
use Rattle.listing_rules.proofs.NameFlags.{row_flags, meets_zero, meets_below_rows, meets_unmatched_below_rows}
use Rattle.octets.specs.Sets.{contains}
use Rattle.mailbox_table.specs.Shared.{shared_len}
use Rattle.mailbox_table.specs.Index.{nth_row, nth_name, row_at_word, rows_at, Indexed}
use Rattle.mailbox_table.specs.Below.{marks_of, marked_below, Begins}
use Rattle.mailbox_table.proofs.IndexLaws.{name_length, names_ascend, shared_at}
use Rattle.mailbox_table.proofs.ScanLaws.{scan_whole}
use Rattle.pattern.specs.Chosen.{chosen}
use Rattle.list_answer.specs.declared.decide.Beginning.{Beginning}
use Rattle.list_answer.specs.Prefixes.{longer}
use Rattle.list_answer.specs.Marks.{levels_asked, level_only, meets_mark, unmatched_mark, child_mark}
use Rattle.list_answer.specs.Ready.{Marked, At}
use Rattle.list_answer.specs.Shown.{begun, found_below, by_right, as_level, matches_for}
use Rattle.list_answer.proofs.Prefixes.{Less, prefix_less, longer_between, longer_has}
use Rattle.list_answer.proofs.AtRow.{no_row, before_less, later_less, implied_at, drop_mem}
use Rattle.list_answer.proofs.Marking.{name_short, has_meeting, has_unmatched, has_child, has_matched}

pub map_at : {B : Type 0} (f : ℕ → B) (l : List ℕ) (k : ℕ) (d : B) → k < length l → get_or (map f l) k d ≡ f (get_or l k 0)
map_at f [] k d h = absurd (omega arith)
map_at f (w ∷ l) zero d h = refl
map_at f (w ∷ l) (suc k) d h = map_at f l k d (omega arith)

-- a name that is no row's meets no criteria
meets_whole : (o : Options) (w : Bool) (f : ℕ) → meets_criteria o (cond w f 0) ≡ (w && meets_criteria o f)
meets_whole o true f = refl
meets_whole o false f = meets_zero o

-- a test of the rows, by their marks
any_marked : (area p : List ℕ) (f : Row → Bool) (m : ℕ) (ws : List ℕ) →
    ((k : ℕ) → k < length ws → contains (marks_of (get_or ws k 0)) m ≡ f (row_at_word area (get_or ws k 0))) →
    any_of (λ r. below p r.name && f r) (rows_at area ws) ≡ any_of (marked_below area m p) ws
unfolding any_of
any_marked area p f m [] e = refl
any_marked area p f m (w ∷ ws) e = rw (e 0 (omega arith), any_marked area p f m ws (λ k h. e (suc k) (omega arith)))

module _ (area words : List ℕ) (x : Indexed area words) (b : Beginning) (a : At words b) where
  abbrev table : List Row
  table = rows_at area words

  abbrev row : Row
  row = row_at_word area (get_or words b.row 0)

  abbrev n : List ℕ
  n = begun area words b

  abbrev whole : Bool
  whole = eqb (nth_row words b.row).len b.len

  pub begins_here : Begins area words b.row b.len
  begins_here = record { indexed = x; row = a.row; within = a.within }

  asc : Asc byte_order (names table)
  asc = ascends_asc (names table) x.ascend

  rows_length : length table ≡ length words
  rows_length = length-map words (row_at_word area)

  size : length row.name ≡ (nth_row words b.row).len
  size = name_length x b.row a.row

  begun_length : length (begun area words b) ≡ b.len
  begun_length = length-take-le b.len row.name (omega (arith, size, a.within))

  -- it is short enough for the match
  pub begun_short : leb (length (begun area words b)) 255 ≡ true
  begun_short =
      le-leb (length n) 255 (omega
      (arith, length-take b.len row.name, leb-true (length row.name) 255 (name_short area (get_or words b.row 0))))

  row_at : (k : ℕ) → k < length words → get_or table k no_row ≡ row_at_word area (get_or words k 0)
  row_at k h = map_at (row_at_word area) words k no_row h

  -- it is longer than what the row shares with the one before
  among : (k : ℕ) → k < b.len → list_mem n (longer k row.name)
  among k h =
      subst (λ (l : List ℕ). list_mem n (longer k l)) (take-append-drop b.len row.name)
      (longer_has k n (drop b.len row.name) (omega (arith, begun_length)))

  -- so it comes after all rows before
  earlier : (q : Row) → list_mem q (take b.row table) → Less q.name n
  earlier = before_less table asc b.row n (omega (arith, rows_length, a.row)) previous
    where
      previous : (j : ℕ) → b.row ≡ suc j → Less (get_or table j no_row).name n
      previous j e =
          let d : b.row - 1 ≡ j = omega arith in
          let s : (nth_row words b.row).shared ≡ shared_len (nth_name area words j) row.name = subst
          (λ (k : ℕ). (nth_row words b.row).shared ≡ shared_len (nth_name area words k) row.name) d
          (shared_at x b.row (omega arith) a.row) in
          rw (row_at j (omega (arith, a.row)))
          (longer_between (nth_name area words j) row.name n
          (lt_true (byte_order (nth_name area words j) row.name) (names_ascend x j b.row (omega arith) a.row))
          (among (shared_len (nth_name area words j) row.name) (omega (arith, s, a.beyond)))).0

  rest : drop b.row table ≡ row ∷ drop (suc b.row) table
  rest =
      drop-cons table b.row no_row (omega (arith, rows_length, a.row)) ∙ ap (λ (r : Row). r ∷ drop (suc b.row) table) (row_at b.row a.row)

  -- its flags: those of the row where it is the row's whole name, else none
  flags_whole : whole ≡ true → flags_of table n ≡ row.flags
  flags_whole e =
      ap (flags_of table) (take_all b.len row.name (omega (arith, size, eqb-true (nth_row words b.row).len b.len e)))
      ∙ row_flags table x.ascend row (drop_mem b.row table row (subst (λ (l : List Row). list_mem row l) (sym rest) (list_mem_head refl)))

  pub flags_proper : eqb (nth_row words b.row).len b.len ≡ false → flags_of (rows_at area words) (begun area words b) ≡ 0
  flags_proper e = implied_at table b.row n earlier later
    where
      shorter : b.len < length row.name
      shorter =
          elim (dec_le (nth_row words b.row).len b.len) [
            | yes h ↦ absurd (eqb-false (nth_row words b.row).len b.len e (omega (arith, a.within)))
            | no h ↦ omega (arith, size)
          ]

      own : Less n row.name
      own =
          subst (λ (l : List ℕ). Less n l) (ap (λ (l : List ℕ). n ++ l) (sym (drop-cons row.name b.len 0 shorter)) ∙ take-append-drop b.len
          row.name) (prefix_less n (drop (suc b.len) row.name) (get_or row.name b.len 0))

      later : (r : Row) → list_mem r (drop b.row table) → Less n r.name
      later r m =
          ⊎_elim (λ f. rw f own) (λ k. bytes_total.trans n row.name r.name own
          (later_less table asc b.row row (drop (suc b.row) table) rest r k))
          (list_mem_cases_cons (subst (λ (l : List Row). list_mem r l) rest m))

  pub flags_here : flags_of (rows_at area words) (begun area words b) ≡ cond (eqb (nth_row words b.row).len b.len)
      (nth_row words b.row).flags.bits 0
  flags_here = go whole refl
    where
      go : (c : Bool) → whole ≡ c → flags_of table n ≡ cond c row.flags 0
      go true e = flags_whole e
      go false e = flags_proper e

  module _ (o : Options) (ps : List (List ℕ)) (marked : Marked area words o ps) where
    -- what lies below it lies from the row on
    scan_here : (f : Row → Bool) (m : ℕ) →
        ((k : ℕ) → k < length words → contains (marks_of (get_or words k 0)) m ≡ f (row_at_word area (get_or words k 0))) →
        any_of (λ r. below n r.name && f r) table ≡ found_below area words m b
    scan_here f m e = any_marked area n f m words e ∙ sym (scan_whole begins_here m a.beyond)

    pub meets_below_lem : meets_below (rows_at area words) o (begun area words b) ≡ found_below area words 1 b
    meets_below_lem = meets_below_rows table x.ascend o n ∙ scan_here (meets_mark o) 1 (has_meeting area words o ps marked)

    pub children_below : has_children (rows_at area words) o (begun area words b) ≡ found_below area words 4 b
    unfolding has_children
    children_below =
        any_cong (λ r. below n r.name && exists r.flags && (not (remote r.flags) || o.sel_remote)) (λ r. below n r.name && child_mark o r)
        (λ r. and_assoc (below n r.name) (exists r.flags) (not (remote r.flags) || o.sel_remote)) table
        ∙ scan_here (child_mark o) 4 (has_child area words o ps marked)

    -- under RECURSIVEMATCH
    unmatched_below : (o.sel_recursive && meets_unmatched_below table o ps n) ≡ (o.sel_recursive && found_below area words 2 b)
    unmatched_below = go o.sel_recursive refl
      where
        test : Row → Bool
        test r = meets_criteria o r.flags && not (matches_any ps r.name)

        go : (c : Bool) → o.sel_recursive ≡ c → (c && meets_unmatched_below table o ps n) ≡ (c && found_below area words 2 b)
        go true e =
            meets_unmatched_below_rows table x.ascend o ps n
            ∙ any_cong (λ r. below n r.name && meets_criteria o r.flags && not (matches_any ps r.name))
            (λ r. below n r.name && unmatched_mark o ps r)
            (λ r. and_assoc (below n r.name) (meets_criteria o r.flags) (not (matches_any ps r.name)) ∙ ap
            (λ (c : Bool). below n r.name && (c && test r)) (sym e)) table
            ∙ scan_here (unmatched_mark o ps) 2 (has_unmatched area words o ps marked)
        go false e = refl

    -- its own right, by the row's mark and what the code looked for below it
    own_meets : candidate_meets table o n ≡ (whole && contains (marks_of (get_or words b.row 0)) 1)
    unfolding candidate_meets
    own_meets =
        ap (meets_criteria o) flags_here
        ∙ meets_whole o whole row.flags
        ∙ ap (λ (c : Bool). whole && c) (sym (has_meeting area words o ps marked b.row a.row))

    pub right_here : (own deep : Bool) → own ≡ (eqb (nth_row words b.row).len b.len && contains (marks_of (get_or words b.row 0)) 1) →
        deep ≡ ((o.sel_recursive && not own) && found_below area words 2 b) → (own || deep) ≡ by_right (rows_at area words) o ps (begun area words b)
    right_here own deep e d =
        same_test own o.sel_recursive (found_below area words 2 b) deep d
        ∙ (λ i. (e ∙ sym own_meets) i || sym unmatched_below i)
      where
        same_test : (own r s dp : Bool) → dp ≡ ((r && not own) && s) → (own || dp) ≡ (own || (r && s))
        same_test true r s dp f = refl
        same_test false true s dp f = f
        same_test false false s dp f = f

    -- whether it matches: the row's whole name by the row's mark, where it is listed if it matches
    pub matched_whole : eqb (nth_row words b.row).len b.len ≡ true →
        (by_right (rows_at area words) o ps (begun area words b) || as_level (rows_at area words) o ps (begun area words b)) ≡ true →
        contains (marks_of (get_or words b.row 0)) 8 ≡ matches_for (rows_at area words) o ps (begun area words b)
    unfolding candidate_meets
    matched_whole e h =
        has_matched area words o ps marked b.row a.row
        ∙ ap (λ (c : Bool). c && matches_any (chosen (level_only o ps row.flags) ps) row.name) asked
        ∙ sym (λ i. matches_any (chosen (level_only o ps (flags_whole e i)) ps) (same_name i))
      where
        same_name : n ≡ row.name
        same_name = take_all b.len row.name (omega (arith, size, eqb-true (nth_row words b.row).len b.len e))

        go : (m r u l d : Bool) → ((m || (r && u)) || (l && d)) ≡ true → ((m || r) || l) ≡ true
        go true r u l d f = refl
        go false true u l d f = refl
        go false false u true d f = refl
        go false false u false d f = absurd (false≢true f)

        asked : ((meets_criteria o row.flags || o.sel_recursive) || level_only o ps row.flags) ≡ true
        asked =
            go (meets_criteria o row.flags) o.sel_recursive (meets_unmatched_below table o ps n) (level_only o ps row.flags)
            (meets_below table o n)
            (subst (λ (f : ℕ). ((meets_criteria o f || (o.sel_recursive && meets_unmatched_below table o ps n)) ||
            (level_only o ps f && meets_below table o n)) ≡ true) (flags_whole e) h)

    -- a shorter one by its bytes
    pub matched_proper : eqb (nth_row words b.row).len b.len ≡ false →
        matches_any (chosen (levels_asked o ps) ps) (begun area words b) ≡ matches_for (rows_at area words) o ps (begun area words b)
    unfolding exists bit
    matched_proper e = rw (flags_proper e, and-true (levels_asked o ps))
