-- The text of the names that begin at a row, and of all rows, step by step. Rests on Deciding and Showing.
use Rattle.listing_rules.proofs.Prelude.{◌∙◌, ◌≡◌, ap, refl, sym, Bool, ◌||◌, cond, false, true, List, [], ◌++◌, ◌∷◌, map, map-append, ◌+◌, ◌-◌, ◌<◌}
use Rattle.listing_rules.proofs.Prelude.{◌≤◌, suc, zero, ℕ, add-one, arith, drop, drop_of_length-le, get_or, length, length-map, take, drop-cons}
use Rattle.listing_rules.proofs.Prelude.{take-suc, ne_eqb}
use Rattle.listing_rules.specs.Lists.{joined}
use Rattle.listing_rules.specs.Table.{Row}
use Rattle.listing_rules.specs.Options.{Options}
use Rattle.list_line.specs.declared.words.LineWord.{LineWord}
use Rattle.mailbox_table.specs.Shared.{shared_len}
use Rattle.mailbox_table.specs.Index.{nth_row, nth_name, row_at_word, rows_at, Indexed}
use Rattle.mailbox_table.proofs.IndexLaws.{name_length, shares_less, shared_at}
use Rattle.list_answer.specs.Prefixes.{growing, longer, prefixes_after}
use Rattle.list_answer.specs.Marks.{levels_asked}
use Rattle.list_answer.specs.Shown.{shown_text}
use Rattle.list_answer.proofs.AtRow.{no_row, joined_append}
use Rattle.list_answer.proofs.Deciding.{map_at, flags_proper}
use Rattle.list_answer.proofs.Showing.{text_implied}

module _ (T : List ℕ → List ℕ) (n : List ℕ) where
  abbrev pub beyond : ℕ → List ℕ
  beyond k = joined (map T (longer k n))

  -- one beginning more
  pub beyond_step : (k : ℕ) → k < length n → beyond k ≡ T (take (k + 1) n) ++ beyond (k + 1)
  unfolding longer growing joined
  beyond_step k h = rw (add-one k, drop-cons n k 0 h, take-suc n k 0 h)

  pub beyond_end : (k : ℕ) → length n ≤ k → beyond k ≡ []
  unfolding longer growing joined
  beyond_end k h = rw (drop_of_length-le n h)

  -- beginnings without a text are passed over
  beyond_skip : (d k : ℕ) → k + d < length n → ((j : ℕ) → k < j → j ≤ k + d → T (take j n) ≡ []) → beyond k ≡ beyond (k + d)
  beyond_skip zero k h f = ap beyond (omega arith)
  beyond_skip (suc d) k h f =
      beyond_step k (omega arith)
      ∙ ap (λ (l : List ℕ). l ++ beyond (k + 1)) (f (k + 1) (omega arith) (omega arith))
      ∙ beyond_skip d (k + 1) (omega arith) (λ j g i. f j (omega arith) (omega arith))
      ∙ ap beyond (omega arith)

-- the name before row i, and the text of the rows from i on
abbrev name_before : List ℕ → List ℕ → ℕ → List ℕ
name_before area words zero = []
name_before area words (suc j) = nth_name area words j

abbrev pub text_from : (List ℕ → List ℕ) → List ℕ → List ℕ → ℕ → List ℕ
text_from T area words i = joined (map T (prefixes_after (name_before area words i) (drop i (rows_at area words))))

module _ (area words : List ℕ) (x : Indexed area words) where
  module _ (w : LineWord) (o : Options) (ps : List (List ℕ)) (i : ℕ) (h : i < length words) where
    abbrev texts : List ℕ → List ℕ
    texts = shown_text w (rows_at area words) o ps

    abbrev len : ℕ
    len = (nth_row words i).len

    abbrev shared : ℕ
    shared = (nth_row words i).shared

    -- where it is looked for the first name: after what is shared with the name before, or at the whole name
    abbrev start : Bool → ℕ
    start deep = cond deep shared (len - 1)

    pub first_range : (deep : Bool) →
        ((nth_row words i).shared ≤ cond deep (nth_row words i).shared ((nth_row words i).len - 1)) ×
        (cond deep (nth_row words i).shared ((nth_row words i).len - 1) ≤ (nth_row words i).len)
    first_range true = (omega arith, omega (arith, shares_less x i h))
    first_range false = (omega (arith, shares_less x i h), omega arith)

    -- without RECURSIVEMATCH and without levels nothing is shown of a beginning that is not the whole name
    proper_none : (o.sel_recursive || levels_asked o ps) ≡ false → (j : ℕ) → shared < j → j < len → texts (take j (nth_name area words i)) ≡ []
    proper_none e j g k =
        text_implied w (rows_at area words) o ps (take j (nth_name area words i))
        (flags_proper area words x (record { row = i; len = j }) (record { row = h; beyond = g; within = omega arith }) (ne_eqb len j (λ d. omega arith)))
        e

    -- so the whole name is the first to look at
    pub first_shown : (deep : Bool) → deep ≡ (o.sel_recursive || levels_asked o ps) →
        beyond (shown_text w (rows_at area words) o ps) (nth_name area words i) (cond deep (nth_row words i).shared ((nth_row words i).len - 1)) ≡ beyond
        (shown_text w (rows_at area words) o ps) (nth_name area words i) (nth_row words i).shared
    first_shown true e = refl
    first_shown false e =
        sym
        (beyond_skip texts (nth_name area words i) (len - 1 - shared) shared (omega (arith, name_length x i h, shares_less x i h))
        (λ j g k. proper_none (sym e) j g (omega (arith, shares_less x i h)))
        ∙ ap (beyond texts (nth_name area words i)) (omega (arith, shares_less x i h)))

  module _ (T : List ℕ → List ℕ) where
    shared_before : (i : ℕ) → i < length words → shared_len (name_before area words i) (nth_name area words i) ≡ (nth_row words i).shared
    unfolding shared_len
    shared_before zero h = sym x.first
    shared_before (suc j) h = let w : suc j - 1 ≡ j = omega arith in sym (shared_at x (suc j) (omega arith) h ∙ ap (λ (k : ℕ). shared_len (nth_name area words k) (nth_name area words (suc j))) w)

    row_next : (i : ℕ) → i < length words → drop i (rows_at area words) ≡ row_at_word area (get_or words i 0) ∷ drop (suc i) (rows_at area words)
    row_next i h =
        drop-cons (rows_at area words) i no_row (omega (arith, length-map words (row_at_word area)))
        ∙ ap (λ (r : Row). r ∷ drop (suc i) (rows_at area words)) (map_at (row_at_word area) words i no_row h)

    first_row : (prev : List ℕ) (r : Row) (rs : List Row) → joined (map T (prefixes_after prev (r ∷ rs))) ≡ beyond T r.name (shared_len prev r.name) ++ joined (map T (prefixes_after r.name rs))
    unfolding prefixes_after
    first_row prev r rs =
        ap joined (map-append T (longer (shared_len prev r.name) r.name) (prefixes_after r.name rs))
        ∙ joined_append (map T (longer (shared_len prev r.name) r.name)) (map T (prefixes_after r.name rs))

    -- the names that begin at row i, then those of the rows after it
    pub rows_step : (i : ℕ) → i < length words → text_from T area words i ≡ beyond T (nth_name area words i) (nth_row words i).shared ++ text_from T area words (i + 1)
    rows_step i h =
        ap (λ (l : List Row). joined (map T (prefixes_after (name_before area words i) l))) (row_next i h)
        ∙ first_row (name_before area words i) (row_at_word area (get_or words i 0)) (drop (suc i) (rows_at area words))
        ∙ ap (λ (k : ℕ). beyond T (nth_name area words i) k ++ text_from T area words (suc i)) (shared_before i h)
        ∙ ap (λ (k : ℕ). beyond T (nth_name area words i) (nth_row words i).shared ++ text_from T area words k) (sym (add-one i))

    pub rows_end : (i : ℕ) → length words ≤ i → text_from T area words i ≡ []
    unfolding prefixes_after joined
    rows_end i h = rw (drop_of_length-le (rows_at area words) {i = i} (omega (arith, length-map words (row_at_word area))))
