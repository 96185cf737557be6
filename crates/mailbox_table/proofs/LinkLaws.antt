-- The pass over words in row order: a word against the name before it, the loop's invariant, and what the pass answers. Rests on KeptLaws,
-- RightLaws and WordLaws.
use Rattle.std.specs.Prelude.{Option, Some, None}
use Rattle.listing_rules.proofs.Prelude.{◌∙◌, ◌≡◌, ap, refl, sym, Bool, ◌&&◌, and-false, cond, false, true, List, [], ◌++◌, ◌∷◌, append-nil, map}
use Rattle.listing_rules.proofs.Prelude.{map-append, ◌+◌, ◌<◌, ◌≤◌, ℕ, add-zero, add-one, arith, leb, drop, drop_of_length-le, get_or, length}
use Rattle.listing_rules.proofs.Prelude.{length-drop, length-set, length-take, set, take, append_snoc, drop-cons, drop-drop, drop-set-lt, get_or-drop}
use Rattle.listing_rules.proofs.Prelude.{take_all, take-suc, take-suc-set, le-leb, leb-true, lt-leb}
use Rattle.listing_rules.specs.Lists.{every}
use Rattle.listing_rules.specs.Orders.{byte_order, is_lt, ascends}
use Rattle.listing_rules.specs.Names.{lawful_name}
use Rattle.listing_rules.specs.Flags.{lawful_flags}
use Rattle.listing_rules.specs.Table.{names}
use Rattle.listing_rules.specs.Records.{lies_inside}
use Rattle.listing_rules.proofs.Bools.{and_l, and_r}
use Rattle.listing_rules.proofs.LawfulNames.{GoodParts, good_parts}
use Rattle.mailbox_table.specs.declared.rows.Row.{Row}
use Rattle.mailbox_table.specs.Words.{word_of, row_of_word, with_shared, Packs}
use Rattle.records.specs.Words.{record_of}
use Rattle.mailbox_table.specs.Index.{name_at, rows_at, linked_words}
use Rattle.mailbox_table.specs.Shared.{shared_len}
use Rattle.mailbox_table.specs.Below.{marks_of, with_marks}
use Rattle.mailbox_table.specs.Link.{name_in, rows_right, good_word, linked_row, step_of, linked, Links}
use Rattle.mailbox_table.proofs.WordLaws.{row_word, row_with, record_row, record_word, marks_shared, marks_readers, flags_fit, place_fits}
use Rattle.mailbox_table.proofs.WordLaws.{rows_records}
use Rattle.mailbox_table.proofs.SharedLaws.{shared_le_r}
use Rattle.mailbox_table.proofs.BelowLaws.{ascends_tail}
use Rattle.mailbox_table.proofs.RightLaws.{right_parts}
use Rattle.mailbox_table.proofs.KeptLaws.{Kept, kept_none, kept_indexed, kept_more}

-- a word after the name x, by the tests of the code
module _ (area x : List ℕ) (w : ℕ) where
  pub step_outside : length area < (row_of_word w).start + (row_of_word w).len → step_of area x w ≡ None
  unfolding step_of good_word lies_inside record_of row_of_word
  step_outside h = rw (lt-leb ((row_of_word w).start + (row_of_word w).len) (length area) h)

  pub step_flags : lawful_flags (row_of_word w).flags.bits ≡ false → step_of area x w ≡ None
  unfolding step_of good_word
  step_flags e = simp (e, and-false)

  pub step_name : lawful_name (name_at area w) ≡ false → step_of area x w ≡ None
  unfolding step_of good_word
  step_name e = simp (e, and-false)

  pub step_order : is_lt (byte_order x (name_at area w)) ≡ false → step_of area x w ≡ None
  unfolding step_of good_word
  step_order e = simp (e, and-false)

  pub step_good : (row_of_word w).start + (row_of_word w).len ≤ length area → lawful_flags (row_of_word w).flags.bits ≡ true →
      lawful_name (name_at area w) ≡ true
      → is_lt (byte_order x (name_at area w)) ≡ true → step_of area x w ≡ Some (linked_row area x w)
  unfolding step_of good_word lies_inside record_of row_of_word
  step_good h f n o = simp (le-leb ((row_of_word w).start + (row_of_word w).len) (length area) h, f, n, o)

  -- what a step says
  abbrev pub StepIs : Option Row → Type 0
  StepIs (Some r) = (r ≡ linked_row area x w) × (good_word area x w ≡ true)
  StepIs None = good_word area x w ≡ false

  pub step_is_lem : StepIs (step_of area x w)
  unfolding step_of
  step_is_lem = go (good_word area x w) refl
    where
      go : (a : Bool) → good_word area x w ≡ a → StepIs (cond a (Some (linked_row area x w)) None)
      go true p = (refl, p)
      go false p = p

  module _ (g : good_word area x w ≡ true) where
    good_inside : (row_of_word w).start + (row_of_word w).len ≤ length area
    unfolding good_word lies_inside record_of row_of_word
    good_inside =
        leb-true ((row_of_word w).start + (row_of_word w).len) (length area) (and_l (leb ((row_of_word w).start + (row_of_word w).len) (length area)) _ g)

    good_name : GoodParts (name_at area w)
    unfolding good_word
    good_name =
        let f = lawful_flags (row_of_word w).flags.bits in
        let n = lawful_name (name_at area w) in
        let o = is_lt (byte_order x (name_at area w)) in
        good_parts (name_at area w) (and_r f n (and_l (f && n) o (and_r (lies_inside area (record_of w)) (f && n && o) g)))

    good_length : length (name_at area w) ≡ (row_of_word w).len
    unfolding name_at
    good_length = simp (length-take, length-drop) (omega (arith, good_inside))

-- the word of a row that is linked now, with the readers of the word that it was
abbrev relinked_word : ℕ → Row → ℕ
relinked_word w r = with_marks (marks_of w) (word_of r)

-- a row that a step gives, and its word
module _ (area x : List ℕ) (w : ℕ) (r : Row) (e : step_of area x w ≡ Some r) where
  step_next : StepIs area x w (Some r)
  step_next = rw e at (step_is_lem area x w)

  pub step_packs : Packs r
  step_packs =
      rw step_next.0
      (record {
        start = (place_fits w).0;
        len = (place_fits w).1;
        shared = omega (arith, shared_le_r x (name_at area w), (good_name area x w step_next.1).most);
      })

  bits_fit : r.flags.bits < 65536
  bits_fit = rw step_next.0 (flags_fit w)

  word_row : row_of_word (relinked_word w r) ≡ linked_row area x w
  word_row = row_with (marks_of w) (word_of r) ∙ row_word r bits_fit step_packs ∙ step_next.0

  word_record : record_of (relinked_word w r) ≡ record_of w
  word_record = record_word (marks_of w) r bits_fit step_packs ∙ rw (step_next.0, marks_readers w) (sym (record_row w))

  word_name : name_at area (relinked_word w r) ≡ name_at area w
  unfolding name_at
  word_name = rw word_row

  -- to the last bit, the word with what its name shares
  word_linked : w < 18446744073709551616 → relinked_word w r ≡ with_shared (shared_len x (name_at area w)) w
  word_linked h =
      rw step_next.0
      (marks_shared (shared_len x (name_at area w)) w (omega (arith, shared_le_r x (name_at area w), (good_name area x w step_next.1).most)) h)

  row_name : name_in area r ≡ name_at area w
  unfolding name_at
  row_name = rw step_next.0

  word_kept : {ws : List ℕ} → Kept area ws x → Kept area (ws ++ relinked_word w r ∷ []) (name_in area r)
  word_kept k =
      rw (row_name, ← word_name)
      (kept_more k (relinked_word w r) (rw (word_name, word_row))
      (rw word_row (omega (arith, (good_name area x w step_next.1).least, good_length area x w step_next.1)))
      (rw word_row (good_inside area x w step_next.1)))

-- every word is good after the one before: each name lies in the area, and the rows are right
and_middle : (a b c d : Bool) → ((a && b) && (c && d)) ≡ ((a && c) && (b && d))
and_middle false b c d = refl
and_middle true true c d = refl
and_middle true false c d = sym (and-false c)

pub linked_is : (area x ws : List ℕ) → linked area x ws ≡ (every (lies_inside area) (map record_of ws) && rows_right x (rows_at area ws))
unfolding linked good_word every rows_right
linked_is area x [] = refl
linked_is area x (w ∷ ws) =
    rw (linked_is area (name_at area w) ws)
    (and_middle (lies_inside area (record_of w)) _ (every (lies_inside area) (map record_of ws)) (rows_right (name_at area w) (rows_at area ws)))

linked_ascend : (area ws : List ℕ) → linked area [] ws ≡ true → ascends (names (rows_at area ws)) ≡ true
linked_ascend area ws e =
    ascends_tail [] (names (rows_at area ws))
    (right_parts [] (rows_at area ws) (and_r (every (lies_inside area) (map record_of ws)) (rows_right [] (rows_at area ws))
    (sym (linked_is area [] ws) ∙ e))).ascend

linked_cons : (area x ws : List ℕ) (i : ℕ) → i < length ws →
    linked area x (drop i ws) ≡ (good_word area x (get_or ws i 0) && linked area (name_at area (get_or ws i 0)) (drop (i + 1) ws))
unfolding linked
linked_cons area x ws i h = rw (add-one i, drop-cons ws i 0 h)

-- The loop: i words tell the records that they told, with what their names share; the words from i on are as they were, and decide.
pub record Linking (area before words : List ℕ) (previous : Row) (i : ℕ) : Type 0 where
  pub inside : i ≤ length before
  pub size : length words ≡ length before
  pub later : drop i words ≡ drop i before
  pub left : linked area (name_in area previous) (drop i before) ≡ linked area [] before
  pub passed : map record_of (take i words) ≡ map record_of (take i before)
  pub kept : Kept area (take i words) (name_in area previous)
  pub cells : linked_words area [] before ≡ take i words ++ linked_words area (name_in area previous) (drop i before)

pub linking_none : (area words : List ℕ) (previous : Row) → previous ≡ row_of_word 0 → Linking area words words previous 0
unfolding row_of_word
linking_none area words previous e =
    record
    { inside = omega arith; size = refl; later = refl; left = rw nothing; passed = refl; kept = rw nothing (kept_none area); cells = rw nothing }
  where
    nothing : name_in area previous ≡ []
    nothing = rw e

module _ {area before words : List ℕ} {previous : Row} {i : ℕ} (c : Linking area before words previous i) (h : i < length before) where
  -- the word that is read is the one that was lent
  word_here : get_or words i 0 ≡ get_or before i 0
  word_here =
      let e : i + 0 ≡ i = add-zero i in
      rw e at (sym (get_or-drop i words 0 0) ∙ ap (λ (l : List ℕ). get_or l 0 0) c.later ∙ get_or-drop i before 0 0)

  pub linking_bad : step_of area (name_in area previous) (get_or words i 0) ≡ None → linked area [] before ≡ false
  linking_bad e = sym c.left ∙ linked_cons area (name_in area previous) before i h ∙ rw bad
    where
      bad : good_word area (name_in area previous) (get_or before i 0) ≡ false
      bad = rw word_here at (rw e at (step_is_lem area (name_in area previous) (get_or words i 0)))

  module _ (r : Row) (e : step_of area (name_in area previous) (get_or words i 0) ≡ Some r) where
    abbrev v : ℕ
    v = relinked_word (get_or words i 0) r

    -- the words of the index so far, and those that the words from there on give
    cells_more : get_or words i 0 < 18446744073709551616 → take i words ++ linked_words area (name_in area previous) (drop i before)
        ≡ (take i words ++ v ∷ []) ++ linked_words area (name_in area r) (drop (i + 1) before)
    unfolding linked_words
    cells_more small =
        rw (
          append_snoc (take i words) v (linked_words area (name_in area r) (drop (i + 1) before)),
          row_name area (name_in area previous) (get_or words i 0) r e,
          word_linked area (name_in area previous) (get_or words i 0) r e small,
          word_here,
          add-one i,
          drop-cons before i 0 h,
        )

    pub linking_more : get_or words i 0 < 18446744073709551616 → Linking area before (set words i v) r (i + 1)
    linking_more small =
        record {
          inside = omega arith;
          size = length-set words i v ∙ c.size;
          later =
              drop-set-lt (i + 1) words i v (omega arith) ∙ sym (drop-drop 1 i words) ∙ ap (λ (l : List ℕ). drop 1 l) c.later ∙ drop-drop 1 i
              before;
          left = left_more;
          passed =
              rw
              (taken, taken_before, map-append record_of (take i words) (v ∷ []), map-append record_of (take i before) (get_or before i 0 ∷ []), c.passed, told);
          kept = rw taken (word_kept area (name_in area previous) (get_or words i 0) r e c.kept);
          cells = c.cells ∙ cells_more small ∙ rw taken;
        }
      where
        taken : take (i + 1) (set words i v) ≡ take i words ++ v ∷ []
        taken = rw (add-one i) (take-suc-set words i v (omega (arith, c.size)))

        taken_before : take (i + 1) before ≡ take i before ++ get_or before i 0 ∷ []
        taken_before = rw (add-one i) (take-suc before i 0 h)

        told : record_of v ≡ record_of (get_or before i 0)
        told = word_record area (name_in area previous) (get_or words i 0) r e ∙ ap record_of word_here

        good : good_word area (name_in area previous) (get_or before i 0) ≡ true
        good = rw word_here at (step_next area (name_in area previous) (get_or words i 0) r e).1

        left_more : linked area (name_in area r) (drop (i + 1) before) ≡ linked area [] before
        left_more =
            rw (row_name area (name_in area previous) (get_or words i 0) r e, word_here)
            (sym (linked_cons area (name_in area previous) before i h ∙ rw good) ∙ c.left)

-- what the pass answers
module _ {area before after : List ℕ} where
  pub links_fails : {due : Bool} → due ≡ false → length after ≡ length before → Links area before after due false
  links_fails e h = record { answer = sym e; room = h; same = tt }

  pub links_rows : {previous : Row} {i : ℕ} → Linking area before after previous i → length after ≤ i →
      Links area before after (linked area [] before) true
  unfolding linked linked_words
  links_rows {previous} {i} c h = record
      { answer = sym decided; room = c.size; same = (same_records_lem, kept_indexed (rw whole at c.kept) ascending, same_cells) }
    where
      whole : take i after ≡ after
      whole = take_all i after h

      same_records_lem : map record_of after ≡ map record_of before
      same_records_lem = rw (whole, take_all i before (omega (arith, c.size))) at c.passed

      same_cells : after ≡ linked_words area [] before
      same_cells =
          sym (c.cells ∙ rw (whole, drop_of_length-le before {i = i} (omega (arith, c.size))) (append-nil after))

      ended : linked area (name_in area previous) (drop i before) ≡ true
      ended = rw (drop_of_length-le before {i = i} (omega (arith, c.size)))

      decided : linked area [] before ≡ true
      decided = sym c.left ∙ ended

      ascending : ascends (names (rows_at area after)) ≡ true
      ascending = rw (rows_records area after, same_records_lem, ← rows_records area before) (linked_ascend area before decided)
