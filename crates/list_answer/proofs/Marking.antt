-- The marks of rows: what the code finds is what they say, and words with marks are an index of the same rows.
use Rattle.listing_rules.proofs.Prelude.{◌∙◌, ◌≡◌, ap, refl, subst, sym, Bool, ◌&&◌, ◌||◌, false, not, true, List, [], ◌∷◌, ◌++◌, map, ◌+◌, ◌/◌}
use Rattle.listing_rules.proofs.Prelude.{◌<◌, ◌^◌, ◌≤◌, suc, zero, ℕ, mod-lt, zero-lt-suc, add-one, arith, leb, drop, get_or, length, length-map}
use Rattle.listing_rules.proofs.Prelude.{length-take, set, take, le-leb}
use Rattle.listing_rules.specs.Table.{Row, names}
use Rattle.listing_rules.specs.Orders.{ascends}
use Rattle.listing_rules.specs.Options.{Options}
use Rattle.listing_rules.specs.Match.{matches_any}
use Rattle.listing_rules.specs.Listing.{meets_criteria}
use Rattle.listing_rules.specs.Server.{answered}
use Rattle.listing_rules.proofs.Bools.{or_r}
use Rattle.octets.specs.Sets.{contains}
use Rattle.list_line.proofs.Members.{set_of_below, contains_set_of}
use Rattle.command_line.specs.OptionSets.{options_is}
use Rattle.mailbox_table.specs.declared.rows.Row.{Row as Place}
use Rattle.mailbox_table.specs.Words.{row_of_word}
use Rattle.mailbox_table.specs.Shared.{shared_len}
use Rattle.mailbox_table.specs.Index.{name_at, nth_row, nth_name, row_at_word, rows_at, Indexed, Index, Lawful}
use Rattle.mailbox_table.specs.Below.{marks_of}
use Rattle.mailbox_table.proofs.WordLaws.{marks_with, row_with}
use Rattle.pattern.specs.Packed.{unpacked}
use Rattle.pattern.specs.Chosen.{chosen}
use Rattle.pattern.proofs.Chosen.{chosen_all}
use Rattle.list_answer.specs.declared.question.Question.{Question}
use Rattle.list_answer.specs.Marks.{level_only, meets_mark, unmatched_mark, child_mark, matched_mark, row_marks, marked_word}
use Rattle.list_answer.specs.Ready.{Knows, Marked, Ready}
use Rattle.list_answer.specs.Shown.{answer_for, reply_to}
use Rattle.list_answer.proofs.Levels.{recursive_levels}

-- a name of the index is short enough for the match
pub name_short : (area : List ℕ) (w : ℕ) → leb (length (name_at area w)) 255 ≡ true
unfolding name_at row_of_word
name_short area w =
    le-leb (length (take (row_of_word w).len (drop (row_of_word w).start area))) 255
    (omega (arith, length-take (row_of_word w).len (drop (row_of_word w).start area), mod-lt (w / 4294967296) (zero-lt-suc 255)))

-- What the code finds of a row

module _ (o : Options) (ps : List (List ℕ)) (r : Row) where
  -- under RECURSIVEMATCH each row is matched, against all patterns
  recursive_matched : o.sel_recursive ≡ true → matched_mark o ps r ≡ matches_any ps r.name
  recursive_matched e = rw (or_r (meets_criteria o r.flags) o.sel_recursive e, recursive_levels o ps e, chosen_all ps)

  pub unmatched_is : (matched : Bool) → matched ≡ matched_mark o ps r → ((o.sel_recursive && meets_mark o r) && not matched) ≡ unmatched_mark o ps r
  unmatched_is matched e = go o.sel_recursive refl
    where
      go : (b : Bool) → o.sel_recursive ≡ b → ((b && meets_mark o r) && not matched) ≡ (b && (meets_mark o r && not (matches_any ps r.name)))
      go true f = ap (λ (m : Bool). meets_mark o r && not m) (e ∙ recursive_matched f)
      go false f = refl

-- the match that the code asks for, of a name that it has looked up
pub matched_is : (o : Options) (ps : List (List ℕ)) (area : List ℕ) (w : ℕ) (meeting recursive level : Bool) (n : List ℕ) →
    meeting ≡ meets_mark o (row_at_word area w) → recursive ≡ o.sel_recursive → level ≡ level_only o ps (row_at_word area w).flags → n ≡ name_at area w →
    (m : Bool) → m ≡ (((meeting || recursive) || level) && (leb (length n) 255 && matches_any (chosen level ps) n)) →
    m ≡ matched_mark o ps (row_at_word area w)
matched_is o ps area w meeting recursive level n em er el en m e =
    e
    ∙ (λ i. ((em i || er i) || el i) && (leb (length (en i)) 255 && matches_any (chosen (el i) ps) (en i)))
    ∙ ap (λ (b : Bool). ((meets_mark o row || o.sel_recursive) || level_only o ps row.flags) &&
    (b && matches_any (chosen (level_only o ps row.flags) ps) row.name)) (name_short area w)
  where
    row : Row
    row = row_at_word area w

-- What the marks of a row say

module _ (area words : List ℕ) (o : Options) (ps : List (List ℕ)) (marked : Marked area words o ps) (k : ℕ) (h : k < length words) where
  abbrev marks : ℕ
  marks = marks_of (get_or words k 0)

  abbrev row : Row
  row = row_at_word area (get_or words k 0)

  member : (m : ℕ) → contains marks (2 ^ m) ≡ get_or (meets_mark o row ∷ unmatched_mark o ps row ∷ child_mark o row ∷ matched_mark o ps row ∷ []) m false
  unfolding row_marks
  member m =
      ap (λ (s : ℕ). contains s (2 ^ m)) (marked k h)
      ∙ contains_set_of m (meets_mark o row ∷ unmatched_mark o ps row ∷ child_mark o row ∷ matched_mark o ps row ∷ [])

  pub has_meeting : contains (marks_of (get_or words k 0)) 1 ≡ meets_mark o (row_at_word area (get_or words k 0))
  has_meeting = member 0

  pub has_unmatched : contains (marks_of (get_or words k 0)) 2 ≡ unmatched_mark o ps (row_at_word area (get_or words k 0))
  has_unmatched = member 1

  pub has_child : contains (marks_of (get_or words k 0)) 4 ≡ child_mark o (row_at_word area (get_or words k 0))
  has_child = member 2

  pub has_matched : contains (marks_of (get_or words k 0)) 8 ≡ matched_mark o ps (row_at_word area (get_or words k 0))
  has_matched = member 3

-- Marks made one by one

module _ (f : ℕ → ℕ) where
  -- the words of which the first i are marked
  abbrev pub marked_up_to : ℕ → List ℕ → List ℕ
  marked_up_to i ws = map f (take i ws) ++ drop i ws

  marked_next : (ws : List ℕ) (i : ℕ) → i < length ws →
      set (map f (take i ws) ++ drop i ws) i (f (get_or (map f (take i ws) ++ drop i ws) i 0)) ≡ map f (take (suc i) ws) ++ drop (suc i) ws
  marked_next [] i h = absurd (omega arith)
  marked_next (w ∷ ws) zero h = refl
  marked_next (w ∷ ws) (suc i) h = ap (λ (l : List ℕ). f w ∷ l) (marked_next ws i (omega arith))

  pub marked_more : (ws : List ℕ) (i : ℕ) → i < length ws →
      set (marked_up_to i ws) i (f (get_or (marked_up_to i ws) i 0)) ≡ marked_up_to (i + 1) ws
  marked_more ws i h = marked_next ws i h ∙ ap (λ (k : ℕ). marked_up_to k ws) (sym (add-one i))

  pub marked_all : (ws : List ℕ) (i : ℕ) → length ws ≤ i → map f (take i ws) ++ drop i ws ≡ map f ws
  marked_all [] zero h = refl
  marked_all [] (suc i) h = refl
  marked_all (w ∷ ws) zero h = absurd (omega arith)
  marked_all (w ∷ ws) (suc i) h = ap (λ (l : List ℕ). f w ∷ l) (marked_all ws i (omega arith))

-- An index by its rows

place_row : (area : List ℕ) (v w : ℕ) → row_of_word v ≡ row_of_word w → row_at_word area v ≡ row_at_word area w
unfolding name_at
place_row area v w e = ap (λ (r : Place). record { flags = r.flags.bits; name = take r.len (drop r.start area) }) e

module _ (area : List ℕ) (f : ℕ → ℕ) (same : (w : ℕ) → row_of_word (f w) ≡ row_of_word w) where
  pub rows_same : (ws : List ℕ) → rows_at area (map f ws) ≡ rows_at area ws
  rows_same [] = refl
  rows_same (w ∷ ws) = λ i. place_row area (f w) w (same w) i ∷ rows_same ws i

  row_same : (ws : List ℕ) (k : ℕ) → nth_row (map f ws) k ≡ nth_row ws k
  row_same [] k = refl
  row_same (w ∷ ws) zero = same w
  row_same (w ∷ ws) (suc k) = row_same ws k

  nth_same : (ws : List ℕ) (k : ℕ) → row_at_word area (get_or (map f ws) k 0) ≡ row_at_word area (get_or ws k 0)
  nth_same ws k = place_row area (get_or (map f ws) k 0) (get_or ws k 0) (row_same ws k)

  index_same : (ws : List ℕ) → Indexed area ws → Indexed area (map f ws)
  index_same ws x =
      record {
        ascend = ap (λ (rs : List Row). ascends (names rs)) (rows_same ws) ∙ x.ascend;
        first = shared 0 ∙ x.first;
        shares = λ k h. shared (k + 1) ∙ x.shares k (omega (arith, size)) ∙ sym (λ i. shared_len (name k i) (name (k + 1) i));
        full = λ k h. subst (λ (r : Place). 0 < r.len) (sym (row_same ws k)) (x.full k (omega (arith, size)));
        inside = λ k h. subst (λ (r : Place). r.start + r.len ≤ length area) (sym (row_same ws k)) (x.inside k (omega (arith, size)));
      }
    where
      size : length (map f ws) ≡ length ws
      size = length-map ws f

      shared : (k : ℕ) → (nth_row (map f ws) k).shared ≡ (nth_row ws k).shared
      shared k = ap (λ (r : Place). r.shared) (row_same ws k)

      name : (k : ℕ) → nth_name area (map f ws) k ≡ nth_name area ws k
      name k = ap (λ (r : Row). r.name) (nth_same ws k)

-- Words with marks

module _ (area patterns : List ℕ) (q : Question) where
  abbrev mark : ℕ → ℕ
  mark = marked_word area patterns q

  marks_few : (o : Options) (ps : List (List ℕ)) (r : Row) → row_marks o ps r < 65536
  unfolding row_marks
  marks_few o ps r = omega (arith, set_of_below (meets_mark o r ∷ unmatched_mark o ps r ∷ child_mark o r ∷ matched_mark o ps r ∷ []))

  marked_row : (w : ℕ) → row_of_word (mark w) ≡ row_of_word w
  unfolding marked_word
  marked_row w = row_with (row_marks (options_is q.options) (unpacked patterns) (row_at_word area w)) w

  marked_marks : (w : ℕ) → marks_of (mark w) ≡ row_marks (options_is q.options) (unpacked patterns) (row_at_word area w)
  unfolding marked_word
  marked_marks w =
      marks_with (row_marks (options_is q.options) (unpacked patterns) (row_at_word area w)) w
      (marks_few (options_is q.options) (unpacked patterns) (row_at_word area w))

  nth_marks : (ws : List ℕ) (k : ℕ) → k < length ws →
      marks_of (get_or (map mark ws) k 0) ≡ row_marks (options_is q.options) (unpacked patterns) (row_at_word area (get_or ws k 0))
  nth_marks [] k h = absurd (omega arith)
  nth_marks (w ∷ ws) zero h = marked_marks w
  nth_marks (w ∷ ws) (suc k) h = nth_marks ws k (omega arith)

  marked_rows : (ws : List ℕ) → rows_at area (map (marked_word area patterns q) ws) ≡ rows_at area ws
  marked_rows = rows_same area mark marked_row

  pub marked_ready : (ws : List ℕ) → Index area ws → Knows patterns q → Ready area (map (marked_word area patterns q) ws) patterns q
  marked_ready ws x k =
      record {
        index = record {
          indexed = index_same area mark marked_row ws x.indexed;
          few = omega (arith, size, x.few);
          lawful = subst Lawful (sym (marked_rows ws)) x.lawful;
        };
        marked =
            λ j h. nth_marks ws j (omega (arith, size)) ∙ ap (row_marks (options_is q.options) (unpacked patterns))
            (sym (nth_same area mark marked_row ws j));
        knows = k;
      }
    where
      size : length (map mark ws) ≡ length ws
      size = length-map ws mark

  -- the answer over them is that over the words as they were
  pub marked_reply : (ws ms tag : List ℕ) → ms ≡ map (marked_word area patterns q) ws → reply_to area ms patterns q tag ≡ reply_to area ws patterns q tag
  marked_reply ws ms tag e =
      ap (λ (rs : List Row). answered (answer_for q.word rs tag (options_is q.options) (unpacked patterns))) (ap (rows_at area) e ∙ marked_rows ws)
