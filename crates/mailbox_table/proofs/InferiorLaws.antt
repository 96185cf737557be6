-- The last condition of check 1, row by row.
use Rattle.listing_rules.proofs.Prelude.{◌∙◌, ◌≡◌, refl, Bool, and-true, false, not, true, List, [], ◌∷◌, ◌+◌, ◌<◌, ◌≤◌, ℕ, le_refl, add-one, arith}
use Rattle.listing_rules.proofs.Prelude.{drop, drop_of_length-le, get_or, length, take-take}
use lib.Bits.{and_zero_r}
use Rattle.listing_rules.specs.Lists.{every, any_of}
use Rattle.listing_rules.specs.Names.{below}
use Rattle.listing_rules.specs.Flags.{no_inferiors}
use Rattle.listing_rules.specs.Table.{Row, none_below}
use Rattle.mailbox_table.specs.Index.{name_at, nth_row, nth_name, row_at_word, rows_at, Indexed}
use Rattle.mailbox_table.specs.Below.{marks_of, marked_below, prefix_of, below_from, Begins}
use Rattle.mailbox_table.proofs.IndexLaws.{rows_length, rows_cons, shares_less}
use Rattle.mailbox_table.proofs.ScanLaws.{scan_whole}

-- a row that may have inferiors, and one that may not
module _ (rs : List Row) (r : Row) where
  pub none_any : no_inferiors r.flags ≡ false → none_below rs r ≡ true
  unfolding none_below
  none_any e = rw e

  pub none_some : no_inferiors r.flags ≡ true → none_below rs r ≡ not (any_of (λ q. below r.name q.name) rs)
  unfolding none_below
  none_some e = rw e

-- the whole name of a row
prefix_whole : (area words : List ℕ) (i : ℕ) → prefix_of area words i (nth_row words i).len ≡ nth_name area words i
unfolding name_at
prefix_whole area words i = take-take (nth_row words i).len (nth_row words i).len (drop (nth_row words i).start area) (le_refl (nth_row words i).len)

-- every row has the empty set of marks
any_row : (area p ws : List ℕ) → any_of (marked_below area 0 p) ws ≡ any_of (λ q. below p q.name) (rows_at area ws)
unfolding any_of
any_row area p [] = refl
any_row area p (w ∷ ws) = rw (and_zero_r (marks_of w), and-true (below p (name_at area w)), any_row area p ws)

-- so what is found from row i on below its name is all that lies below it
pub below_anywhere : {area words : List ℕ} → Indexed area words → (i : ℕ) → i < length words →
    below_from area words 0 (prefix_of area words i (nth_row words i).len) i ≡ any_of (λ q. below (nth_name area words i) q.name) (rows_at area words)
below_anywhere {area} {words} x i g =
    scan_whole begins 0 (shares_less x i g) ∙ rw (prefix_whole area words i) (any_row area (nth_name area words i) words)
  where
    begins : Begins area words i (nth_row words i).len
    begins = record { indexed = x; row = g; within = le_refl _ }

-- a test of every row, from row i on
module _ (f : Row → Bool) (area words : List ℕ) (i : ℕ) where
  pub every_more : i < length words → f (row_at_word area (get_or words i 0)) ≡ true → every f (drop i (rows_at area words)) ≡ every f (drop (i + 1) (rows_at area words))
  unfolding every
  every_more h e = rw (add-one i, rows_cons area words i h, e)

  pub every_stop : i < length words → f (row_at_word area (get_or words i 0)) ≡ false → every f (drop i (rows_at area words)) ≡ false
  unfolding every
  every_stop h e = rw (rows_cons area words i h, e)

  pub every_end : length words ≤ i → every f (drop i (rows_at area words)) ≡ true
  unfolding every
  every_end h = rw (drop_of_length-le (rows_at area words) {i = i} (omega (arith, rows_length area words)))
