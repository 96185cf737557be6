-- Counting below a name over an index: what each row adds, where the count ends, and that nothing is missed. Rests on ScanLaws of `mailbox_table`.
use Rattle.listing_rules.proofs.Prelude.{◌∙◌, ◌≡◌, ap, refl, subst, sym, Bool, ◌&&◌, and-true, cond, false, true, List, [], ◌∷◌, ◌+◌, ◌*◌, ◌-◌, ◌<◌}
use Rattle.listing_rules.proofs.Prelude.{◌≤◌, suc, zero, ℕ, add-one, le_refl, arith, eqb, drop, drop_of_length-le, get_or, length, drop-cons, take-take}
use Rattle.listing_rules.proofs.Prelude.{dec_le, length-drop, length-take, take-length}
use lib.Bits.{and_zero_r}
use Rattle.listing_rules.specs.Lists.{any_of, keep}
use Rattle.listing_rules.specs.Names.{below}
use Rattle.listing_rules.specs.Flags.{exists, subscribed, remote}
use Rattle.listing_rules.specs.Table.{Row, names}
use Rattle.listing_rules.specs.Summary.{is_subscribed_local, is_subscribed_remote, is_existing_local, is_existing_remote, count_below, counted, one}
use Rattle.listing_rules.proofs.Bools.{or_none_l, or_none_r}
use Rattle.listing_rules.proofs.SummaryLaws.{below_self}
use Rattle.mailbox_table.specs.Words.{row_of_word}
use Rattle.mailbox_table.specs.Shared.{shared_len}
use Rattle.mailbox_table.specs.Index.{name_at, nth_row, nth_name, rows_at, Indexed}
use Rattle.mailbox_table.specs.Below.{marks_of, marked_below, below_from, prefix_of, Begins}
use Rattle.mailbox_table.proofs.BelowLaws.{starts, starts_take, starts_below, earlier_below}
use Rattle.mailbox_table.proofs.IndexLaws.{names_length_lem, name_at_lem, name_length, shared_at, shares_less}
use Rattle.mailbox_table.proofs.ScanLaws.{scan_end, scan_byte, scan_shared}
use Rattle.records.specs.Numbers.{summary_word}
use Rattle.summary.specs.Counts.{one_word, sum_below}

-- where a count begins: at a row of an index, with a length within its name
pub row_begins : {area words : List ℕ} {i len : ℕ} → Indexed area words → (i < length words) × (len ≤ (nth_row words i).len) → Begins area words i len
row_begins x h = record { indexed = x; row = h.0; within = h.1 }

-- one is 0 or 1, so a row adds at most 1 to each number
pub one_small : (b : Bool) → one b ≤ 1
unfolding one
one_small true = omega arith
one_small false = omega arith

pub one_word_small : (f : ℕ) → one_word f ≤ 281479271743489
unfolding one_word
one_word_small f =
    omega (arith, one_small (is_subscribed_local f), one_small (is_subscribed_remote f), one_small (is_existing_local f), one_small (is_existing_remote f))

-- what a row adds, by its three flags
pub one_remote : (f : ℕ) → remote f ≡ true → one_word f ≡ cond (subscribed f) 65536 0 + cond (exists f) 281474976710656 0
unfolding one_word is_subscribed_local is_subscribed_remote is_existing_local is_existing_remote one
one_remote f r = rw r (go (subscribed f) (exists f))
  where
    go : (s e : Bool) → cond (s && false) 1 0 + 65536 * cond (s && true) 1 0 + 4294967296 * cond (e && false) 1 0 + 281474976710656 * cond (e && true)
        1 0
        ≡ cond s 65536 0 + cond e 281474976710656 0
    go true true = refl
    go true false = refl
    go false true = refl
    go false false = refl

pub one_local : (f : ℕ) → remote f ≡ false → one_word f ≡ cond (subscribed f) 1 0 + cond (exists f) 4294967296 0
unfolding one_word is_subscribed_local is_subscribed_remote is_existing_local is_existing_remote one
one_local f r = rw r (go (subscribed f) (exists f))
  where
    go : (s e : Bool) → cond (s && true) 1 0 + 65536 * cond (s && false) 1 0 + 4294967296 * cond (e && true) 1 0 + 281474976710656 * cond (e && false)
        1 0
        ≡ cond s 1 0 + cond e 4294967296 0
    go true true = refl
    go true false = refl
    go false true = refl
    go false false = refl

pub cond_small : (b : Bool) (n : ℕ) → cond b n 0 ≤ n
cond_small true n = omega arith
cond_small false n = omega arith

-- a number, row by row
count_cons : (t : ℕ → Bool) (r : Row) (rs : List Row) (n : List ℕ) →
    count_below t (r ∷ rs) n ≡ cond (below n r.name) (one (t r.flags)) 0 + count_below t rs n
unfolding count_below keep one
count_cons t r rs n = go (below n r.name) (t r.flags)
  where
    kept : List Row
    kept = keep (λ (q : Row). below n q.name && t q.flags) rs

    go : (b c : Bool) → length (cond (b && c) (r ∷ kept) kept) ≡ cond b (cond c 1 0) 0 + length kept
    go true true = omega arith
    go true false = omega arith
    go false c = omega arith

-- the sum of what rows add is the four numbers
pub sum_counted : (area p ws : List ℕ) → sum_below area p ws ≡ summary_word (counted (rows_at area ws) p)
unfolding sum_below summary_word counted one_word
sum_counted area p [] = unfold count_below keep in refl
sum_counted area p (w ∷ ws) =
    go (below p (name_at area w)) (count_cons is_subscribed_local _ (rows_at area ws) p) (count_cons is_subscribed_remote _ (rows_at area ws) p)
    (count_cons is_existing_local _ (rows_at area ws) p) (count_cons is_existing_remote _ (rows_at area ws) p) (sum_counted area p ws)
  where
    f : ℕ
    f = (row_of_word w).flags.bits

    rs : List Row
    rs = rows_at area ws

    go : (b : Bool) {a₁ a₂ a₃ a₄ : ℕ} → a₁ ≡ cond b (one (is_subscribed_local f)) 0 + count_below is_subscribed_local rs p
        → a₂ ≡ cond b (one (is_subscribed_remote f)) 0 + count_below is_subscribed_remote rs p
        → a₃ ≡ cond b (one (is_existing_local f)) 0 + count_below is_existing_local rs p
        → a₄ ≡ cond b (one (is_existing_remote f)) 0 + count_below is_existing_remote rs p
        → sum_below area p ws ≡ count_below is_subscribed_local rs p + 65536 * count_below is_subscribed_remote rs p
        + 4294967296 * count_below is_existing_local rs p + 281474976710656 * count_below is_existing_remote rs p
        → cond b (one (is_subscribed_local f) + 65536 * one (is_subscribed_remote f) + 4294967296 * one (is_existing_local f)
        + 281474976710656 * one (is_existing_remote f)) 0 + sum_below area p ws
        ≡ a₁ + 65536 * a₂ + 4294967296 * a₃ + 281474976710656 * a₄
    go true e₁ e₂ e₃ e₄ ih = omega (arith, e₁, e₂, e₃, e₄, ih)
    go false e₁ e₂ e₃ e₄ ih = omega (arith, e₁, e₂, e₃, e₄, ih)

-- it fits
sum_small : (area p ws : List ℕ) → sum_below area p ws ≤ length ws * 281479271743489
unfolding sum_below
sum_small area p [] = omega arith
sum_small area p (w ∷ ws) = go (below p (name_at area w)) (one_word_small (row_of_word w).flags.bits) (sum_small area p ws)
  where
    go : (b : Bool) → one_word (row_of_word w).flags.bits ≤ 281479271743489 → sum_below area p ws ≤ length ws * 281479271743489
        → cond b (one_word (row_of_word w).flags.bits) 0 + sum_below area p ws ≤ suc (length ws) * 281479271743489
    go true h k = omega (arith, h, k)
    go false h k = omega (arith, h, k)

-- no row below p adds nothing
sum_none : (area p ws : List ℕ) → any_of (marked_below area 0 p) ws ≡ false → sum_below area p ws ≡ 0
unfolding sum_below any_of
sum_none area p [] h = refl
sum_none area p (w ∷ ws) h =
    let d : below p (name_at area w) ≡ false =
    sym (and-true (below p (name_at area w))) ∙ sym (rw (and_zero_r (marks_of w))) ∙ or_none_l (marked_below area 0 p w)
    (any_of (marked_below area 0 p) ws) h in
    rw d (omega (arith, sum_none area p ws (or_none_r (marked_below area 0 p w) (any_of (marked_below area 0 p) ws) h)))

-- rows that do not lie below p may be left out
sum_drop : (area p ws : List ℕ) (i : ℕ) → ((k : ℕ) → k < i → below p (nth_name area ws k) ≡ false) → sum_below area p ws ≡ sum_below area p (drop i ws)
unfolding sum_below
sum_drop area p ws zero h = refl
sum_drop area p [] (suc i) h = refl
sum_drop area p (w ∷ ws) (suc i) h = rw (h 0 (omega arith)) (omega (arith, sum_drop area p ws i (λ k g. h (suc k) (omega arith))))

module _ {area words : List ℕ} {i len : ℕ} (b : Begins area words i len) where
  abbrev p : List ℕ
  p = prefix_of area words i len

  -- what the rows from row k on add up to
  abbrev from_row : ℕ → ℕ
  from_row k = sum_below area (prefix_of area words i len) (drop k words)

  prefix_length : length (prefix_of area words i len) ≡ len
  prefix_length = simp length-take (omega (arith, name_length b.indexed i b.row, b.within))

  none_from : (k : ℕ) → below_from area words 0 (prefix_of area words i len) k ≡ false → from_row k ≡ 0
  unfolding below_from
  none_from k h = sum_none area p (drop k words) h

  pub sum_end : (k : ℕ) → length words ≤ k → from_row k ≡ 0
  sum_end k h = none_from k (scan_end b 0 k h)

  module _ (k : ℕ) (h : k < length words) where
    pub sum_byte : starts (prefix_of area words i len) (nth_name area words k) ≡ true → 47 < get_or (nth_name area words k) len 0 → from_row k ≡ 0
    sum_byte e g = none_from k (scan_byte b 0 k h e g)

    pub sum_shared : 1 ≤ k → starts (prefix_of area words i len) (nth_name area words (k - 1)) ≡ true → (nth_row words k).shared < len → from_row k ≡ 0
    sum_shared g e l = none_from k (scan_shared b 0 k h g e l)

    pub sum_on : starts (prefix_of area words i len) (nth_name area words k) ≡ true
        → from_row k ≡ cond (eqb (get_or (nth_name area words k) len 0) 47) (one_word (nth_row words k).flags.bits) 0 + from_row (k + 1)
    unfolding sum_below
    sum_on e = rw (add-one k, drop-cons words k 0 h, starts_below p (nth_name area words k) e, prefix_length)

  -- it fits, with what is counted already
  pub sum_fits : length words ≤ 512 → (k : ℕ) → from_row k ≤ 144117387132666368
  sum_fits few k = omega (arith, sum_small area p (drop k words), length-drop k words)

-- What the rows after a row add up to below its name is all that lies below it.
pub sum_whole : {area words : List ℕ} → Indexed area words → (i : ℕ) → i < length words
    → sum_below area (prefix_of area words i (nth_row words i).len) (drop (i + 1) words) ≡ summary_word
    (counted (rows_at area words) (nth_name area words i))
sum_whole {area} {words} x i g =
    ap (λ (q : List ℕ). sum_below area q (drop (i + 1) words)) whole
    ∙ sym (sum_drop area (nth_name area words i) words (i + 1) others)
    ∙ sum_counted area (nth_name area words i) words
  where
    whole : prefix_of area words i (nth_row words i).len ≡ nth_name area words i
    whole = unfold name_at in take-take (nth_row words i).len (nth_row words i).len (drop (nth_row words i).start area) (le_refl (nth_row words i).len)

    less : (k : ℕ) → k + 1 ≡ i →
        shared_len (get_or (names (rows_at area words)) k []) (get_or (names (rows_at area words)) i []) < length (nth_name area words i)
    less k e =
        let d : i - 1 ≡ k = omega arith in
        rw (name_at_lem area words k (omega arith), name_at_lem area words i g)
        (omega (arith, name_length x i g, shares_less x i g, rw d at (shared_at x i (omega arith) g)))

    earlier : (k : ℕ) → k < i → below (nth_name area words i) (nth_name area words k) ≡ false
    earlier k h =
        rw (← name_at_lem area words k (omega arith))
        (earlier_below (nth_name area words i) (names (rows_at area words)) i x.ascend (omega (arith, names_length_lem area words))
        (rw (name_at_lem area words i g) (subst (λ (l : List ℕ). starts l (nth_name area words i) ≡ true) (take-length (nth_name area words i))
        (starts_take (length (nth_name area words i)) (nth_name area words i))))
        less k h)

    others : (k : ℕ) → k < i + 1 → below (nth_name area words i) (nth_name area words k) ≡ false
    others k h = go (dec_le (k + 1) i)
      where
        go : Dec (k + 1 ≤ i) → below (nth_name area words i) (nth_name area words k) ≡ false
        go (yes d) = earlier k (omega arith)
        go (no d) =
            let e : k ≡ i = omega arith in
            ap (λ (j : ℕ). below (nth_name area words i) (nth_name area words j)) e ∙ below_self (nth_name area words i)

-- what the rows from a place on add up to, row by row
module _ (area p words : List ℕ) where
  pub rest_row : (k : ℕ) → k < length words
      → sum_below area p (drop k words) ≡ cond (below p (nth_name area words k)) (one_word (nth_row words k).flags.bits) 0 + sum_below area p
      (drop (k + 1) words)
  unfolding sum_below
  rest_row k h = rw (add-one k, drop-cons words k 0 h)

  pub rest_end : (k : ℕ) → length words ≤ k → sum_below area p (drop k words) ≡ 0
  unfolding sum_below
  rest_end k h = rw (drop_of_length-le words h)

  pub all_fits : length words ≤ 512 → sum_below area p words ≤ 144117387132666368
  all_fits few = omega (arith, sum_small area p words)
