-- The scan: what row k says of the rows from there on, in the words of the code's tests.
use Rattle.listing_rules.proofs.Prelude.{◌∙◌, ◌≡◌, refl, subst, sym, Bool, ◌&&◌, ◌||◌, false, true, List, [], ◌∷◌, ◌+◌, ◌-◌, ◌<◌, ◌≤◌, suc, zero, ℕ}
use Rattle.listing_rules.proofs.Prelude.{add-one, arith, eqb, drop, drop_of_length-le, get_or, length, length-take, drop-cons}
use Rattle.listing_rules.specs.Lists.{any_of}
use Rattle.listing_rules.specs.Orders.{byte_order, is_lt, ascends_from}
use Rattle.listing_rules.specs.Names.{below}
use Rattle.listing_rules.specs.Table.{names}
use Rattle.octets.specs.Sets.{contains}
use Rattle.mailbox_table.specs.Shared.{shared_len}
use Rattle.mailbox_table.specs.Index.{name_at, nth_row, nth_name, rows_at}
use Rattle.mailbox_table.specs.Below.{marks_of, marked_below, below_from, prefix_of, Begins}
use Rattle.listing_rules.proofs.Bools.{and_l, and_r}
use Rattle.mailbox_table.proofs.BelowLaws.{starts, starts_take, starts_on, starts_below, Behind, behind_below, behind_byte, behind_shared}
use Rattle.mailbox_table.proofs.BelowLaws.{behind_on, ascends_from_lem, earlier_below}
use Rattle.mailbox_table.proofs.IndexLaws.{names_length_lem, name_at_lem, name_length, names_ascend, shared_at}

-- words that a test passes over
any_drop : (f : ℕ → Bool) (ws : List ℕ) (i : ℕ) → ((k : ℕ) → k < i → f (get_or ws k 0) ≡ false) → any_of f ws ≡ any_of f (drop i ws)
unfolding any_of
any_drop f ws zero h = refl
any_drop f [] (suc i) h = refl
any_drop f (w ∷ ws) (suc i) h = rw (h 0 (omega arith)) (any_drop f ws i (λ k g. h (suc k) (omega arith)))

-- the names of the words from a place on
names_drop : (area ws : List ℕ) (n : ℕ) → drop n (names (rows_at area ws)) ≡ names (rows_at area (drop n ws))
unfolding names
names_drop area ws zero = refl
names_drop area [] (suc n) = refl
names_drop area (w ∷ ws) (suc n) = names_drop area ws n

-- nothing below p follows a name after all that lies below p
after_rest : (area : List ℕ) (m : ℕ) (p c ws : List ℕ) → Behind p c → ascends_from c (names (rows_at area ws)) ≡ true →
    any_of (marked_below area m p) ws ≡ false
unfolding any_of names ascends_from
after_rest area m p c [] e l = refl
after_rest area m p c (w ∷ ws) e l =
    let n = name_at area w in
    let k : Behind p n = behind_on p c n e (and_l (is_lt (byte_order c n)) (ascends_from n (names (rows_at area ws))) l) in
    rw (behind_below p n k) (after_rest area m p n ws k (and_r (is_lt (byte_order c n)) (ascends_from n (names (rows_at area ws))) l))

module _ {area words : List ℕ} {i len : ℕ} (b : Begins area words i len) where
  abbrev p : List ℕ
  p = prefix_of area words i len

  prefix_length : length (prefix_of area words i len) ≡ len
  prefix_length = simp length-take (omega (arith, name_length b.indexed i b.row, b.within))

  module _ (m : ℕ) where
    -- what is found from row k on
    abbrev found : ℕ → Bool
    found k = below_from area words m (prefix_of area words i len) k

    -- no row is left
    pub scan_end : (k : ℕ) → length words ≤ k → found k ≡ false
    unfolding below_from any_of
    scan_end k h = rw (drop_of_length-le words h)

    module _ (k : ℕ) (h : k < length words) where
      abbrev name : List ℕ
      name = nth_name area words k

      scan_row : found k ≡ ((below p name && contains (marks_of (get_or words k 0)) m) || found (k + 1))
      unfolding below_from any_of
      scan_row = rw (add-one k, drop-cons words k 0 h)

      -- nothing from a row on that is after all that lies below p
      scan_after : Behind p name → found k ≡ false
      unfolding below_from
      scan_after e = scan_row ∙ rw (behind_below p name e) (after_rest area m p name (drop (k + 1) words) e ascend)
        where
          ascend : ascends_from name (names (rows_at area (drop (k + 1) words))) ≡ true
          ascend =
              rw (← names_drop area words (k + 1), ← name_at_lem area words k h)
              (ascends_from_lem (names (rows_at area words)) k b.indexed.ascend (omega (arith, names_length_lem area words)))

      -- a row whose name begins with p, by the byte after p
      module _ (e : starts (prefix_of area words i len) (nth_name area words k) ≡ true) where
        pub scan_byte : 47 < get_or (nth_name area words k) len 0 → found k ≡ false
        scan_byte g = scan_after (behind_byte p name e (subst (λ (n : ℕ). 47 < get_or name n 0) (sym prefix_length) g))

        scan_at : found k ≡ ((eqb (get_or name len 0) 47 && contains (marks_of (get_or words k 0)) m) || found (k + 1))
        scan_at = scan_row ∙ rw (starts_below p name e, prefix_length)

        pub scan_found : (eqb (get_or (nth_name area words k) len 0) 47 && contains (marks_of (get_or words k 0)) m) ≡ true → found k ≡ true
        scan_found f = scan_at ∙ rw f

        pub scan_on : (eqb (get_or (nth_name area words k) len 0) 47 && contains (marks_of (get_or words k 0)) m) ≡ false → found k ≡ found (k + 1)
        scan_on f = scan_at ∙ rw f

      -- a row after one whose name begins with p, by what the two share
      module _ (g : 1 ≤ k) (e : starts (prefix_of area words i len) (nth_name area words (k - 1)) ≡ true) where
        pub scan_shared : (nth_row words k).shared < len → found k ≡ false
        scan_shared l =
            scan_after
            (behind_shared p (nth_name area words (k - 1)) name e (names_ascend b.indexed (k - 1) k (omega arith) h)
            (omega (arith, prefix_length, shared_at b.indexed k g h)))

        pub starts_next : len ≤ (nth_row words k).shared → starts (prefix_of area words i len) (nth_name area words k) ≡ true
        starts_next l = starts_on p (nth_name area words (k - 1)) name e (omega (arith, prefix_length, shared_at b.indexed k g h))

    -- A row that shares less than `len` bytes with the row before is the first whose name begins with p: what is found from there on
    -- is all that is found.
    pub scan_whole : (nth_row words i).shared < len →
        below_from area words m (prefix_of area words i len) i ≡ any_of (marked_below area m (prefix_of area words i len)) words
    unfolding below_from
    scan_whole h = sym (any_drop (marked_below area m p) words i (λ k g. rw (other k g)))
      where
        less : (k : ℕ) → k + 1 ≡ i → shared_len (get_or (names (rows_at area words)) k []) (get_or (names (rows_at area words)) i []) < length p
        less k e =
            let d : i - 1 ≡ k = omega arith in
            rw (name_at_lem area words k (omega (arith, b.row)), name_at_lem area words i b.row)
            (omega (arith, prefix_length, rw d at (shared_at b.indexed i (omega arith) b.row)))

        other : (k : ℕ) → k < i → below p (nth_name area words k) ≡ false
        other k g =
            rw (← name_at_lem area words k (omega (arith, b.row)))
            (earlier_below p (names (rows_at area words)) i b.indexed.ascend (omega (arith, b.row, names_length_lem area words))
            (rw (name_at_lem area words i b.row) (starts_take len (nth_name area words i)))
            less k g)
