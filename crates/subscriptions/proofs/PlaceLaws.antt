-- The place of a name among rows whose names ascend, as the code finds it. Rests on the order of names in listing_rules and
-- on the laws of an index.
use Rattle.std.specs.Prelude.{Some}
use Rattle.std.specs.declared.cmp.Ordering.{Ordering as Compared}
use Rattle.std.specs.declared.cmp.Ordering.TheVariants.{Less, Equal, Greater}
use Rattle.std.specs.Ordering.{is_lt as std_lt}
use Rattle.std.specs.Ordering.{MatchOrdering, nat_cmp, is_some_and}
use Rattle.std.specs.Cmp.Lexicographic.{slice_partial_cmp}
use Rattle.std.specs.List.Sorted.{IsPartitionedBy, IsPartitionPoint}
use Rattle.std.proofs.lemmas.Cmp.{same_from_slice_cmp_tested, ranked}
use Rattle.listing_rules.proofs.Prelude.{◌∙◌, ◌≡◌, ap, refl, sym, Bool, ◌&&◌, ◌||◌, cond, false, false≢true, true, List, [], ◌∷◌, map}
use Rattle.listing_rules.proofs.Prelude.{Ordering, ordering_eq, ordering_gt, ordering_lt, ◌<◌, ◌≤◌, suc, zero, ℕ, dec_le}
use Rattle.listing_rules.proofs.Prelude.{arith, ltb, drop, drop_of_length-le, get_or, length, eq-eqb, le-ltb, lt-ltb, ne_eqb}
use Rattle.listing_rules.specs.Bytes.{same}
use Rattle.listing_rules.specs.Lists.{any_of, keep}
use Rattle.listing_rules.specs.Orders.{byte_order, is_lt, ascends, ascends_from}
use Rattle.listing_rules.specs.Table.{Row, names, has_row}
use Rattle.listing_rules.specs.Records.{row_of, record_rows}
use Rattle.listing_rules.specs.Subscriptions.{rows_before, nth}
use Rattle.listing_rules.proofs.Bools.{and_l, and_r}
use Rattle.listing_rules.proofs.ListLaws.{same_true, same_refl}
use Rattle.listing_rules.proofs.Order.{bytes_total}
use Rattle.listing_rules.proofs.Sorted.{order_trans, before_other}
use Rattle.records.specs.Words.{record_of}
use Rattle.mailbox_table.specs.Words.{row_of_word}
use Rattle.mailbox_table.specs.Index.{name_at, nth_row, nth_name, row_at_word, rows_at}
use Rattle.mailbox_table.proofs.IndexLaws.{rows_length, rows_cons}
use Rattle.mailbox_table.proofs.SharedLaws.{order_same, order_other, order_to_nil, order_nil_cons, order_cons_nil}
use Rattle.subscriptions.specs.Plans.{Ordered, stands_at}

-- the library's `<` on names is the order of the definitions
pub lt_is : (a b : List ℕ) (r : Bool) → r ≡ is_some_and std_lt (slice_partial_cmp (λ x y. Some (nat_cmp x y)) a b) → r ≡ is_lt (byte_order a b)
lt_is =
    same_from_slice_cmp_tested nat_cmp std_lt (λ a b. is_lt (byte_order a b)) (order_to_nil []) order_nil_cons order_cons_nil
    (λ x y xs ys o h. more x y xs ys o (ranked x y o h))
  where
    more : (x y : ℕ) (xs ys : List ℕ) (o : Compared) → MatchOrdering o (x < y) (x ≡ y) (y < x)
        → MatchOrdering o (is_lt (byte_order (x ∷ xs) (y ∷ ys)) ≡ true) (is_lt (byte_order (x ∷ xs) (y ∷ ys)) ≡ is_lt (byte_order xs ys))
        (is_lt (byte_order (x ∷ xs) (y ∷ ys)) ≡ false)
    more x y xs ys Less h = order_other x y xs ys (ne_eqb x y (λ e. omega arith)) ∙ lt-ltb x y h
    more x y xs ys Equal h = ap is_lt (order_same x y xs ys (eq-eqb x y h))
    more x y xs ys Greater h = order_other x y xs ys (ne_eqb x y (λ e. omega arith)) ∙ le-ltb x y (omega arith)

-- what does not come before n is followed by nothing that does
not_before : (x y n : List ℕ) → is_lt (byte_order x y) ≡ true → is_lt (byte_order x n) ≡ false → is_lt (byte_order y n) ≡ false
not_before x y n p q = go (is_lt (byte_order y n)) refl
  where
    go : (o : Bool) → is_lt (byte_order y n) ≡ o → o ≡ false
    go true e = sym (order_trans x y n p e) ∙ q
    go false e = refl

-- what comes neither before n nor is n, n comes before
after_other : (x n : List ℕ) → is_lt (byte_order x n) ≡ false → same x n ≡ false → is_lt (byte_order n x) ≡ true
unfolding is_lt
after_other x n p q = go (byte_order x n) refl p
  where
    go : (o : Ordering) → byte_order x n ≡ o → is_lt o ≡ false → is_lt (byte_order n x) ≡ true
    go ordering_lt e h = absurd (false≢true (sym h))
    go ordering_eq e h =
        let w : x ≡ n = bytes_total.equal x n e in
        absurd (false≢true (sym q ∙ rw w (same_refl n)))
    go ordering_gt e h = rw (bytes_total.turned x n, e)

same_turned : (x n : List ℕ) → is_lt (byte_order n x) ≡ true → same x n ≡ false
same_turned x n e = go (same x n) refl
  where
    go : (o : Bool) → same x n ≡ o → o ≡ false
    go false h = refl
    go true h =
        let w : x ≡ n = same_true x n h in
        absurd (false≢true (sym (before_other n x e) ∙ rw w (same_refl n)))

-- rows that ascend from a name on
module _ (n : List ℕ) where
  none_before : (x : List ℕ) (rs : List Row) → is_lt (byte_order x n) ≡ false → ascends_from x (names rs) ≡ true → rows_before rs n ≡ 0
  unfolding rows_before keep names ascends_from
  none_before x [] e h = refl
  none_before x (r ∷ rs) e h =
      let f = not_before x r.name n (and_l (is_lt (byte_order x r.name)) (ascends_from r.name (names rs)) h) e in
      rw f (none_before r.name rs f (and_r (is_lt (byte_order x r.name)) (ascends_from r.name (names rs)) h))

  none_has : (x : List ℕ) (rs : List Row) → is_lt (byte_order n x) ≡ true → ascends_from x (names rs) ≡ true → has_row rs n ≡ false
  unfolding has_row any_of names ascends_from
  none_has x [] e h = refl
  none_has x (r ∷ rs) e h =
      let f = order_trans n x r.name e (and_l (is_lt (byte_order x r.name)) (ascends_from r.name (names rs)) h) in
      rw (same_turned r.name n f) (none_has r.name rs f (and_r (is_lt (byte_order x r.name)) (ascends_from r.name (names rs)) h))

ascends_rest : (x : List ℕ) (rs : List Row) → ascends_from x (names rs) ≡ true → ascends (names rs) ≡ true
unfolding ascends ascends_from names
ascends_rest x [] h = refl
ascends_rest x (r ∷ rs) h = and_r (is_lt (byte_order x r.name)) (ascends_from r.name (names rs)) h

-- the first row has the name
abbrev first_is : List Row → List ℕ → Bool
first_is [] n = false
first_is (r ∷ rs) n = same r.name n

-- so a row has the name exactly if the first row that does not come before it has
has_first : (rs : List Row) (n : List ℕ) → ascends (names rs) ≡ true → has_row rs n ≡ first_is (drop (rows_before rs n) rs) n
unfolding has_row any_of rows_before keep ascends names
has_first [] n h = refl
has_first (r ∷ rs) n h = go (is_lt (byte_order r.name n)) refl (has_first rs n (ascends_rest r.name rs h))
  where
    before : ℕ
    before = length (keep (λ q. is_lt (byte_order q.name n)) rs)

    other : (o : Bool) → same r.name n ≡ o → is_lt (byte_order r.name n) ≡ false → (o || has_row rs n) ≡ o
    other true g e = refl
    other false g e = none_has n r.name rs (after_other r.name n e g) h

    go : (o : Bool) → is_lt (byte_order r.name n) ≡ o → has_row rs n ≡ first_is (drop before rs) n
        → (same r.name n || has_row rs n) ≡ first_is (drop (length (cond o (r ∷ keep (λ q. is_lt (byte_order q.name n)) rs) (keep (λ q. is_lt (byte_order q.name n)) rs))) (r ∷ rs)) n
    go true e ih = rw (before_other r.name n e) ih
    go false e ih =
        let z : before ≡ 0 = none_before n r.name rs e h in
        rw z (other (same r.name n) refl e)

-- the records of the words mean the rows of the index
pub rows_are : (area ws : List ℕ) → record_rows area (map record_of ws) ≡ rows_at area ws
unfolding record_rows row_of record_of row_of_word name_at
rows_are area [] = refl
rows_are area (w ∷ ws) = ap (λ (rs : List Row). row_at_word area w ∷ rs) (rows_are area ws)

pub flags_are : (ws : List ℕ) (k : ℕ) → k < length ws → (nth (map record_of ws) k).flags ≡ (nth_row ws k).flags.bits
unfolding nth record_of row_of_word
flags_are [] k h = absurd (omega arith)
flags_are (w ∷ ws) zero h = refl
flags_are (w ∷ ws) (suc k) h = flags_are ws k (omega arith)

-- the words whose rows come before a name stand at the front, since names ascend
module _ (area n : List ℕ) where
  abbrev pub is_before : ℕ → Bool
  is_before w = is_lt (byte_order (name_at area w) n)

  none_after : (x ws : List ℕ) → is_lt (byte_order x n) ≡ false → ascends_from x (names (rows_at area ws)) ≡ true
      → (j d : ℕ) → j < length ws → is_before (get_or ws j d) ≡ false
  unfolding names ascends_from
  none_after x [] e h j d l = absurd (omega arith)
  none_after x (w ∷ ws) e h zero d l = not_before x (name_at area w) n (and_l _ _ h) e
  none_after x (w ∷ ws) e h (suc j) d l =
      none_after (name_at area w) ws (not_before x (name_at area w) n (and_l _ _ h) e) (and_r _ _ h) j d (omega arith)

  pub parted : (ws : List ℕ) → ascends (names (rows_at area ws)) ≡ true → IsPartitionedBy is_before ws
  unfolding names ascends
  parted [] h i j d o l e = absurd (omega arith)
  parted (w ∷ ws) h zero zero d o l e = e
  parted (w ∷ ws) h zero (suc j) d o l e = go (is_before w) refl
    where
      go : (b : Bool) → is_before w ≡ b → b ≡ true
      go true q = refl
      go false q = sym (none_after (name_at area w) ws q h j d (omega arith)) ∙ e
  parted (w ∷ ws) h (suc i) zero d o l e = absurd (omega arith)
  parted (w ∷ ws) h (suc i) (suc j) d o l e =
      parted ws (ascends_rest (name_at area w) (rows_at area ws) h) i j d (omega arith) (omega arith) e

  pub part_counted : (ws : List ℕ) (r : ℕ) → r ≤ length ws → IsPartitionPoint (λ w. is_before w ≡ true) (λ w. is_before w ≡ false) ws r
      → r ≡ rows_before (rows_at area ws) n
  unfolding rows_before keep
  part_counted [] zero l p = refl
  part_counted [] (suc r) l p = absurd (omega arith)
  part_counted (w ∷ ws) zero l p =
      rw (p.1 0 0 (omega arith) (omega arith))
      (part_counted ws 0 (omega arith) (λ k d a b. absurd (omega arith), λ k d a b. p.1 (suc k) d (omega arith) (omega arith)))
  part_counted (w ∷ ws) (suc r) l p =
      rw (p.0 0 0 (omega arith) (omega arith))
      (ap suc
      (part_counted ws r (omega arith)
      (λ k d a b. p.0 (suc k) d (omega arith) (omega arith), λ k d a b. p.1 (suc k) d (omega arith) (omega arith))))

-- the row at a name's place has the name, if there is one that has it
pub has_stands : {area words : List ℕ} → Ordered area words → (n : List ℕ) (k : ℕ) → k ≡ rows_before (rows_at area words) n
    → has_row (rows_at area words) n ≡ stands_at area words k n
unfolding stands_at
has_stands {area} {words} x n k e = has_first (rows_at area words) n x.ascend ∙ rw (← e) (go (dec_le (length words) k))
  where
    go : Dec (length words ≤ k) → first_is (drop k (rows_at area words)) n ≡ (ltb k (length words) && same (nth_name area words k) n)
    go (yes h) = rw (drop_of_length-le (rows_at area words) {i = k} (omega (arith, rows_length area words)), le-ltb k (length words) h)
    go (no h) =
        let g : k < length words = omega arith in
        rw (rows_cons area words k g, lt-ltb k (length words) g)
