-- Names without overlap, by a map of used bytes: the marks of one name, the loop over the names, and that two names of which neither is
-- empty are apart exactly if no byte belongs to both. Rests on the laws of records in listing_rules.
use Rattle.listing_rules.proofs.Prelude.{◌∙◌, ◌≡◌, ap, refl, sym, Bool, ◌&&◌, ◌||◌, false, false≢true, not, true, ◌⊎◌, inl, inr, ⊎_elim, List, []}
use Rattle.listing_rules.proofs.Prelude.{◌++◌, ◌∷◌, map, map-append, ◌+◌, ◌<◌, ◌≤◌, suc, zero, ℕ, add-one, dec_le, arith, leb, ltb, drop}
use Rattle.listing_rules.proofs.Prelude.{get_or, length, length-replicate, replicate, take, split_at}
use Rattle.listing_rules.proofs.Prelude.{take-suc, le-leb, leb-false, leb-true, lt-ltb, ltb-false, ltb-true}
use Rattle.listing_rules.specs.Lists.{every, any_of}
use Rattle.listing_rules.specs.Records.{Record, apart, all_apart}
use Rattle.listing_rules.proofs.Bools.{and_l, and_r, and_i, or_cases, or_none_l, or_none_r}
use Rattle.listing_rules.proofs.RecordPlaces.{all_apart_snoc, all_apart_at}
use Rattle.mailbox_table.specs.Words.{row_of_word}
use Rattle.records.specs.Words.{record_of}
use Rattle.mailbox_table.specs.Index.{nth_row}
use Rattle.mailbox_table.specs.Layout.{covers, Marked, Mapped}

-- no names lie without overlap
pub apart_none : (ws : List ℕ) → length ws ≡ 0 → true ≡ all_apart (map record_of ws)
unfolding all_apart
apart_none [] h = refl
apart_none (w ∷ ws) h = absurd (omega (arith, h))

module _ (start len k : ℕ) where
  covers_true : covers start len k ≡ true → (start ≤ k) × (k < start + len)
  unfolding covers
  covers_true e = (leb-true start k (and_l (leb start k) (ltb k (start + len)) e), ltb-true k (start + len) (and_r (leb start k) (ltb k (start + len)) e))

  covers_in : start ≤ k → k < start + len → covers start len k ≡ true
  unfolding covers
  covers_in h g = and_i (leb start k) (ltb k (start + len)) (le-leb start k h) (lt-ltb k (start + len) g)

  covers_false : covers start len k ≡ false → (k < start) ⊎ (start + len ≤ k)
  unfolding covers
  covers_false e = go (leb start k) refl e
    where
      go : (o : Bool) → leb start k ≡ o → (o && ltb k (start + len)) ≡ false → (k < start) ⊎ (start + len ≤ k)
      go true p d = inr (ltb-false k (start + len) d)
      go false p d = inl (leb-false start k p)

-- what was seen of the bytes before k: one that was marked, or that none was
abbrev pub Seen : List Bool → ℕ → ℕ → Bool → Type 0
Seen before start k true = (j : ℕ) × (start ≤ j) × (j < k) × (get_or before j false ≡ true)
Seen before start k false = (j : ℕ) → start ≤ j → j < k → get_or before j false ≡ false

-- The loop over a name's bytes: those before k are marked and were seen, the others are as they were.
pub record Marking (before : List Bool) (start len : ℕ) (used : List Bool) (taken : Bool) (k : ℕ) : Type 0 where
  pub low : start ≤ k
  pub high : k ≤ start + len
  pub size : length used ≡ length before
  pub seen : Seen before start k taken
  pub marked : (j : ℕ) → start ≤ j → j < k → get_or used j false ≡ true
  pub others : (j : ℕ) → (j < start) ⊎ (k ≤ j) → get_or used j false ≡ get_or before j false

module _ {before : List Bool} {start len : ℕ} {used : List Bool} {taken : Bool} {k : ℕ} (c : Marking before start len used taken k) where
  pub marking_done : start + len ≤ k → Marked before used start len (not taken)
  marking_done h = go taken c.seen
    where
      there : (j : ℕ) (o : Bool) → covers start len j ≡ o → get_or used j false ≡ (o || get_or before j false)
      there j true e = let w = covers_true start len j e in c.marked j w.0 (omega (arith, w.1))
      there j false e = c.others j (past j (covers_false start len j e))
        where
          past : (j : ℕ) → (j < start) ⊎ (start + len ≤ j) → (j < start) ⊎ (k ≤ j)
          past j (inl a) = inl a
          past j (inr a) = inr (omega (arith, c.high))

      go : (o : Bool) → Seen before start k o → Marked before used start len (not o)
      go true s = (s.0, covers_in start len s.0 s.1 (omega (arith, s.2, c.high)), s.3)
      go false s = (c.size, λ j e. free j (covers_true start len j e), λ j. there j (covers start len j) refl)
        where
          free : (j : ℕ) → (start ≤ j) × (j < start + len) → get_or before j false ≡ false
          free j w = s j w.0 (omega (arith, w.1))

-- a byte that belongs to the name of a record, and to a name of some
abbrev pub covered_by : ℕ → Record → Bool
covered_by k r = covers r.start r.len k

-- no name is empty
abbrev Full : List Record → Type 0
Full [] = Unit {0}
Full (r ∷ rs) = (0 < r.len) × Full rs

-- of two names that are apart no byte belongs to both; of two that are not, and not empty, some byte does
module _ (r q : Record) where
  apart_not_both : (k : ℕ) → covered_by k r ≡ true → covered_by k q ≡ true → apart r q ≡ true → ⊥
  unfolding apart
  apart_not_both k a b e =
      let x = covers_true r.start r.len k a in
      let y = covers_true q.start q.len k b in
      ⊎_elim
      (λ d. let z : r.start + r.len ≤ q.start = leb-true (r.start + r.len) q.start d in omega (arith, x, y))
      (λ d. let z : q.start + q.len ≤ r.start = leb-true (q.start + q.len) r.start d in omega (arith, x, y))
      (or_cases (leb (r.start + r.len) q.start) (leb (q.start + q.len) r.start) e)

  not_both_apart : 0 < r.len → 0 < q.len → ((k : ℕ) → covered_by k r ≡ true → covered_by k q ≡ false) → apart r q ≡ true
  unfolding apart
  not_both_apart f g none_both = go (leb (r.start + r.len) q.start) (leb (q.start + q.len) r.start) refl refl
    where
      both : (k : ℕ) → r.start ≤ k → k < r.start + r.len → q.start ≤ k → k < q.start + q.len → ⊥
      both k a b c d = false≢true (sym (none_both k (covers_in r.start r.len k a b)) ∙ covers_in q.start q.len k c d)

      meet : r.start < q.start + q.len → q.start < r.start + r.len → Dec (r.start ≤ q.start) → ⊥
      meet a b (yes h) = both q.start h b (omega arith) (omega arith)
      meet a b (no h) = both r.start (omega arith) (omega arith) (omega arith) a

      go : (a b : Bool) → leb (r.start + r.len) q.start ≡ a → leb (q.start + q.len) r.start ≡ b → (a || b) ≡ true
      go true b x y = refl
      go false true x y = refl
      go false false x y = absurd (meet (leb-false (q.start + q.len) r.start y) (leb-false (r.start + r.len) q.start x) (dec_le r.start q.start))

-- the same of a name against some
hit_not_apart : (r : Record) (rs : List Record) (k : ℕ) → covered_by k r ≡ true → any_of (covered_by k) rs ≡ true → every (apart r) rs ≡ true → ⊥
unfolding any_of every
hit_not_apart r [] k a b e = false≢true b
hit_not_apart r (q ∷ rs) k a b e =
    ⊎_elim
    (λ d. apart_not_both r q k a d (and_l (apart r q) (every (apart r) rs) e))
    (λ d. hit_not_apart r rs k a d (and_r (apart r q) (every (apart r) rs) e))
    (or_cases (covered_by k q) (any_of (covered_by k) rs) b)

free_apart : (r : Record) (rs : List Record) → 0 < r.len → Full rs → ((k : ℕ) → covered_by k r ≡ true → any_of (covered_by k) rs ≡ false) → every (apart r) rs ≡ true
unfolding any_of every
free_apart r [] f g h = refl
free_apart r (q ∷ rs) f g h =
    and_i (apart r q) (every (apart r) rs)
    (not_both_apart r q f g.0 (λ k a. or_none_l (covered_by k q) (any_of (covered_by k) rs) (h k a)))
    (free_apart r rs f g.1 (λ k a. or_none_r (covered_by k q) (any_of (covered_by k) rs) (h k a)))

any_snoc : (p : Record → Bool) (rs : List Record) (r : Record) → any_of p (rs ++ r ∷ []) ≡ (p r || any_of p rs)
unfolding any_of
any_snoc p [] r = refl
any_snoc p (q ∷ rs) r = rw (any_snoc p rs r) (swap (p q) (p r) (any_of p rs))
  where
    swap : (a b c : Bool) → (a || (b || c)) ≡ (b || (a || c))
    swap true true c = refl
    swap true false c = refl
    swap false b c = refl

-- the records of words that the map reaches
full_take : (ws : List ℕ) → ((k : ℕ) → k < length ws → 0 < (nth_row ws k).len) → (i : ℕ) → Full (map record_of (take i ws))
unfolding record_of row_of_word
full_take [] f zero = tt
full_take [] f (suc i) = tt
full_take (w ∷ ws) f zero = tt
full_take (w ∷ ws) f (suc i) = (f 0 (omega arith), full_take ws (λ k h. f (suc k) (omega arith)) i)

-- The loop over the names: those of the first i words lie without overlap, and the map has their bytes and no others.
pub record Laying (words : List ℕ) (used : List Bool) (i : ℕ) : Type 0 where
  pub inside : i ≤ length words
  pub size : length used ≡ 32768
  pub no_overlap : all_apart (map record_of (take i words)) ≡ true
  pub marks : (k : ℕ) → get_or used k false ≡ any_of (covered_by k) (map record_of (take i words))

blank : (n k : ℕ) → get_or (replicate n false) k false ≡ false
blank zero k = refl
blank (suc n) zero = refl
blank (suc n) (suc k) = blank n k

pub laying_none : (words : List ℕ) (used : List Bool) → used ≡ replicate 32768 false → Laying words used 0
unfolding all_apart any_of
laying_none words used e =
    record { inside = omega arith; size = rw e (length-replicate 32768 false); no_overlap = refl; marks = λ k. rw e (blank 32768 k) }

module _ {words : List ℕ} {used : List Bool} {i : ℕ} (c : Laying words used i) (m : Mapped words) (h : i < length words) where
  abbrev here : Record
  here = record_of (get_or words i 0)

  abbrev earlier : List Record
  earlier = map record_of (take i words)

  parted : map record_of words ≡ earlier ++ here ∷ map record_of (drop (suc i) words)
  parted = ap (map record_of) (split_at words i 0 h) ∙ map-append record_of (take i words) (get_or words i 0 ∷ drop (suc i) words)

  pub laying_hit : (after : List Bool) → Marked used after (nth_row words i).start (nth_row words i).len false → all_apart (map record_of words) ≡ false
  unfolding record_of row_of_word
  laying_hit after w = go (all_apart (map record_of words)) refl
    where
      go : (o : Bool) → all_apart (map record_of words) ≡ o → o ≡ false
      go false e = refl
      go true e =
          absurd
          (hit_not_apart here earlier w.0 w.1 (sym (c.marks w.0) ∙ w.2)
          (all_apart_at earlier here (map record_of (drop (suc i) words)) (sym (ap all_apart parted) ∙ e)))

  pub laying_more : (after : List Bool) → Marked used after (nth_row words i).start (nth_row words i).len true → Laying words after (i + 1)
  unfolding record_of row_of_word
  laying_more after w =
      record {
        inside = omega arith;
        size = w.0 ∙ c.size;
        no_overlap = ap all_apart taken ∙ all_apart_snoc earlier here c.no_overlap fresh;
        marks = λ k. w.2 k ∙ rw (taken, any_snoc (covered_by k) earlier here, c.marks k);
      }
    where
      taken : map record_of (take (i + 1) words) ≡ earlier ++ here ∷ []
      taken = rw (add-one i, take-suc words i 0 h) (map-append record_of (take i words) (get_or words i 0 ∷ []))

      fresh : every (apart here) earlier ≡ true
      fresh = free_apart here earlier (m.full i h) (full_take words m.full i) (λ k a. sym (c.marks k) ∙ w.1 k a)
