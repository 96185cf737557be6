-- A summary that is lent beside an index, row by row: it agrees with what counting afresh gives, or does not. Rests on CountLaws.
use Rattle.listing_rules.proofs.Prelude.{◌∙◌, ◌≡◌, ap, refl, sym, Bool, ◌&&◌, and-false, false, true, List, [], ◌∷◌, map, ◌+◌, ◌*◌, ◌/◌, ◌%◌, ◌<◌}
use Rattle.listing_rules.proofs.Prelude.{◌≤◌, suc, zero, ℕ, add-one, arith, eqb, drop, drop_of_length-le, get_or, length, length-map, length-take, take}
use Rattle.listing_rules.proofs.Prelude.{drop-cons, get_or-take, dec_le, eq-eqb, eqb-true, false≢true, subst}
use Rattle.listing_rules.specs.Table.{Row}
use Rattle.listing_rules.specs.Summary.{Summary, is_subscribed_local, is_subscribed_remote, is_existing_local, counted, afresh, same_summary, same_summaries}
use Rattle.listing_rules.proofs.Bools.{and_l, and_r, bools_equal}
use Rattle.listing_rules.proofs.SummaryLaws.{afresh_length}
use Rattle.listing_rules.proofs.SummaryCommands.{same_is, same_self, counts_few}
use Rattle.mailbox_table.specs.Index.{nth_name, row_at_word, rows_at}
use Rattle.mailbox_table.proofs.IndexLaws.{rows_length, rows_cons}
use Rattle.records.specs.Numbers.{summary_word, summary_of}
use Rattle.summary.specs.Counts.{fresh_words, words_agree}

-- a number tells its summary
pub word_of_told : (w : ℕ) → summary_word (summary_of w) ≡ w
unfolding summary_word summary_of
word_of_told w = omega arith

pub told_of_word : (m : Summary) → m.subscribed_local < 65536 → m.subscribed_remote < 65536 → m.existing_local < 65536 → summary_of (summary_word m) ≡ m
unfolding summary_word summary_of
told_of_word m a b c = λ i. record { subscribed_local = d₁ i; subscribed_remote = d₂ i; existing_local = d₃ i; existing_remote = d₄ i }
  where
    sl : ℕ
    sl = m.subscribed_local

    sr : ℕ
    sr = m.subscribed_remote

    el : ℕ
    el = m.existing_local

    er : ℕ
    er = m.existing_remote

    w : ℕ
    w = sl + 65536 * sr + 4294967296 * el + 281474976710656 * er

    -- what is left without the lowest, and without the lowest two
    e₁ : w / 65536 ≡ sr + 65536 * el + 4294967296 * er
    e₁ = omega (arith, a)

    e₂ : w / 4294967296 ≡ el + 65536 * er
    e₂ = omega (arith, a, b)

    d₁ : w % 65536 ≡ m.subscribed_local
    d₁ = omega (arith, a)

    d₂ : w / 65536 % 65536 ≡ m.subscribed_remote
    d₂ = ap (λ (x : ℕ). x % 65536) e₁ ∙ second
      where
        second : (sr + 65536 * el + 4294967296 * er) % 65536 ≡ sr
        second = omega (arith, b)

    d₃ : w / 4294967296 % 65536 ≡ m.existing_local
    d₃ = ap (λ (x : ℕ). x % 65536) e₂ ∙ third
      where
        third : (el + 65536 * er) % 65536 ≡ el
        third = omega (arith, c)

    d₄ : w / 281474976710656 ≡ m.existing_remote
    d₄ = omega (arith, a, b, c)

pub word_agrees : (w : ℕ) (m : Summary) → m.subscribed_local < 65536 → m.subscribed_remote < 65536 → m.existing_local < 65536
    → eqb (summary_word m) w ≡ same_summary (summary_of w) m
word_agrees w m a b c = bools_equal _ _ to back
  where
    to : eqb (summary_word m) w ≡ true → same_summary (summary_of w) m ≡ true
    to e =
        ap (λ (x : ℕ). same_summary (summary_of x) m) (sym (eqb-true (summary_word m) w e)) ∙ ap (λ (x : Summary). same_summary x m)
        (told_of_word m a b c) ∙ same_self m

    back : same_summary (summary_of w) m ≡ true → eqb (summary_word m) w ≡ true
    back e = eq-eqb (summary_word m) w (ap summary_word (sym (same_is (summary_of w) m e)) ∙ word_of_told w)

-- that of counted rows is small
pub told_counted : (rs : List Row) (a : List ℕ) → length rs ≤ 512 → summary_of (summary_word (counted rs a)) ≡ counted rs a
told_counted rs a few = told_of_word (counted rs a) small.0 small.1 small.2
  where
    small : ((counted rs a).subscribed_local < 65536) × ((counted rs a).subscribed_remote < 65536) × ((counted rs a).existing_local < 65536)
    small = unfold counted in (
      omega (arith, few, counts_few is_subscribed_local rs a),
      omega (arith, few, counts_few is_subscribed_remote rs a),
      omega (arith, few, counts_few is_existing_local rs a),
    )

-- fewer numbers than rows
short_differs : (xs ys : List Summary) → length xs < length ys → same_summaries xs ys ≡ false
unfolding same_summaries
short_differs [] [] h = absurd (omega arith)
short_differs [] (y ∷ ys) h = refl
short_differs (x ∷ xs) [] h = absurd (omega arith)
short_differs (x ∷ xs) (y ∷ ys) h = rw (short_differs xs ys (omega arith)) (and-false (same_summary x y))

module _ (area words sums : List ℕ) where
  abbrev now : Row → Summary
  now r = counted (rows_at area words) r.name

  -- from row i on
  abbrev pub agree_from : ℕ → Bool
  agree_from i =
      same_summaries (map summary_of (drop i (take (length words) sums)))
      (map (λ (r : Row). counted (rows_at area words) r.name) (drop i (rows_at area words)))

  pub agree_all : agree_from 0 ≡ words_agree area words sums
  unfolding words_agree afresh
  agree_all = refl

  pub agree_short : length sums < length words → words_agree area words sums ≡ false
  unfolding words_agree afresh
  agree_short h =
      short_differs (map summary_of (take (length words) sums)) (map now (rows_at area words))
      (omega
      (arith, length-map (take (length words) sums) summary_of, length-take (length words) sums, length-map (rows_at area words) now, rows_length area words))

  pub agree_end : (i : ℕ) → length words ≤ i → agree_from i ≡ true
  unfolding same_summaries
  agree_end i h =
      rw (drop_of_length-le (rows_at area words) {i = i} (omega (arith, rows_length area words)), drop_of_length-le (take (length words) sums) {i = i} (omega (arith, length-take (length words) sums)))

  module _ (i : ℕ) (h : i < length words) (g : length words ≤ length sums) (few : length words ≤ 512) where
    abbrev own : Summary
    own = counted (rows_at area words) (nth_name area words i)

    same_row : eqb (summary_word (counted (rows_at area words) (nth_name area words i))) (get_or sums i 0) ≡ same_summary (summary_of (get_or sums i 0))
        (counted (rows_at area words) (nth_name area words i))
    unfolding counted
    same_row =
        let n = nth_name area words i in
        let rs = rows_at area words in
        word_agrees (get_or sums i 0) own (omega (arith, counts_few is_subscribed_local rs n, rows_length area words, few))
        (omega (arith, counts_few is_subscribed_remote rs n, rows_length area words, few))
        (omega (arith, counts_few is_existing_local rs n, rows_length area words, few))

    agree_row : agree_from i ≡ (eqb (summary_word (counted (rows_at area words) (nth_name area words i))) (get_or sums i 0) && agree_from (i + 1))
    unfolding same_summaries
    agree_row =
        rw (add-one i, rows_cons area words i h, drop-cons (take (length words) sums) i 0 (omega (arith, length-take (length words) sums)), get_or-take (length words) sums i 0 h, same_row)

    pub agree_on : eqb (summary_word (counted (rows_at area words) (nth_name area words i))) (get_or sums i 0) ≡ true → agree_from i ≡ agree_from (i + 1)
    agree_on e = agree_row ∙ ap (λ (b : Bool). b && agree_from (i + 1)) e

    pub agree_stop : eqb (summary_word (counted (rows_at area words) (nth_name area words i))) (get_or sums i 0) ≡ false → agree_from i ≡ false
    agree_stop e = agree_row ∙ ap (λ (b : Bool). b && agree_from (i + 1)) e

-- what counting afresh gives, row by row
pub row_at : {A : Type 0} (f : Row → A) (z : A) (area words : List ℕ) (i : ℕ) → i < length words →
    get_or (map f (rows_at area words)) i z ≡ f (row_at_word area (get_or words i 0))
row_at f z area [] i h = absurd (omega arith)
row_at f z area (w ∷ ws) zero h = refl
row_at f z area (w ∷ ws) (suc i) h = row_at f z area ws i (omega arith)

map_twice : {A B C : Type 0} (f : A → B) (g : B → C) (l : List A) → map g (map f l) ≡ map (λ x. g (f x)) l
map_twice f g [] = refl
map_twice {C = C} f g (x ∷ l) = ap (λ (r : List C). g (f x) ∷ r) (map_twice f g l)

pub fresh_at : (area words : List ℕ) (i : ℕ) → i < length words →
    get_or (fresh_words area words) i 0 ≡ summary_word (counted (rows_at area words) (nth_name area words i))
unfolding fresh_words afresh
fresh_at area words i h =
    ap (λ (l : List ℕ). get_or l i 0) (map_twice (λ (r : Row). counted (rows_at area words) r.name) summary_word (rows_at area words))
    ∙ row_at (λ (r : Row). summary_word (counted (rows_at area words) r.name)) 0 area words i h

pub fresh_length : (area words : List ℕ) → length (fresh_words area words) ≡ length words
unfolding fresh_words
fresh_length area words = length-map (afresh (rows_at area words)) summary_word ∙ afresh_length (rows_at area words) ∙ rows_length area words

-- a summary that agrees, number by number
module _ (area words sums : List ℕ) (few : length words ≤ 512) (e : words_agree area words sums ≡ true) where
  pub agreed_room : length words ≤ length sums
  agreed_room = go (dec_le (length words) (length sums))
    where
      go : Dec (length words ≤ length sums) → length words ≤ length sums
      go (yes h) = h
      go (no h) = absurd (false≢true (sym (agree_short area words sums (omega (arith, h))) ∙ e))

  agreed_from : (i : ℕ) → i ≤ length words → agree_from area words sums i ≡ true
  agreed_from zero h = agree_all area words sums ∙ e
  agreed_from (suc i) h =
      subst (λ (k : ℕ). agree_from area words sums k ≡ true) (add-one i)
      (and_r (eqb (summary_word (counted (rows_at area words) (nth_name area words i))) (get_or sums i 0)) (agree_from area words sums (i + 1))
      (sym (agree_row area words sums i (omega arith) agreed_room few) ∙ agreed_from i (omega arith)))

  pub agreed_at : (i : ℕ) → i < length words → get_or sums i 0 ≡ summary_word (counted (rows_at area words) (nth_name area words i))
  agreed_at i h =
      sym (eqb-true (summary_word (counted (rows_at area words) (nth_name area words i))) (get_or sums i 0)
      (and_l (eqb (summary_word (counted (rows_at area words) (nth_name area words i))) (get_or sums i 0)) (agree_from area words sums (i + 1))
      (sym (agree_row area words sums i h agreed_room few) ∙ agreed_from i (omega arith))))
