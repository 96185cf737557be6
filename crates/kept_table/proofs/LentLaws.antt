-- Laws of the lent memory: lines of output and their lengths, the tests of its sizes, the parts that hold what is stored, records and summary put
-- there, and a frame that only says a line.
use Rattle.listing_rules.proofs.Prelude.{◌∙◌, ◌≡◌, ap, refl, sym, List, [], ◌++◌, ◌∷◌, ◌*◌, ◌+◌, ◌≤◌, ℕ, arith, drop}
use Rattle.listing_rules.proofs.Prelude.{length, length-append, length-drop, take, drop_at, drop-drop, length-take-le, take-append-drop, take_at}
use Rattle.listing_rules.proofs.Prelude.{◌&&◌, true, leb, le-leb, leb-true}
use Rattle.listing_rules.proofs.Bools.{and_i, and_l, and_r}
use Rattle.listing_rules.specs.Frames.{hex, answer_line, refusal_line, answering}
use Rattle.octets.specs.Put.{Put}
use Rattle.kept_table.specs.declared.Lengths.{Lengths}
use Rattle.kept_table.specs.Kept.{Lent, lent, numbers_with, stored_in, Held, Within, entries_fit, is_held, is_within, outcome_is, Says, Carries}

-- two digits a byte, and a line feed
length_hex : (bs : List ℕ) → length (hex bs) ≡ 2 * length bs
unfolding hex
length_hex [] = refl
length_hex (b ∷ t) = omega (arith, length_hex t)

pub length_line : (bs : List ℕ) → length (answer_line bs) ≡ 2 * length bs + 1
unfolding answer_line
length_line bs = omega (arith, length-append (hex bs) (10 ∷ []), length_hex bs)

length_refusal : (k : ℕ) → length (refusal_line k) ≡ 5
unfolding refusal_line
length_refusal k = length_line (0x52 ∷ k ∷ [])

-- a write at the front, short enough, says the line
pub says : {o p line : List ℕ} {r : ℕ} → length line ≤ 32771 → Put o p 0 line r → Says line o p r
says h w = record { written = omega (arith, w.place); fits = h; bytes = w.bytes }

pub says_refusal : {o p : List ℕ} {r : ℕ} (k : ℕ) → Put o p 0 (refusal_line k) r → Says (refusal_line k) o p r
says_refusal k w = says (omega (arith, length_refusal k)) w

pub says_none : (o : List ℕ) → Says [] o o 0
says_none o = record { written = refl; fits = omega arith; bytes = refl }

-- the tests of the sizes are true exactly where the records that say them hold
pub is_held_lem : {n : Lengths} {t w : List ℕ} → Held n t w → is_held n t w ≡ true
is_held_lem {n} {t} {w} x =
    and_i (leb n.table 16384) (leb 16384 (length t) && leb 1024 (length w)) (le-leb n.table 16384 x.rows)
    (and_i (leb 16384 (length t)) (leb 1024 (length w)) (le-leb 16384 (length t) x.table) (le-leb 1024 (length w) x.records))

pub is_within_lem : {n : Lengths} {t w m : List ℕ} → Within n t w m → is_within n t w m ≡ true
is_within_lem {n} {t} {w} {m} x =
    and_i (is_held n t w) (entries_fit n (length m)) (is_held_lem x.held)
    (and_i (leb n.namespaces 1024) (leb 1024 (length m)) (le-leb n.namespaces 1024 x.entries) (le-leb 1024 (length m) x.namespaces))

pub held_so : (n : Lengths) (t w : List ℕ) → is_held n t w ≡ true → Held n t w
held_so n t w h =
    let sizes = and_r (leb n.table 16384) (leb 16384 (length t) && leb 1024 (length w)) h in
    record {
      rows = leb-true n.table 16384 (and_l (leb n.table 16384) (leb 16384 (length t) && leb 1024 (length w)) h);
      table = leb-true 16384 (length t) (and_l (leb 16384 (length t)) (leb 1024 (length w)) sizes);
      records = leb-true 1024 (length w) (and_r (leb 16384 (length t)) (leb 1024 (length w)) sizes);
    }

pub within_so : (n : Lengths) (t w m : List ℕ) → is_within n t w m ≡ true → Within n t w m
within_so n t w m h =
    let sizes = and_r (is_held n t w) (entries_fit n (length m)) h in
    record {
      held = held_so n t w (and_l (is_held n t w) (entries_fit n (length m)) h);
      entries = leb-true n.namespaces 1024 (and_l (leb n.namespaces 1024) (leb 1024 (length m)) sizes);
      namespaces = leb-true 1024 (length m) (and_r (leb n.namespaces 1024) (leb 1024 (length m)) sizes);
    }

-- the parts of the memory that hold what is stored are there
module _ {n : Lengths} {t w : List ℕ} (x : Held n t w) where
  pub whole_table : n.table ≡ length (take n.table t)
  whole_table = sym (length-take-le n.table t (omega (arith, x.rows, x.table)))

  pub whole_area : 16384 ≡ length (take 16384 t)
  whole_area = sym (length-take-le 16384 t x.table)

  pub whole_records : 512 ≡ length (take 512 w)
  whole_records = sym (length-take-le 512 w (omega (arith, x.records)))

  pub whole_sums : 512 ≡ length (take 512 (drop 512 w))
  whole_sums = sym (length-take-le 512 (drop 512 w) (omega (arith, x.records, length-drop 512 w)))

pub whole_namespaces : {n : Lengths} {t w m : List ℕ} → Within n t w m → n.namespaces ≡ length (take n.namespaces m)
whole_namespaces {n} {t} {w} {m} x = sym (length-take-le n.namespaces m (omega (arith, x.entries, x.namespaces)))

-- records and summary put into the numbers that are lent: they lie there, and the numbers after them stay
module _ (words sums numbers : List ℕ) (hw : length words ≡ 512) (hs : length sums ≡ 512) where
  pub with_words : take 512 (numbers_with words sums numbers) ≡ words
  with_words = take_at words (sums ++ drop 1024 numbers) 512 hw

  pub with_sums_lem : take 512 (drop 512 (numbers_with words sums numbers)) ≡ sums
  with_sums_lem = ap (take 512) (drop_at words (sums ++ drop 1024 numbers) 512 hw) ∙ take_at sums (drop 1024 numbers) 512 hs

  pub with_rest_lem : drop 1024 (numbers_with words sums numbers) ≡ drop 1024 numbers
  with_rest_lem =
      sym (drop-drop 512 512 (numbers_with words sums numbers))
      ∙ ap (drop 512) (drop_at words (sums ++ drop 1024 numbers) 512 hw)
      ∙ drop_at sums (drop 1024 numbers) 512 hs

  -- over numbers whose first 512 are these words
  pub with_over : numbers_with (take 512 (words ++ drop 512 numbers)) sums (words ++ drop 512 numbers) ≡ numbers_with words sums numbers
  with_over =
      let front = take_at words (drop 512 numbers) 512 hw in
      let rest : drop 1024 (words ++ drop 512 numbers) ≡ drop 1024 numbers = sym (drop-drop 512 512 (words ++ drop 512 numbers))
      ∙ ap (drop 512) (drop_at words (drop 512 numbers) 512 hw) ∙ drop-drop 512 512 numbers in
      λ i. front i ++ (sums ++ rest i)

-- a summary copied over the 512 numbers after the first 512
pub copied_sums : (sums numbers copied : List ℕ) → copied ≡ sums
    → take 512 numbers ++ (copied ++ drop 512 (drop 512 numbers)) ≡ numbers_with (take 512 numbers) sums numbers
copied_sums sums numbers copied is =
    let rest = drop-drop 512 512 numbers in
    λ i. take 512 numbers ++ (is i ++ rest i)

-- records, summary and what follows are all the numbers
pub whole_numbers : (numbers : List ℕ) → numbers_with (take 512 numbers) (take 512 (drop 512 numbers)) numbers ≡ numbers
whole_numbers numbers =
    let rest : take 512 (drop 512 numbers) ++ drop 1024 numbers ≡ drop 512 numbers = ap (λ (l : List ℕ). take 512 (drop 512 numbers) ++ l)
    (sym (drop-drop 512 512 numbers)) ∙ take-append-drop 512 (drop 512 numbers) in
    ap (λ (l : List ℕ). take 512 numbers ++ l) rest ∙ take-append-drop 512 numbers

-- a frame that only says a line
module _ (d : Lent) (n : Lengths) (rows : n.table ≤ 16384) (entries : n.namespaces ≤ 1024) where
  pub carries_said : (line o : List ℕ) (k : ℕ) → Says line d.out o k →
      Carries (answering (stored_in d n) line) d (lent d.table d.records d.namespaces o) (outcome_is n k)
  unfolding answering
  carries_said line o k x =
      record {
        table = refl;
        namespaces = refl;
        table_room = rows;
        namespaces_room = entries;
        table_behind = refl;
        records_behind = refl;
        records_stay = λ e. refl;
        namespaces_behind = refl;
        says = x;
      }
