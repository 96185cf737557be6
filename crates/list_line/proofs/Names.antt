-- Where the names stand: one test of all sixteen places, which antt computes, gives what holds at each.
use Rattle.listing_rules.proofs.Prelude.{◌∙◌, ◌≡◌, ap, refl, subst, sym, Bool, ◌&&◌, cond, false, true, List, ◌∷◌, ◌+◌, ◌-◌, ◌<◌, ◌≤◌, suc, zero, ℕ}
use Rattle.listing_rules.proofs.Prelude.{dec_lt, arith, leb, drop, get_or, length, take, leb-true, lt-leb}
use Rattle.listing_rules.specs.Bytes.{same, space}
use Rattle.listing_rules.proofs.Keys.{open_bytes, open_lines}
use Rattle.listing_rules.specs.LineReader.{separated}
use Rattle.listing_rules.proofs.Bools.{and_l, and_r}
use Rattle.listing_rules.proofs.ListLaws.{same_true}
use Rattle.list_line.specs.declared.texts.Span.{Span}
use Rattle.list_line.specs.declared.texts.TheConstants.{NAMES, PLACES}
use Rattle.list_line.specs.Names.{all_names, name_places, name_of, span_in, NameSpan}

-- the test passes at each number below n
abbrev each_below : ℕ → (ℕ → Bool) → Bool
each_below zero p = true
each_below (suc n) p = p n && each_below n p

each_below_lem : (n : ℕ) (p : ℕ → Bool) → each_below n p ≡ true → (k : ℕ) → k < n → p k ≡ true
each_below_lem zero p e k h = absurd (omega arith)
each_below_lem (suc n) p e k h =
    elim (dec_lt k n) [ yes l ↦ each_below_lem n p (and_r (p n) (each_below n p) e) k l | no l ↦ last (omega arith) ]
  where
    last : k ≡ n → p k ≡ true
    last w = ap p w ∙ and_l (p n) (each_below n p) e

abbrev part : ℕ → ℕ → List ℕ
part a e = take (e - a) (drop a all_names)

module _ (k : ℕ) (h : k < 16) where
  order : get_or name_places k 0 + 1 ≤ get_or name_places (k + 1) 0
  unfolding name_places
  order = leb-true _ _ (each_below_lem 16 (λ i. leb (get_or name_places i 0 + 1) (get_or name_places (i + 1) 0)) refl k h)

  inside : get_or name_places (k + 1) 0 ≤ length all_names
  unfolding open_bytes open_lines all_names name_places
  inside = leb-true _ _ (each_below_lem 16 (λ i. leb (get_or name_places (i + 1) 0) (length all_names)) refl k h)

  behind_space : part (get_or name_places k 0) (get_or name_places (k + 1) 0) ≡ space ∷ name_of k
  unfolding open_bytes open_lines all_names name_places name_of
  behind_space = same_true _ _ (each_below_lem 16 (λ i. same (part (get_or name_places i 0) (get_or name_places (i + 1) 0)) (space ∷ name_of i)) refl k h)

  alone : part (get_or name_places k 0 + 1) (get_or name_places (k + 1) 0) ≡ name_of k
  unfolding open_bytes open_lines all_names name_places name_of
  alone = same_true _ _ (each_below_lem 16 (λ i. same (part (get_or name_places i 0 + 1) (get_or name_places (i + 1) 0)) (name_of i)) refl k h)

  -- the first name on a line, and a later one
  span_first : NameSpan k true (record { start = get_or name_places k 0 + 1; end = get_or name_places (k + 1) 0 })
  unfolding separated
  span_first = record { order = order; inside = inside; name = alone }

  span_later : NameSpan k false (record { start = get_or name_places k 0; end = get_or name_places (k + 1) 0 })
  unfolding separated
  span_later = record { order = omega (arith, order); inside = inside; name = behind_space }

-- the code's two tables
pub names_are : NAMES ≡ all_names
unfolding open_bytes open_lines all_names
names_are = refl

pub places_are : PLACES ≡ name_places
unfolding name_places
places_are = refl

length_places : length name_places ≡ 17
unfolding name_places
length_places = refl

-- where the table of places has name k
pub span_named : (places : List ℕ) (k : ℕ) (first : Bool) {s : Span} → places ≡ name_places → k < 16 → s ≡ span_in places k first → NameSpan k first s
span_named places k first {s} e h is = subst (NameSpan k first) (sym (is ∙ ap (λ (l : List ℕ). span_in l k first) e ∙ inside)) (named first)
  where
    inside : span_in name_places k first ≡ record { start = cond first (get_or name_places k 0 + 1) (get_or name_places k 0); end = get_or name_places (k + 1) 0 }
    inside = rw (lt-leb (length name_places) k (omega (arith, length_places)))

    named : (f : Bool) → NameSpan k f (record { start = cond f (get_or name_places k 0 + 1) (get_or name_places k 0); end = get_or name_places (k + 1) 0 })
    named true = span_first k h
    named false = span_later k h

-- name k in the text of them all, which the code has lent as `names`
pub span_text : (names : List ℕ) {k : ℕ} {first : Bool} {s : Span} → names ≡ all_names → NameSpan k first s → take (s.end - s.start) (drop s.start names) ≡ separated first (name_of k)
span_text names {k} {first} {s} e n = ap (λ (x : List ℕ). take (s.end - s.start) (drop s.start x)) e ∙ n.name
