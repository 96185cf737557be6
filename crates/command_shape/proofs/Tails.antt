-- The end of a line, byte by byte: a tail tells whether the last byte is CR, and which header the line ends in. Rests on nothing.
use Rattle.listing_rules.proofs.Prelude.{◌∙◌, ◌≡◌, ap, refl, sym, Bool, ◌&&◌, cond, false, true, Option, none, some, List, [], ◌++◌, ◌∷◌, ◌*◌, ◌+◌}
use Rattle.listing_rules.proofs.Prelude.{◌-◌, ◌≤◌, min, ℕ, dec_le, arith, eqb, leb, eqb-true, leb-true, ne_eqb}
use Rattle.listing_rules.specs.Bytes.{text, crlf, within, same, is_empty}
use Rattle.listing_rules.proofs.Keys.{open_bytes}
use Rattle.listing_rules.specs.Tokens.{Got, got, ◌>>=◌, digit_byte, decimal, number, run, run₁, unless_empty, with_first}
use Rattle.listing_rules.specs.Feeder.{last_is, announced, announced_at, or_else}
use Rattle.listing_rules.proofs.Bools.{and_l}
use Rattle.command_shape.specs.declared.machine.Tail.{Tail}
use Rattle.command_shape.specs.declared.machine.Tail.TheVariants.{Text, Cr, Open, Digits, Closed, Ending}
use Rattle.command_shape.specs.Machine.{with_digit, at_cr, plain_is, tail_as, tail_is, tail_from}

-- ---- whether the last byte is CR

plain_cr : (c : ℕ) → at_cr (plain_is c) ≡ eqb c 13
unfolding plain_is
plain_cr c = go (eqb c 13)
  where
    go : (o : Bool) → at_cr (cond o Cr Text) ≡ o
    go true = refl
    go false = refl

digit_no_cr : (c : ℕ) → digit_byte c ≡ true → eqb c 13 ≡ false
unfolding digit_byte within
digit_no_cr c h = ne_eqb c 13 (λ e. absurd (omega (arith, leb-true 48 c (and_l (leb 48 c) (leb c 57) h))))

-- a digit more, or another byte
digit_cr : (n c : ℕ) (t : Tail) → at_cr t ≡ eqb c 13 → at_cr (cond (digit_byte c) (Digits n) t) ≡ eqb c 13
digit_cr n c t h = go (digit_byte c) refl
  where
    go : (o : Bool) → digit_byte c ≡ o → at_cr (cond o (Digits n) t) ≡ eqb c 13
    go true e = sym (digit_no_cr c e)
    go false e = h

tail_cr_as : (t : Tail) (c : ℕ) → at_cr (tail_as t c) ≡ eqb c 13
unfolding tail_as
tail_cr_as Text c = plain_cr c
tail_cr_as Cr c = plain_cr c
tail_cr_as Open c = digit_cr (with_digit 0 c) c (plain_is c) (plain_cr c)
tail_cr_as (Digits n) c = digit_cr (with_digit n c) c (cond (eqb c 125) (Closed n) (plain_is c)) (go (eqb c 125) refl)
  where
    go : (o : Bool) → eqb c 125 ≡ o → at_cr (cond o (Closed n) (plain_is c)) ≡ eqb c 13
    go true e = sym (ne_eqb c 13 (λ z. omega (arith, eqb-true c 125 e)))
    go false e = plain_cr c
tail_cr_as (Closed n) c = go (eqb c 13) refl
  where
    go : (o : Bool) → eqb c 13 ≡ o → at_cr (cond o (Ending n) (plain_is c)) ≡ o
    go true e = refl
    go false e = plain_cr c ∙ e
tail_cr_as (Ending n) c = plain_cr c

tail_cr : (t : Tail) (c : ℕ) → at_cr (tail_is t c) ≡ eqb c 13
unfolding tail_is
tail_cr t c = go (eqb c 123) refl
  where
    go : (o : Bool) → eqb c 123 ≡ o → at_cr (cond o Open (tail_as t c)) ≡ eqb c 13
    go true e = sym (ne_eqb c 13 (λ z. omega (arith, eqb-true c 123 e)))
    go false e = tail_cr_as t c

line_cr_from : (t : Tail) (c : ℕ) (l : List ℕ) → at_cr (tail_from t (c ∷ l)) ≡ last_is 13 (c ∷ l)
unfolding tail_from last_is is_empty
line_cr_from t c [] = tail_cr t c
line_cr_from t c (d ∷ l) = line_cr_from (tail_is t c) d l

-- The tail tells whether the line's last byte is CR.
pub line_cr : (line : List ℕ) → at_cr (tail_from Text line) ≡ last_is 13 line
unfolding tail_from last_is
line_cr [] = refl
line_cr (c ∷ l) = line_cr_from Text c l

pub tail_snoc : (t : Tail) (line : List ℕ) (c : ℕ) → tail_from t (line ++ (c ∷ [])) ≡ tail_is (tail_from t line) c
unfolding tail_from
tail_snoc t [] c = refl
tail_snoc t (x ∷ l) c = tail_snoc (tail_is t x) l c

-- ---- numbers

-- digits after a number make it no less
decimal_grows : (v : ℕ) (ds : List ℕ) → v ≤ decimal v ds
unfolding decimal
decimal_grows v [] = omega arith
decimal_grows v (d ∷ ds) = omega (arith, decimal_grows (10 * v + (d - 48)) ds)

-- so a number above 1,024 may be taken for 1,025
pub capped_decimal : (v : ℕ) (ds : List ℕ) → min (decimal (min v 1025) ds) 1025 ≡ min (decimal v ds) 1025
capped_decimal v ds = elim (dec_le v 1025) [ yes h ↦ same_number h | no h ↦ omega (arith, decimal_grows (min v 1025) ds, decimal_grows v ds) ]
  where
    same_number : v ≤ 1025 → min (decimal (min v 1025) ds) 1025 ≡ min (decimal v ds) 1025
    same_number h = let e : min v 1025 ≡ v = omega arith in rw e

-- an announced number, as far as it matters
abbrev pub capped_option : Option ℕ → Option ℕ
capped_option none = none
capped_option (some n) = some (min n 1025)

capped_else : (a b : Option ℕ) → capped_option (or_else a b) ≡ or_else (capped_option a) (capped_option b)
unfolding or_else
capped_else none b = refl
capped_else (some n) b = refl

-- ---- what a line announces whose front has led to a tail

-- a whole header, of the value v, if what is left is the text t
abbrev closing : ℕ → List ℕ → List ℕ → Option ℕ
closing v l t = cond (same l t) (some v) none

-- digits, of which the value so far is v, and what closes them
abbrev digits_at : ℕ → Got (List ℕ) → Option ℕ
digits_at v g = closing (decimal v g.val) g.rest (125 ∷ 13 ∷ 10 ∷ [])

-- what the header announces of which l is left
header : Tail → List ℕ → Option ℕ
header Text l = none
header Cr l = none
header Open l = announced_at l
header (Digits v) l = digits_at v (run digit_byte l)
header (Closed v) l = closing v l (13 ∷ 10 ∷ [])
header (Ending v) l = closing v l (10 ∷ [])

-- a "{" closes no header
header_open : (t : Tail) (l : List ℕ) → header t (123 ∷ l) ≡ none
unfolding header announced_at number run₁ run unless_empty open_bytes got ◌>>=◌ digit_byte
header_open Text l = refl
header_open Cr l = refl
header_open Open l = refl
header_open (Digits v) l = refl
header_open (Closed v) l = refl
header_open (Ending v) l = refl

header_plain : (c : ℕ) (l : List ℕ) → header (plain_is c) l ≡ none
unfolding plain_is header
header_plain c l = go (eqb c 13)
  where
    go : (o : Bool) → header (cond o Cr Text) l ≡ none
    go true = refl
    go false = refl

-- a digit more
header_digit : (n c : ℕ) (l : List ℕ) → capped_option (digits_at (10 * n + (c - 48)) (run digit_byte l)) ≡ capped_option (header (Digits (with_digit n c)) l)
unfolding header
header_digit n c l = go (same (run digit_byte l).rest (125 ∷ 13 ∷ 10 ∷ []))
  where
    go : (o : Bool) → capped_option (cond o (some (decimal (10 * n + (c - 48)) (run digit_byte l).val)) none) ≡ capped_option (cond o (some (decimal (with_digit n c) (run digit_byte l).val)) none)
    go true = ap some (sym (capped_decimal (10 * n + (c - 48)) (run digit_byte l).val))
    go false = refl

-- any byte but "{", before the line's last
header_step : (t : Tail) (c : ℕ) (l : List ℕ) → is_empty l ≡ false → capped_option (header t (c ∷ l)) ≡ capped_option (header (tail_as t c) l)
unfolding header tail_as announced_at number run₁ run unless_empty with_first same text crlf is_empty got ◌>>=◌ decimal
header_step Text c l m = ap capped_option (sym (header_plain c l))
header_step Cr c l m = ap capped_option (sym (header_plain c l))
header_step Open c l m = go (digit_byte c) refl
  where
    go : (o : Bool) → digit_byte c ≡ o → capped_option (announced_at (c ∷ l)) ≡ capped_option (header (cond o (Digits (with_digit 0 c)) (plain_is c)) l)
    go true e = rw e (header_digit 0 c l)
    go false e = rw e (ap capped_option (sym (header_plain c l)))
header_step (Digits v) c l m = go (digit_byte c) refl
  where
    brace : (o : Bool) → eqb c 125 ≡ o → capped_option (closing v (c ∷ l) (125 ∷ 13 ∷ 10 ∷ [])) ≡ capped_option (header (cond o (Closed v) (plain_is c)) l)
    brace true e = rw e
    brace false e = rw e (ap capped_option (sym (header_plain c l)))

    go : (o : Bool) → digit_byte c ≡ o → capped_option (digits_at v (run digit_byte (c ∷ l))) ≡ capped_option (header (cond o (Digits (with_digit v c)) (cond (eqb c 125) (Closed v) (plain_is c))) l)
    go true e = rw e (header_digit v c l)
    go false e = rw e (brace (eqb c 125) refl)
header_step (Closed v) c l m = go (eqb c 13) refl
  where
    go : (o : Bool) → eqb c 13 ≡ o → capped_option (closing v (c ∷ l) (13 ∷ 10 ∷ [])) ≡ capped_option (header (cond o (Ending v) (plain_is c)) l)
    go true e = rw e
    go false e = rw e (ap capped_option (sym (header_plain c l)))
header_step (Ending v) c [] m = cc
header_step (Ending v) c (x ∷ l) m = go (eqb c 10) ∙ ap capped_option (sym (header_plain c (x ∷ l)))
  where
    go : (o : Bool) → capped_option (cond (o && false) (some v) none) ≡ none
    go true = refl
    go false = refl

-- what the line announces from a tail on: this header, or a later one
announced_from : Tail → List ℕ → Option ℕ
announced_from t l = capped_option (or_else (header t l) (announced l))

announced_step : (t : Tail) (c : ℕ) (l : List ℕ) → is_empty l ≡ false → announced_from t (c ∷ l) ≡ announced_from (tail_is t c) l
unfolding announced_from announced tail_is or_else
announced_step t c l m = go (eqb c 123) refl
  where
    brace : c ≡ 123 → header t (c ∷ l) ≡ none
    brace e = ap (λ (x : ℕ). header t (x ∷ l)) e ∙ header_open t l

    go : (o : Bool) → eqb c 123 ≡ o →
        capped_option (or_else (header t (c ∷ l)) (cond o (or_else (announced_at l) (announced l)) (announced l))) ≡ capped_option
        (or_else (header (cond o Open (tail_as t c)) l) (announced l))
    go true e = rw (brace (eqb-true c 123 e)) (unfold header in refl)
    go false e =
        capped_else (header t (c ∷ l)) (announced l)
        ∙ ap (λ (o : Option ℕ). or_else o (capped_option (announced l))) (header_step t c l m)
        ∙ sym (capped_else (header (tail_as t c) l) (announced l))

-- the value of a header that ends the line before its LF
abbrev pub end_value : Tail → Option ℕ
end_value Text = none
end_value Cr = none
end_value Open = none
end_value (Digits v) = none
end_value (Closed v) = none
end_value (Ending v) = some v

announced_last : (t : Tail) → announced_from t (10 ∷ []) ≡ capped_option (end_value t)
unfolding announced_from header announced announced_at or_else number run₁ run unless_empty open_bytes got ◌>>=◌ digit_byte decimal
announced_last Text = refl
announced_last Cr = refl
announced_last Open = refl
announced_last (Digits v) = refl
announced_last (Closed v) = refl
announced_last (Ending v) = refl

snoc_some : (l : List ℕ) (c : ℕ) → is_empty (l ++ (c ∷ [])) ≡ false
unfolding is_empty
snoc_some [] c = refl
snoc_some (x ∷ l) c = refl

announced_from_lem : (t : Tail) (line : List ℕ) → announced_from t (line ++ (10 ∷ [])) ≡ capped_option (end_value (tail_from t line))
unfolding tail_from
announced_from_lem t [] = announced_last t
announced_from_lem t (c ∷ l) = announced_step t c (l ++ (10 ∷ [])) (snoc_some l 10) ∙ announced_from_lem (tail_is t c) l

-- A line that has ended announces what its tail has read of it, as far as it matters.
pub announced_is_lem : (line : List ℕ) → capped_option (announced (line ++ (10 ∷ []))) ≡ capped_option (end_value (tail_from Text line))
unfolding announced_from header or_else
announced_is_lem line = announced_from_lem Text line
