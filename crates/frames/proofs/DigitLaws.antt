-- Laws of digits: a character's value, the bytes of a run of characters, and the digits of a run of bytes, each from a place on.
-- Rests on the library alone.
use Rattle.std.specs.Prelude.{Option as Maybe}
use Rattle.std.specs.Option.{unwrap_or, is_some as has_value}
use Rattle.std.specs.List.{list_all}
use Rattle.listing_rules.proofs.Prelude.{◌∙◌, ◌≡◌, ap, refl, sym, Bool, ◌&&◌, and-false, cond, false, true, Option, option_get_or, none, some, List, []}
use Rattle.listing_rules.proofs.Prelude.{◌++◌, ◌∷◌, ◌%◌, ◌*◌, ◌+◌, ◌-◌, ◌/◌, ◌<◌, ◌≤◌, suc, ℕ, add-one, arith, eqb, leb, drop, drop_of_length-le}
use Rattle.listing_rules.proofs.Prelude.{get_or, length, length-drop, drop-cons, eq-eqb, leb-true, ne_eqb}
use Rattle.listing_rules.specs.Bytes.{within, all}
use Rattle.listing_rules.specs.Tokens.{◌>>=◌}
use Rattle.listing_rules.specs.Frames.{digit, bytes_of, hex}
use Rattle.listing_rules.proofs.Bools.{and_l, and_r}
use Rattle.frames.specs.Hexadecimal.{digit_is, is_some, value_of, pair_of, decoded}

-- a digit's value is below 16
pub value_small : (c : ℕ) → value_of c < 16
unfolding value_of digit within
value_small c = digits (within 48 57 c) refl
  where
    range : (lo hi : ℕ) → within lo hi c ≡ true → (lo ≤ c) × (c ≤ hi)
    range lo hi e = (leb-true lo c (and_l (leb lo c) (leb c hi) e), leb-true c hi (and_r (leb lo c) (leb c hi) e))

    small : (o : Bool) → within 97 102 c ≡ o → option_get_or (cond o (some (c - 87)) none) 0 < 16
    small true e = omega (arith, range 97 102 e)
    small false e = omega arith

    large : (o : Bool) → within 65 70 c ≡ o → option_get_or (cond o (some (c - 55)) (cond (within 97 102 c) (some (c - 87)) none)) 0 < 16
    large true e = omega (arith, range 65 70 e)
    large false e = small (within 97 102 c) refl

    digits : (o : Bool) → within 48 57 c ≡ o → option_get_or (cond o (some (c - 48)) (cond (within 65 70 c) (some (c - 55)) (cond (within 97 102 c) (some (c - 87)) none))) 0 < 16
    digits true e = omega (arith, range 48 57 e)
    digits false e = large (within 65 70 c) refl

-- a digit's value by the code's answer
pub value_or : (c : ℕ) (r : Maybe ℕ) → r ≡ digit_is (digit c) → unwrap_or r 0 ≡ value_of c
unfolding value_of digit_is
value_or c r e = ap (λ (q : Maybe ℕ). unwrap_or q 0) e ∙ go (digit c)
  where
    go : (o : Option ℕ) → unwrap_or (digit_is o) 0 ≡ option_get_or o 0
    go none = refl
    go (some v) = refl

-- the character is a digit
unfoldable pub is_digit : ℕ → Bool
is_digit c = is_some (digit c)

-- characters are bytes exactly if they are digits, an even number of them
hex_is : (line : List ℕ) → is_some (bytes_of line) ≡ (eqb (length line % 2) 0 && all is_digit line)
unfolding bytes_of is_some all is_digit ◌>>=◌
hex_is [] = refl
hex_is (h ∷ []) = refl
hex_is (h ∷ l ∷ t) = rw parity (go (eqb (length t % 2) 0) (digit h) (digit l) (bytes_of t) (hex_is t))
  where
    parity : suc (suc (length t)) % 2 ≡ length t % 2
    parity = omega arith

    go : (p : Bool) (x y : Option ℕ) (z : Option (List ℕ)) → is_some z ≡ (p && all is_digit t) →
        is_some (x >>= λ a. y >>= λ b. z >>= λ bs. some ((16 * a + b) ∷ bs)) ≡ (p && (is_some x && (is_some y && all is_digit t)))
    go p none y z ih = sym (and-false p)
    go p (some a) none z ih = sym (and-false p)
    go p (some a) (some b) none ih = ih
    go p (some a) (some b) (some bs) ih = ih

-- what is left of the characters decides
pub hex_odd : (line : List ℕ) → (length line % 2 ≡ 0 → ⊥) → is_some (bytes_of line) ≡ false
hex_odd line h = hex_is line ∙ rw (ne_eqb (length line % 2) 0 h)

pub hex_even : (line : List ℕ) → length line % 2 ≡ 0 → all is_digit line ≡ is_some (bytes_of line)
hex_even line h = sym (hex_is line ∙ rw (eq-eqb (length line % 2) 0 h))

-- the code's answer to each character, and to all of them
abbrev pub found : ℕ → Bool
found c = has_value (digit_is (digit c))

found_is : (c : ℕ) → found c ≡ is_digit c
unfolding is_digit is_some digit_is
found_is c = go (digit c)
  where
    go : (o : Option ℕ) → has_value (digit_is o) ≡ is_some o
    go none = refl
    go (some v) = refl

pub all_found : (line : List ℕ) → list_all found line ≡ all is_digit line
unfolding all
all_found [] = refl
all_found (c ∷ t) = λ i. found_is c i && all_found t i

-- the bytes of characters that are digits
pub bytes_are : (line : List ℕ) → is_some (bytes_of line) ≡ true → bytes_of line ≡ some (decoded line)
unfolding bytes_of is_some decoded pair_of value_of ◌>>=◌
bytes_are [] e = refl
bytes_are (h ∷ []) e = cc
bytes_are (h ∷ l ∷ t) e = go (digit h) (digit l) (bytes_of t) (bytes_are t) e
  where
    go : (x y : Option ℕ) (z : Option (List ℕ)) → (is_some z ≡ true → z ≡ some (decoded t)) →
        is_some (x >>= λ a. y >>= λ b. z >>= λ bs. some ((16 * a + b) ∷ bs)) ≡ true →
        (x >>= λ a. y >>= λ b. z >>= λ bs. some ((16 * a + b) ∷ bs)) ≡ some ((16 * option_get_or x 0 + option_get_or y 0) ∷ decoded t)
    go none y z ih q = cc
    go (some a) none z ih q = cc
    go (some a) (some b) none ih q = cc
    go (some a) (some b) (some bs) ih q = let w = ih refl in cc

pub no_bytes : (o : Option (List ℕ)) → is_some o ≡ false → o ≡ none
unfolding is_some
no_bytes none e = refl
no_bytes (some bs) e = cc

pub length_decoded : (line : List ℕ) → length (decoded line) ≡ length line / 2
unfolding decoded
length_decoded [] = refl
length_decoded (h ∷ []) = refl
length_decoded (h ∷ l ∷ t) = omega (arith, length_decoded t)

-- the pair at a place, then the rest
pub decoded_at : (line : List ℕ) (i : ℕ) → i + 1 < length line → decoded (drop i line) ≡ (pair_of (get_or line i 0) (get_or line (i + 1) 0) ∷ []) ++ decoded (drop (i + 2) line)
unfolding decoded
decoded_at line i h =
    let w : i + 2 ≡ suc (suc i) = omega arith in
    rw (w, add-one, drop-cons line i 0 (omega arith), drop-cons line (suc i) 0 (omega arith))

decoded_short : (line : List ℕ) → length line < 2 → decoded line ≡ []
unfolding decoded
decoded_short [] h = refl
decoded_short (c ∷ []) h = refl
decoded_short (c ∷ b ∷ t) h = absurd (omega arith)

pub decoded_end : (line : List ℕ) (i : ℕ) → length line ≤ i + 1 → decoded (drop i line) ≡ []
decoded_end line i h = decoded_short (drop i line) (omega (arith, length-drop i line))

-- the digits of the byte at a place, then the rest
pub hex_at : (s : List ℕ) (i : ℕ) → i < length s → hex (drop i s) ≡ hex (get_or s i 0 ∷ []) ++ hex (drop (i + 1) s)
unfolding hex
hex_at s i h = rw (add-one, drop-cons s i 0 h)

pub hex_end : (s : List ℕ) (i : ℕ) → length s ≤ i → hex (drop i s) ≡ []
unfolding hex
hex_end s i h = rw (drop_of_length-le s h)
