-- Quoted text byte by byte: what a byte is written as, and how long the text gets. Rests on the library alone.
use Rattle.listing_rules.proofs.Prelude.{◌∙◌, ◌≡◌, ap, refl, Bool, ◌||◌, cond, false, true, List, [], ◌++◌, ◌∷◌, ◌+◌, ◌<◌, ◌≤◌, suc, ℕ, add-one}
use Rattle.listing_rules.proofs.Prelude.{arith, eqb, drop, drop_of_length-le, get_or, length, length-append, drop-cons}
use Rattle.std.specs.List.{filter}
use Rattle.listing_rules.specs.Bytes.{quote, backslash}
use Rattle.listing_rules.specs.Lines.{escaped}
use Rattle.octets.specs.Escape.{escape_of}

escaped_first : (b : ℕ) (t : List ℕ) → escaped (b ∷ t) ≡ escape_of b ++ escaped t
unfolding escaped quote backslash
escaped_first b t = go (eqb b 34 || eqb b 92)
  where
    go : (o : Bool) → cond o (92 ∷ b ∷ escaped t) (b ∷ escaped t) ≡ cond o (92 ∷ b ∷ []) (b ∷ []) ++ escaped t
    go true = refl
    go false = refl

-- the byte at a place, then the rest
pub escaped_at : (s : List ℕ) (i : ℕ) → i < length s → escaped (drop i s) ≡ escape_of (get_or s i 0) ++ escaped (drop (i + 1) s)
escaped_at s i h = rw (add-one, drop-cons s i 0 h) (escaped_first (get_or s i 0) (drop (suc i) s))

pub escaped_end : (s : List ℕ) (i : ℕ) → length s ≤ i → escaped (drop i s) ≡ []
unfolding escaped
escaped_end s i h = rw (drop_of_length-le s h)

-- a byte takes one place, or two where it is escaped
pub escape_two : (b : ℕ) → (eqb b 34 || eqb b 92) ≡ true → length (escape_of b) ≡ 2
escape_two b e = rw e

pub escape_one : (b : ℕ) → (eqb b 34 || eqb b 92) ≡ false → length (escape_of b) ≡ 1
escape_one b e = rw e

-- what is longer in quotes is longer by the bytes that are escaped
pub escaped_length : (s : List ℕ) → length s + length (filter (λ b. eqb b 34 || eqb b 92) s) ≡ length (escaped s)
unfolding escaped
escaped_length [] = refl
escaped_length (b ∷ t) = go (eqb b 34 || eqb b 92) refl (escaped_length t)
  where
    longer : length (escaped (b ∷ t)) ≡ length (escape_of b) + length (escaped t)
    longer = ap length (escaped_first b t) ∙ length-append (escape_of b) (escaped t)

    go : (o : Bool) → (eqb b 34 || eqb b 92) ≡ o → length t + length (filter (λ x. eqb x 34 || eqb x 92) t) ≡ length (escaped t) → length (b ∷ t) + length (filter (λ x. eqb x 34 || eqb x 92) (b ∷ t)) ≡ length (escaped (b ∷ t))
    go true e ih = rw e (omega (arith, longer, escape_two b e))
    go false e ih = rw e (omega (arith, longer, escape_one b e))

escape_some : (b : ℕ) → 0 < length (escape_of b)
escape_some b = go (eqb b 34 || eqb b 92)
  where
    go : (o : Bool) → 0 < length (cond o (92 ∷ b ∷ []) (b ∷ []))
    go true = omega arith
    go false = omega arith

escaped_longer : (s : List ℕ) → length s ≤ length (escaped s)
unfolding escaped
escaped_longer [] = omega arith
escaped_longer (b ∷ t) = rw (escaped_first b t) (omega (arith, length-append (escape_of b) (escaped t), escape_some b, escaped_longer t))

-- what needs no escape stands as it is
pub escaped_plain : (s : List ℕ) → length s ≡ length (escaped s) → escaped s ≡ s
unfolding escaped
escaped_plain [] h = refl
escaped_plain (b ∷ t) h = go (eqb b 34 || eqb b 92) refl (escaped_plain t)
  where
    longer : suc (length t) ≡ length (escape_of b) + length (escaped t)
    longer = h ∙ ap length (escaped_first b t) ∙ length-append (escape_of b) (escaped t)

    go : (o : Bool) → (eqb b 34 || eqb b 92) ≡ o → (length t ≡ length (escaped t) → escaped t ≡ t) → escaped (b ∷ t) ≡ b ∷ t
    go true e ih = absurd (omega (arith, longer, escape_two b e, escaped_longer t))
    go false e ih = escaped_first b t ∙ rw (e, ih (omega (arith, longer, escape_one b e)))
