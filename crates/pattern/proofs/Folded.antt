-- A pattern's bytes as they are compared: `letterOf` byte by byte, `folded` for the whole. Rests on the definitions alone.
use Rattle.listing_rules.proofs.Prelude.{◌≡◌, ap, refl, Bool, ◌&&◌, cond, false, true, List, [], ◌∷◌, ◌+◌, ◌<◌, ◌≤◌, ℕ, add-one, leb, drop, get_or}
use Rattle.listing_rules.proofs.Prelude.{length, drop-cons, le-leb, lt-leb}
use Rattle.listing_rules.specs.Bytes.{raise, raised, same}
use Rattle.listing_rules.specs.Names.{inbox}
use Rattle.listing_rules.specs.Match.{wild_match, matches}
use Rattle.pattern.specs.Folded.{letter_of, folded}

-- a byte that stands as it is, and one that is raised
pub letter_plain : (fold : Bool) (p : ℕ) → fold ≡ false → letter_of fold p ≡ p
unfolding letter_of
letter_plain fold p e = rw e

pub letter_raised : (fold : Bool) (p : ℕ) → fold ≡ true → letter_of fold p ≡ raise p
unfolding letter_of
letter_raised fold p e = rw e

-- byte by byte is the whole
pub folded_is : (fold : Bool) (p : List ℕ) → folded fold p ≡ cond fold (raised p) p
unfolding folded letter_of raised
folded_is true [] = refl
folded_is false [] = refl
folded_is true (b ∷ t) = ap (λ (l : List ℕ). raise b ∷ l) (folded_is true t)
folded_is false (b ∷ t) = ap (λ (l : List ℕ). b ∷ l) (folded_is false t)

-- the byte at a place, and what is behind it
pub folded_at : (fold : Bool) (p : List ℕ) (i : ℕ) → i < length p → folded fold (drop i p) ≡ letter_of fold (get_or p i 0) ∷ folded fold (drop (i + 1) p)
unfolding folded
folded_at fold p i h = rw (add-one, drop-cons p i 0 h)

-- the byte at a place of the pattern as it is compared, and whether a name matches the pattern from there on
abbrev pub letter_at : Bool → List ℕ → ℕ → ℕ
letter_at fold p i = letter_of fold (get_or p i 0)

-- a match is one against the folded pattern
pub matches_folded : (fold : Bool) (p n : List ℕ) → fold ≡ same n inbox → wild_match (folded fold p) n ≡ matches p n
unfolding matches
matches_folded fold p n e = rw (folded_is fold p, e)

-- a name of over 255 bytes matches nothing
pub long_name : (n : List ℕ) (b : Bool) → 255 < length n → false ≡ (leb (length n) 255 && b)
long_name n b h = rw (lt-leb (length n) 255 h)

pub short_name : (n : List ℕ) (a b : Bool) → length n ≤ 255 → a ≡ b → a ≡ (leb (length n) 255 && b)
short_name n a b h e = rw (le-leb (length n) 255 h) e
