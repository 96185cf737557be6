-- A pattern's bytes as they are compared, with or without regard to the case of letters.
use Rattle.std.specs.Prelude.{List, [], ◌∷◌, Bool, cond, ◌||◌, eqb, ℕ}
use Rattle.listing_rules.specs.Bytes.{raise}

-- the byte, raised if `fold` is set
unfoldable pub letter_of : Bool → ℕ → ℕ
letter_of fold p = cond fold (raise p) p

-- the pattern, its letters raised if `fold` is set
unfoldable pub folded : Bool → List ℕ → List ℕ
folded fold [] = []
folded fold (p ∷ ps) = letter_of fold p ∷ folded fold ps

-- the byte is "*" or "%"
abbrev pub is_wildcard : ℕ → Bool
is_wildcard p = eqb p 42 || eqb p 37

-- opens every definition of this file, for a proof by computation
unfoldable pub open_folded : Unit {0}
unfolding letter_of folded
open_folded = tt
