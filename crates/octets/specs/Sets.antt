-- Sets of named members, as numbers: member k is 2 ^ k.
use Rattle.std.specs.Prelude.{Bool, not, List, [], ◌∷◌, ℕ, ◌^◌, eqb}
use Rattle.std.specs.Int.Bits.{bit_and, bit_or}

-- every member of m is in s
abbrev pub contains : ℕ → ℕ → Bool
contains s m = eqb (bit_and s m) m

-- what is in either
abbrev pub union : ℕ → ℕ → ℕ
union s t = bit_or s t

-- some member of m is in s
abbrev pub touches : ℕ → ℕ → Bool
touches s m = not (eqb (bit_and s m) 0)

-- the set of the members with these places
unfoldable pub set_with : List ℕ → ℕ
set_with [] = 0
set_with (k ∷ ks) = union (2 ^ k) (set_with ks)
