-- Slashes of a name: how many, and whether one follows another.
use Rattle.std.specs.Prelude.{Bool, true, cond, ◌&&◌, not, List, [], ◌∷◌, ℕ, suc, eqb}
use Rattle.listing_rules.specs.Bytes.{slash}

-- how many there are
unfoldable pub slash_count : List ℕ → ℕ
slash_count [] = 0
slash_count (b ∷ t) = let r = slash_count t in cond (eqb b slash) (suc r) r

-- no slash follows another
unfoldable pub no_pair : List ℕ → Bool
no_pair [] = true
no_pair (b ∷ []) = true
no_pair (b ∷ c ∷ t) = not (eqb b slash && eqb c slash) && no_pair (c ∷ t)
