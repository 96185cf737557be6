-- The set of attributes as a number, and as the sixteen in order.
use Rattle.std.specs.Prelude.{Bool, cond, List, [], ◌∷◌, ℕ, ◌+◌, ◌*◌}
use Rattle.listing_rules.specs.Bytes.{bit}

-- which of the sixteen are in the set, in document 01's order
unfoldable pub members : ℕ → List Bool
members a =
    bit 0 a
    ∷ bit 1 a
    ∷ bit 2 a
    ∷ bit 3 a
    ∷ bit 4 a
    ∷ bit 5 a
    ∷ bit 6 a
    ∷ bit 7 a
    ∷ bit 8 a
    ∷ bit 9 a
    ∷ bit 10 a
    ∷ bit 11 a
    ∷ bit 12 a
    ∷ bit 13 a
    ∷ bit 14 a
    ∷ bit 15 a
    ∷ []

-- the set of those that are in: the k-th counts 2 ^ k
unfoldable pub set_of : List Bool → ℕ
set_of [] = 0
set_of (b ∷ bs) = cond b 1 0 + 2 * set_of bs
