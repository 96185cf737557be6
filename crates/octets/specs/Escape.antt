-- One byte of a quoted string.
use Rattle.std.specs.Prelude.{cond, ◌||◌, List, [], ◌∷◌, ℕ, eqb}

-- a quote and a backslash take a backslash
abbrev pub escape_of : ℕ → List ℕ
escape_of x = cond (eqb x 34 || eqb x 92) (92 ∷ x ∷ []) (x ∷ [])
