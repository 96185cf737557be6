-- How many bytes two names begin with alike.
use Rattle.std.specs.Prelude.{cond, List, [], ◌∷◌, ℕ, suc, eqb}

unfoldable pub shared_len : List ℕ → List ℕ → ℕ
shared_len [] b = 0
shared_len (x ∷ a) [] = 0
shared_len (x ∷ a) (y ∷ b) = let r = shared_len a b in cond (eqb x y) (suc r) 0
