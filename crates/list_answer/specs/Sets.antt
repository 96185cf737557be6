-- Sets of named members that are put together one by one, the lowest first.
use Rattle.std.specs.Prelude.{Bool, cond, List, [], ◌∷◌, ℕ, ◌*◌}
use Rattle.octets.specs.Sets.{union}

-- the set with the members of m, where they hold
abbrev pub with_member : ℕ → Bool → ℕ → ℕ
with_member s holds m = cond holds (union s m) s

-- the set with member m and those after it, each where it holds
unfoldable pub adds : ℕ → ℕ → List Bool → ℕ
adds s m [] = s
adds s m (b ∷ bs) = adds (with_member s b m) (2 * m) bs
