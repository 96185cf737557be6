-- The order in which the server looks at names: at each row, those beginnings of its name that are longer than what it shares with
-- the name of the row before. Every candidate is among them, and they ascend.
use Rattle.std.specs.Prelude.{List, [], ◌∷◌, ◌++◌, ℕ, take, drop}
use Rattle.listing_rules.specs.Table.{Row}
use Rattle.mailbox_table.specs.Shared.{shared_len}

-- the beginnings of `done ++ rest` that are longer than `done`, the shortest first
unfoldable pub growing : List ℕ → List ℕ → List (List ℕ)
growing done [] = []
growing done (b ∷ rest) = (done ++ (b ∷ [])) ∷ growing (done ++ (b ∷ [])) rest

-- the beginnings of a name that are longer than k bytes
unfoldable pub longer : ℕ → List ℕ → List (List ℕ)
longer k n = growing (take k n) (drop k n)

-- the beginnings to look at, row by row; `prev` is the name of the row before
unfoldable pub prefixes_after : List ℕ → List Row → List (List ℕ)
prefixes_after prev [] = []
prefixes_after prev (r ∷ rs) = longer (shared_len prev r.name) r.name ++ prefixes_after r.name rs

unfoldable pub prefixes : List Row → List (List ℕ)
prefixes rs = prefixes_after [] rs
