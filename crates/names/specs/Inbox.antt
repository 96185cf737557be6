-- Whether the first level of a name is INBOX in any case of letters.
use Rattle.std.specs.Prelude.{Bool, true, ◌&&◌, List, [], ◌∷◌, ℕ, eqb, take, drop}
use Rattle.listing_rules.specs.Bytes.{slash, spells}
use Rattle.listing_rules.specs.Names.{inbox}

-- a level ends here: with the name, or at a slash
unfoldable pub ends_here : List ℕ → Bool
ends_here [] = true
ends_here (b ∷ t) = eqb b slash

-- in terms of the first five bytes and of what stands behind them (law `first-spells`: as the first of `levels`)
unfoldable pub inbox_first : List ℕ → Bool
inbox_first s = spells (take 5 s) inbox && ends_here (drop 5 s)
