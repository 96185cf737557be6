-- Which names a canonical pattern matches.
use Rattle.std.specs.Prelude.{List, [], ◌∷◌, Bool, false, cond, ◌&&◌, ◌||◌, not, eqb, ℕ}
use Rattle.listing_rules.specs.Bytes.{slash, same, raised, is_empty, star, percent}
use Rattle.listing_rules.specs.Lists.{any_of}
use Rattle.listing_rules.specs.Names.{inbox}

-- "any bytes .., none included": the rest of the pattern matches some tail of the name
unfoldable pub any_tail : (List ℕ → Bool) → List ℕ → Bool
any_tail rest [] = rest []
any_tail rest (c ∷ n) = let r = any_tail rest n in rest (c ∷ n) || r

-- "any bytes but '/', none included": the same, with no slash passed
unfoldable pub any_tail_in_level : (List ℕ → Bool) → List ℕ → Bool
any_tail_in_level rest [] = rest []
any_tail_in_level rest (c ∷ n) = let r = not (eqb c slash) && any_tail_in_level rest n in rest (c ∷ n) || r

-- "other bytes stand for themselves"
unfoldable pub head_then : ℕ → (List ℕ → Bool) → List ℕ → Bool
head_then p rest [] = false
head_then p rest (c ∷ n) = let r = rest n in eqb p c && r

-- "'*' stands for any bytes, '%' for any bytes but '/', none included; other bytes stand for themselves."
unfoldable pub wild_match : List ℕ → List ℕ → Bool
wild_match [] n = is_empty n
wild_match (p ∷ ps) n =
    let any = any_tail (wild_match ps) n in
    let inLevel = any_tail_in_level (wild_match ps) n in
    let other = head_then p (wild_match ps) n in
    cond (eqb p star) any (cond (eqb p percent) inLevel other)

-- "The name INBOX, alone, is compared after the pattern's letters a to z are raised."
unfoldable pub matches : List ℕ → List ℕ → Bool
matches p n = wild_match (cond (same n inbox) (raised p) p) n

-- the name "matches some pattern"
unfoldable pub matches_any : List (List ℕ) → List ℕ → Bool
matches_any ps n = any_of (λ p. matches p n) ps
