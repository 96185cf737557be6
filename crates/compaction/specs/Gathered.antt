-- Bytes gathered by a map of free bytes.
use Rattle.std.specs.Prelude.{◌≡◌, Bool, cond, List, [], ◌∷◌, ℕ, ◌≤◌, ◌<◌, length, take, get_or}

-- the bytes that the map does not mark as free
unfoldable pub kept : List Bool → List ℕ → List ℕ
kept [] bs = []
kept (m ∷ ms) [] = []
kept (m ∷ ms) (b ∷ bs) = let r = kept ms bs in cond m r (b ∷ r)

-- how many of them lie before place k
unfoldable pub kept_before : List Bool → List ℕ → ℕ → ℕ
kept_before marks area k = length (kept (take k marks) (take k area))

-- They stand at the front of the area, up to `end`, and for each place it is told how many of them lay before it.
pub record Gathers (marks : List Bool) (before after places : List ℕ) (end : ℕ) : Type 0 where
  pub size : length after ≡ length before
  pub room : length before ≤ length places
  pub end_most : end ≤ length before
  pub end_is : end ≡ length (kept marks before)
  pub front : take end after ≡ kept marks before
  pub places_are : (k : ℕ) → k < length before → get_or places k 0 ≡ kept_before marks before k
