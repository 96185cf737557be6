-- Bytes added behind those that are stored.
use Rattle.std.specs.Prelude.{Option, Some, None}
use Rattle.std.specs.Prelude.{◌≡◌, List, ◌++◌, Bool, true, cond, ◌&&◌, leb, length, take, ℕ, ◌+◌}
use Rattle.std.proofs.lemmas.List.Edits.{sets}

-- the limit lies in an area of so many bytes, and n bytes behind the first `used` ones stay in it
unfoldable pub has_place : ℕ → ℕ → ℕ → ℕ → Bool
has_place size used limit n = leb limit size && leb (used + n) limit

-- The bytes `bs` were added behind the first `used` bytes of the area `d`, which leaves `e`; `r` is the answer.
pub record Stores (d e : List ℕ) (used limit : ℕ) (bs : List ℕ) (r : Option ℕ) : Type 0 where
  pub answer : r ≡ cond (has_place (length d) used limit (length bs)) (Some (used + length bs)) None
  -- what is stored then
  pub front : has_place (length d) used limit (length bs) ≡ true → take (used + length bs) e ≡ take used d ++ bs
  -- every byte: those behind what is stored stay, and without room all do
  pub bytes : e ≡ cond (has_place (length d) used limit (length bs)) (sets d used bs) d
  pub kept : length e ≡ length d
