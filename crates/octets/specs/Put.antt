-- What a run of writes leaves in a buffer.
use Rattle.std.specs.Prelude.{◌≡◌, List, ℕ, ◌+◌, ◌-◌, ◌<◌, ◌^◌, min, length}
use Rattle.std.proofs.lemmas.List.Edits.{sets}

-- The bytes `bs` are written to the buffer `d` at the place `at`, as far as it goes, which leaves `e`; `r` is the place behind
-- them. A place counts on behind the buffer's end, up to the largest number that a place can have, which no buffer reaches.
pub record Put (d e : List ℕ) (at : ℕ) (bs : List ℕ) (r : ℕ) : Type 0 where
  pub fits : length d + 1 < 2 ^ 64
  pub place : r ≡ min (at + length bs) (2 ^ 64 - 1)
  pub bytes : e ≡ sets d at bs
