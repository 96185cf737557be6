-- Names without overlap, by a map of the bytes that names use.
use Rattle.std.specs.Prelude.{◌≡◌, Bool, true, false, ◌&&◌, ◌||◌, List, ℕ, ◌+◌, ◌≤◌, ◌<◌, leb, ltb, length, get_or}
use Rattle.mailbox_table.specs.Index.{nth_row}

-- byte k is one of `len` bytes from `start` on
unfoldable pub covers : ℕ → ℕ → ℕ → Bool
covers start len k = leb start k && ltb k (start + len)

-- a map of the whole area, and a name within it
pub record Maps (used : List Bool) (start len : ℕ) : Type 0 where
  pub size : length used ≡ 32768
  pub inside : start + len ≤ 32768

-- What the marks of a name promise: where none of its bytes was marked, they are now and the others are as they were; else one was.
abbrev pub Marked : List Bool → List Bool → ℕ → ℕ → Bool → Type 0
Marked before after start len true =
    (length after ≡ length before)
    × ((k : ℕ) → covers start len k ≡ true → get_or before k false ≡ false)
    × ((k : ℕ) → get_or after k false ≡ (covers start len k || get_or before k false))
Marked before after start len false = (k : ℕ) × (covers start len k ≡ true) × (get_or before k false ≡ true)

-- names that are not empty and lie where the map reaches
pub record Mapped (words : List ℕ) : Type 0 where
  pub full : (k : ℕ) → k < length words → 0 < (nth_row words k).len
  pub inside : (k : ℕ) → k < length words → (nth_row words k).start + (nth_row words k).len ≤ 32768
