-- Names moved together, over the words of rows.
use Rattle.std.specs.Prelude.{◌≡◌, List, map, ◌++◌, ℕ, ◌+◌, ◌-◌, ◌*◌, ◌/◌, ◌%◌, ◌≤◌, ◌<◌, length, get_or, replicate}
use Rattle.listing_rules.specs.Records.{Record}
use Rattle.listing_rules.specs.Compaction.{used_from, place_after, moved}
use Rattle.records.specs.Words.{record_of}

-- a word with another start, and with the place of its start as its start
unfoldable pub with_start : ℕ → ℕ → ℕ
with_start s w = w - 65536 * (w / 65536 % 65536) + 65536 * s

unfoldable pub restarted : List ℕ → ℕ → ℕ
restarted places w = with_start (get_or places (w / 65536 % 65536) 0) w

-- the words of rows whose names have moved: each with the place of its start as its start, and every other bit as it was
unfoldable pub moved_words : List ℕ → List ℕ → List ℕ
moved_words ws area = map (λ w. with_start (place_after (map record_of ws) area (record_of w).start) w) ws

-- the names of the words begin before place n
abbrev pub Starts : List ℕ → ℕ → Type 0
Starts ws n = (k : ℕ) → k < length ws → get_or ws k 0 / 65536 % 65536 < n

-- the words of rows that pass: their names begin inside the area, which is no longer than it may be
pub record Within (ws area : List ℕ) : Type 0 where
  pub short : length area ≤ 32768
  pub starts : Starts ws (length area)

-- the area then: names together, zeros after them
unfoldable pub together : List Record → List ℕ → List ℕ
together rs area = used_from rs 0 area ++ replicate (length area - length (used_from rs 0 area)) 0

-- the area, and for each of its places where it came to lie
pub record MovesBytes (rs : List Record) (area area' places : List ℕ) : Type 0 where
  pub area_is : area' ≡ together rs area
  pub room : length area ≤ length places
  pub places_are : (k : ℕ) → k < length area → get_or places k 0 ≡ place_after rs area k

-- the area, the words, and the records that they mean then
pub record MovesNames (ws area vs area' : List ℕ) : Type 0 where
  pub size : length vs ≡ length ws
  pub area_is : area' ≡ together (map record_of ws) area
  pub words_are : vs ≡ moved_words ws area
  pub records_are : map record_of vs ≡ map (moved (map record_of ws) area) (map record_of ws)
