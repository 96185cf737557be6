-- Names in a lent buffer, as they lie in found and pending.
use Rattle.std.specs.Prelude.{Option, Some, None}
use Rattle.std.specs.Prelude.{◌≡◌, Bool, List, ℕ, ◌+◌, ◌-◌, ◌≤◌, ◌<◌, length, take, drop}
use Rattle.listing_rules.specs.Walk.{packed, with_name, zero_behind}
use Rattle.collector.specs.declared.walk.NamePlace.{NamePlace}

-- The names lie in the first `len` bytes, and after them the buffer is zero.
pub record Packs (buf : List ℕ) (len : ℕ) (ns : List (List ℕ)) : Type 0 where
  pub counted : len ≡ length (packed ns)
  pub room : len ≤ length buf
  pub bytes : buf ≡ zero_behind (length buf) (packed ns)

-- whatever names lay in the buffer, one more lies in it after the call if it was wanted; or there is no room for it
abbrev pub Keeps : Bool → List ℕ → List ℕ → ℕ → List ℕ → Option ℕ → Type 0
Keeps wanted n buf at buf' (Some r) = (r ≤ length buf') × ((ns : List (List ℕ)) → Packs buf at ns → Packs buf' r (with_name wanted n ns))
Keeps wanted n buf at buf' None = (ns : List (List ℕ)) → Packs buf at ns → length buf < length (packed (with_name wanted n ns))

-- where a name lies in pending, and the name
pub record Lies (place : NamePlace) (pending : List ℕ) : Type 0 where
  pub ordered : place.from ≤ place.end
  pub inside : place.end ≤ length pending
  pub short : place.end ≤ place.from + 255

abbrev pub name_at : NamePlace → List ℕ → List ℕ
name_at place pending = take (place.end - place.from) (drop place.from pending)
