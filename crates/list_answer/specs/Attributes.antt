-- The attributes of a name in two groups, as the code makes them.
use Rattle.std.specs.Prelude.{Bool, false, List, ℕ, take, drop}
use Rattle.listing_rules.specs.Listing.{shown_of, in_order}

-- the first seven, where `asked` says whether \Subscribed shows
unfoldable pub own_attributes : ℕ → Bool → List Bool
own_attributes f asked = take 7 (in_order (shown_of f asked false false false))

-- the seven special uses
unfoldable pub use_attributes : ℕ → Bool → List Bool
use_attributes f asked = take 7 (drop 7 (in_order (shown_of f false asked false false)))
