-- Which patterns count.
use Rattle.std.specs.Prelude.{List, Bool, cond, ℕ}
use Rattle.listing_rules.specs.Lists.{keep}
use Rattle.listing_rules.specs.Listing.{ends_in_percent}

-- those that end in "%" if `levels` is set, else all
unfoldable pub chosen : Bool → List (List ℕ) → List (List ℕ)
chosen levels ps = cond levels (keep ends_in_percent ps) ps

-- opens every definition of this file, for a proof by computation
unfoldable pub open_chosen : Unit {0}
unfolding chosen
open_chosen = tt
