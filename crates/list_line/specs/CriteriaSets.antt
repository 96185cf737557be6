-- The set of criteria that CHILDINFO names, by its two members.
use Rattle.std.specs.Prelude.{Bool}
use Rattle.listing_rules.specs.Options.{Criteria}

-- the set of these two
abbrev pub these : Bool → Bool → Criteria
these a b = record { subscribed = a; special = b }
