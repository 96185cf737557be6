-- Demand 3: what the whole walk comes to, said of the table alone.
use Rattle.std.specs.Prelude.{◌≡◌, List, [], ◌∷◌, ◌++◌, map, Bool, true, false, ◌||◌, not, ltb, length, ℕ, ◌+◌}
use Rattle.listing_rules.specs.Bytes.{text, slash, one_of}
use Rattle.listing_rules.specs.Lists.{keep, joined, any_of}
use Rattle.listing_rules.specs.Orders.{sorted}
use Rattle.listing_rules.specs.Names.{proper_ancestors, walk_order}
use Rattle.listing_rules.specs.Table.{Row, Table, rows}
use Rattle.listing_rules.specs.Options.{Options}
use Rattle.listing_rules.specs.Listing.{candidates, candidate_meets}
use Rattle.listing_rules.specs.Server.{list_answer}
use Rattle.listing_rules.specs.Walk.{wants_remote, wants_special, drops_subscribed, packed, WalkReply, walk_refused, walked}

-- the options that the walk selects
unfoldable pub walk_options : ℕ → Options
walk_options o =
    record {
      sel_subscribed = not (drops_subscribed o);
      sel_remote = wants_remote o;
      sel_recursive = true;
      sel_special = wants_special o;
      ret_subscribed = false;
      ret_children = false;
      ret_special = false;
    }

-- "every name that meets the criteria once, in walk order"
unfoldable pub meeting_names : List Row → ℕ → List (List ℕ)
meeting_names rs o = sorted walk_order (keep (candidate_meets rs (walk_options o)) (candidates rs))

-- "their different proper ancestors", in walk order
unfoldable pub meeting_ancestors : List Row → ℕ → List (List ℕ)
meeting_ancestors rs o = sorted walk_order (joined (map proper_ancestors (meeting_names rs o)))

-- the server's answer to the walk's command with this reference
unfoldable pub walk_answer : List Row → ℕ → List ℕ → List ℕ
walk_answer rs o reference = list_answer rs (text "w") (walk_options o) ((reference ++ text "%") ∷ [])

-- "Scratch is too small if shorter than the answer to the first command or to one below a proper ancestor of a name that meets the criteria"
unfoldable pub scratch_too_small : List Row → ℕ → ℕ → Bool
scratch_too_small rs o room =
    ltb room (length (walk_answer rs o []))
    || any_of (λ a. ltb room (length (walk_answer rs o (a ++ (slash ∷ []))))) (meeting_ancestors rs o)

-- "found if shorter than all names that meet the criteria together, .. each once and with a length byte"
unfoldable pub found_too_small : List Row → ℕ → ℕ → Bool
found_too_small rs o room = ltb room (length (packed (meeting_names rs o)))

-- "pending if shorter than all their different proper ancestors together, each once and with a length byte"
unfoldable pub pending_too_small : List Row → ℕ → ℕ → Bool
pending_too_small rs o room = ltb room (length (packed (meeting_ancestors rs o)))

unfoldable pub too_small : List Row → ℕ → ℕ → ℕ → ℕ → Bool
too_small rs o scratch found pending = scratch_too_small rs o scratch || found_too_small rs o found || pending_too_small rs o pending

-- What the walk's result owes: refused exactly when a buffer is too small (by 9, 10 or 11; which one, the walk's own order
-- decides), and else what the table says: "the count is one more than there are ancestors".
unfoldable pub Demand3 : Table → ℕ → ℕ → ℕ → ℕ → WalkReply → Type 0
Demand3 table o scratch found pending (walk_refused k) =
    (too_small (rows table) o scratch found pending ≡ true) × (one_of (9 ∷ 10 ∷ 11 ∷ []) k ≡ true)
Demand3 table o scratch found pending (walked count f p) =
    (too_small (rows table) o scratch found pending ≡ false)
    × (count ≡ 1 + length (meeting_ancestors (rows table) o))
    × (f ≡ packed (meeting_names (rows table) o))
    × (p ≡ packed (meeting_ancestors (rows table) o))
