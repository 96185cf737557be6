-- What LSUB lists, and its lines (document 02, W5).
use Rattle.std.specs.Prelude.{List, Bool, false, ◌&&◌, ◌||◌, not, ℕ}
use Rattle.listing_rules.specs.Bytes.{text}
use Rattle.listing_rules.specs.Lists.{any_of, keep}
use Rattle.listing_rules.specs.Names.{below}
use Rattle.listing_rules.specs.Flags.{subscribed}
use Rattle.listing_rules.specs.Table.{Row, flags_of}
use Rattle.listing_rules.specs.Options.{no_criteria}
use Rattle.listing_rules.specs.Match.{matches_any}
use Rattle.listing_rules.specs.Listing.{candidates, ends_in_percent, in_order}
use Rattle.listing_rules.specs.Lines.{word_line}

-- The patterns of an LSUB command are its canonical pattern, or none where the pattern is empty.

unfoldable pub is_subscribed : List Row → List ℕ → Bool
is_subscribed rs n = subscribed (flags_of rs n)

-- "subscribed names that match, existing or not"; "Remote rows are included"
unfoldable pub subscribed_match : List Row → List (List ℕ) → List ℕ → Bool
subscribed_match rs ps n = is_subscribed rs n && matches_any ps n

-- "a subscribed descendant that does not match"
unfoldable pub subscribed_below : List Row → List (List ℕ) → List ℕ → Bool
subscribed_below rs ps n = any_of (λ d. below n d && is_subscribed rs d && not (matches_any ps d)) (candidates rs)

-- "under a pattern ending in "%", an unsubscribed matching candidate with a subscribed descendant that does not match"
unfoldable pub above_subscribed : List Row → List (List ℕ) → List ℕ → Bool
above_subscribed rs ps n = not (is_subscribed rs n) && matches_any (keep ends_in_percent ps) n && subscribed_below rs ps n

unfoldable pub lsub_listed : List Row → List (List ℕ) → List ℕ → Bool
lsub_listed rs ps n = subscribed_match rs ps n || above_subscribed rs ps n

-- each name once, ascending, as for LIST
unfoldable pub lsub_names : List Row → List (List ℕ) → List (List ℕ)
lsub_names rs ps = keep (lsub_listed rs ps) (candidates rs)

-- an unsubscribed name "is given with \Noselect"; "no other attribute"
unfoldable pub lsub_attributes : Bool → List Bool
lsub_attributes noselect =
    in_order
    (record {
      marked = false;
      unmarked = false;
      noselect = noselect;
      no_inferiors = false;
      remote = false;
      subscribed = false;
      non_existent = false;
      all = false;
      archive = false;
      drafts = false;
      flagged = false;
      junk = false;
      sent = false;
      trash = false;
      has_children = false;
      has_no_children = false;
    })

-- "Line word LSUB, no CHILDINFO, and no other attribute."
unfoldable pub lsub_line : List Row → List ℕ → List ℕ
lsub_line rs n = word_line (text "* LSUB (") (lsub_attributes (not (is_subscribed rs n))) n no_criteria
