-- What is listed, and with which attributes.
use Rattle.std.specs.Prelude.{List, [], ◌∷◌, map, Bool, false, cond, ◌&&◌, ◌||◌, not, eqb, ℕ}
use Rattle.listing_rules.specs.Bytes.{bit, percent}
use Rattle.listing_rules.specs.Lists.{any_of, keep, joined}
use Rattle.listing_rules.specs.Orders.{byte_order, sorted}
use Rattle.listing_rules.specs.Names.{proper_ancestors, below}
use Rattle.listing_rules.specs.Flags.{exists, subscribed, remote, no_select, no_inferiors, marked, unmarked, has_use}
use Rattle.listing_rules.specs.Table.{Row, has_row, flags_of}
use Rattle.listing_rules.specs.Options.{Options, Criteria, no_criteria, criteria}
use Rattle.listing_rules.specs.Match.{matches_any}

-- "Candidates are the table's names and all their proper ancestors"; each once, ascending by name
unfoldable pub candidates : List Row → List (List ℕ)
candidates rs = sorted byte_order (joined (map (λ r. r.name ∷ proper_ancestors r.name) rs))

-- "An ancestor without a row is an implied name": a candidate that has no row. Its flags are 0 (law `implied-flags`).
unfoldable pub implied : List Row → List ℕ → Bool
implied rs n = not (has_row rs n)

-- "A candidate meets the criteria if: it exists or SUBSCRIBED is selected; it is local or REMOTE is selected; it is subscribed if
--  SUBSCRIBED is selected; and it has a special use if SPECIAL-USE is selected." f are its flags.
unfoldable pub meets_criteria : Options → ℕ → Bool
meets_criteria o f =
    (exists f || o.sel_subscribed)
    && (not (remote f) || o.sel_remote)
    && (not o.sel_subscribed || subscribed f)
    && (not o.sel_special || has_use f)

unfoldable pub candidate_meets : List Row → Options → List ℕ → Bool
candidate_meets rs o n = meets_criteria o (flags_of rs n)

-- "some proper descendant meets the criteria, whether that one matches or not"
unfoldable pub meets_below : List Row → Options → List ℕ → Bool
meets_below rs o n = any_of (λ d. below n d && candidate_meets rs o d) (candidates rs)

-- "some descendant meets them and matches no pattern"
unfoldable pub meets_unmatched_below : List Row → Options → List (List ℕ) → List ℕ → Bool
meets_unmatched_below rs o ps n = any_of (λ d. below n d && candidate_meets rs o d && not (matches_any ps d)) (candidates rs)

-- Document 02, W1: "Where neither RECURSIVEMATCH, SUBSCRIBED nor SPECIAL-USE is selected"
unfoldable pub unselective : Options → Bool
unselective o = not o.sel_recursive && not o.sel_subscribed && not o.sel_special

-- "a canonical pattern ending in "%"": its last byte, after unquoting
unfoldable pub ends_in_percent : List ℕ → Bool
ends_in_percent [] = false
ends_in_percent (c ∷ []) = eqb c percent
ends_in_percent (c ∷ d ∷ t) = ends_in_percent (d ∷ t)

-- "a candidate that does not exist, matches a canonical pattern ending in "%", and has a descendant that meets the criteria"
unfoldable pub level_above : List Row → Options → List (List ℕ) → List ℕ → Bool
level_above rs o ps n =
    unselective o && not (exists (flags_of rs n)) && matches_any (keep ends_in_percent ps) n && meets_below rs o n

-- "A candidate that matches some pattern is listed if it meets the criteria, or, under RECURSIVEMATCH, if some descendant meets them
--  and matches no pattern (RFC 5258, 3.3)." With W1, a level above what meets the criteria "is listed" too.
unfoldable pub listed : List Row → Options → List (List ℕ) → List ℕ → Bool
listed rs o ps n =
    (matches_any ps n && (candidate_meets rs o n || (o.sel_recursive && meets_unmatched_below rs o ps n))) || level_above rs o ps n

-- "CHILDINFO is on a listed line exactly if RECURSIVEMATCH was given and some proper descendant meets the criteria"; the criteria that
-- it names, none where it is not on the line
unfoldable pub child_info : List Row → Options → List ℕ → Criteria
child_info rs o n = cond (o.sel_recursive && meets_below rs o n) (criteria o) no_criteria

-- "\HasChildren: some existing row lies below that is local, or REMOTE is selected."
unfoldable pub has_children : List Row → Options → List ℕ → Bool
has_children rs o n = any_of (λ r. below n r.name && exists r.flags && (not (remote r.flags) || o.sel_remote)) rs

-- The sixteen attributes by their names, and in document 01's order.
pub record Shown : Type 0 where
  pub marked : Bool
  pub unmarked : Bool
  pub noselect : Bool
  pub no_inferiors : Bool
  pub remote : Bool
  pub subscribed : Bool
  pub non_existent : Bool
  pub all : Bool
  pub archive : Bool
  pub drafts : Bool
  pub flagged : Bool
  pub junk : Bool
  pub sent : Bool
  pub trash : Bool
  pub has_children : Bool
  pub has_no_children : Bool

unfoldable pub in_order : Shown → List Bool
in_order s =
    s.marked ∷ s.unmarked ∷ s.noselect ∷ s.no_inferiors ∷ s.remote ∷ s.subscribed ∷ s.non_existent
    ∷ s.all ∷ s.archive ∷ s.drafts ∷ s.flagged ∷ s.junk ∷ s.sent ∷ s.trash
    ∷ s.has_children ∷ s.has_no_children ∷ []

-- Which are shown of a name with flags f: whether \Subscribed and whether uses show, and which of the last two. "Bits 2 to 6 always show,
-- \NonExistent on all that do not exist."
abbrev pub shown_of : ℕ → Bool → Bool → Bool → Bool → Shown
shown_of f subscribedShows usesShow parent childless =
    record {
      marked = marked f;
      unmarked = unmarked f;
      noselect = no_select f;
      no_inferiors = no_inferiors f;
      remote = remote f;
      subscribed = subscribed f && subscribedShows;
      non_existent = not (exists f);
      all = bit 8 f && usesShow;
      archive = bit 9 f && usesShow;
      drafts = bit 10 f && usesShow;
      flagged = bit 11 f && usesShow;
      junk = bit 12 f && usesShow;
      sent = bit 13 f && usesShow;
      trash = bit 14 f && usesShow;
      has_children = parent;
      has_no_children = childless;
    }

-- Of a name with flags f, that has children or has none, and is a level above (W1) or is none. "\Subscribed is shown only if SUBSCRIBED is
-- selected or returned, uses only if SPECIAL-USE is, the last two only with CHILDREN." "Else \HasNoChildren, except beside \NoInferiors."
-- W1: a level above "is listed with \NonExistent and \HasChildren, whether CHILDREN was asked or not, and \Subscribed as document 01 says"
-- (law `level-has-children`).
unfoldable pub attributes_for : ℕ → Options → Bool → Bool → List Bool
attributes_for f o children level =
    in_order
    (shown_of f (o.sel_subscribed || o.ret_subscribed) (o.sel_special || o.ret_special)
    ((o.ret_children && children) || level) (o.ret_children && not children && not (no_inferiors f)))

unfoldable pub attributes : List Row → Options → List (List ℕ) → List ℕ → List Bool
attributes rs o ps n = attributes_for (flags_of rs n) o (has_children rs o n) (level_above rs o ps n)

-- "Each name has at most one line; lines ascend by name."
unfoldable pub listed_names : List Row → Options → List (List ℕ) → List (List ℕ)
listed_names rs o ps = keep (listed rs o ps) (candidates rs)
