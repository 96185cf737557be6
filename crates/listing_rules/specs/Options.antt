-- The set of options of a LIST command, with named members.
use Rattle.std.specs.Prelude.{Bool, false, cond, ◌&&◌, ◌||◌, not, leb, ℕ, ◌+◌}
use Rattle.listing_rules.specs.Bytes.{bit}

pub record Options : Type 0 where
  pub sel_subscribed : Bool
  pub sel_remote : Bool
  pub sel_recursive : Bool
  pub sel_special : Bool
  pub ret_subscribed : Bool
  pub ret_children : Bool
  pub ret_special : Bool

-- Document 02, W3: "7 is given exactly if neither SUBSCRIBED nor SPECIAL-USE stands beside" RECURSIVEMATCH
unfoldable pub lawful_options : Options → Bool
lawful_options o = not (o.sel_recursive && not (o.sel_subscribed || o.sel_special))

-- The criteria that CHILDINFO names: a set with two named members.
pub record Criteria : Type 0 where
  pub subscribed : Bool
  pub special : Bool

unfoldable pub no_criteria : Criteria
no_criteria = record { subscribed = false; special = false }

unfoldable pub is_none : Criteria → Bool
is_none c = not (c.subscribed || c.special)

-- Such a set as a number, as the line writer takes it and the reader gives it: SUBSCRIBED counts 1 and SPECIAL-USE 2. A number with
-- another bit is no such set.
unfoldable pub lawful_criteria : ℕ → Bool
lawful_criteria k = leb k 3

unfoldable pub criteria_of : ℕ → Criteria
criteria_of k = record { subscribed = bit 0 k; special = bit 1 k }

unfoldable pub criteria_number : Criteria → ℕ
criteria_number c = cond c.subscribed 1 0 + cond c.special 2 0

-- "the criteria selected"
unfoldable pub criteria : Options → Criteria
criteria o = record { subscribed = o.sel_subscribed; special = o.sel_special }
