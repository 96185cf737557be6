-- The walk between two commands.
use Rattle.std.specs.Prelude.{◌≡◌, List, ℕ, suc, ◌-◌, ◌≤◌, ◌<◌, length, take}
use Rattle.listing_rules.specs.Table.{Table}
use Rattle.listing_rules.specs.Walk.{Lists, packed, walk_from, ended, walk}
use Rattle.collector.specs.Options.{byte_of}
use Rattle.collector.specs.Taking.{Holds}
use Rattle.collector.specs.declared.lines.Progress.{Progress}
use Rattle.collector.specs.declared.options.WalkOptions.{WalkOptions}

-- A table, a walk's options and the lengths of the three buffers; then what lies in these, how far the walk is, and the place in pending of
-- the next name to ask below.
pub record Walking (table : Table) (w : WalkOptions) (scratch found pending : ℕ) (inScratch inFound inPending : List ℕ) (p : Progress) (at : ℕ) : Type 0 where
  pub scratch_long : length inScratch ≡ scratch
  pub found_long : length inFound ≡ found
  pub pending_long : length inPending ≡ pending
  -- the two lists of the walk lie in found and in pending
  pub lists : Lists
  pub holds : Holds lists inFound inPending p
  -- so many names of pending were asked below, those before the place
  pub done : ℕ
  pub asked_before : done ≤ length lists.asks
  pub place : at ≡ length (packed (take done lists.asks))
  -- the commands sent: the first, and one below each of those names
  pub counted : p.count ≡ suc done
  -- what is left of the walk gives what the whole walk gives; the bound on its steps is large enough for the bytes that are left
  pub fuel : ℕ
  pub left : pending - at < fuel
  pub rest : ended (walk_from table (byte_of w) scratch found pending fuel done lists) ≡ walk table (byte_of w) scratch found pending
