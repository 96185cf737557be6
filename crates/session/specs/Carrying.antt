-- A frame carried out over the lent memory, and what it leaves there.
use Rattle.std.specs.Prelude.{Option}
use Rattle.std.specs.Prelude.{◌≡◌, List, [], ◌++◌, cond, leb, length, take, drop, ℕ, ◌+◌, ◌≤◌}
use Rattle.listing_rules.specs.Frames.{Frame as Meant, table_bytes, namespace_bytes, command, walk_with, bad_frame, Stored}
use Rattle.listing_rules.specs.Frames.{refusal_line, read_frame, add_row, framed}
use Rattle.frames.specs.declared.gathering.Gathered.{Gathered}
use Rattle.frames.specs.declared.reading.Frame.{Frame}
use Rattle.frames.specs.Gathering.{Holds as HoldsFrame}
use Rattle.frames.specs.Reading.{frame_is}
use Rattle.kept_table.specs.declared.Lengths.{Lengths}
use Rattle.kept_table.specs.declared.outcome.Outcome.{Outcome}
use Rattle.session.specs.declared.carrying.Added.{Added}
use Rattle.kept_table.specs.Kept.{Carries, Lent, Says, lent, stored_in}
use Rattle.kept_table.specs.Commanding.{numbers_after}

-- Bytes added after the first `used` ones of an area that was `d` and is `e`, where at most `limit` are stored; else nothing is
-- added, and the refusal is said.
pub record Keeps (limit number used : ℕ) (bs d e o p : List ℕ) (r : Added) : Type 0 where
  pub front : take r.len e ≡ cond (leb (used + length bs) limit) (take used d ++ bs) (take used d)
  pub behind : drop r.len e ≡ drop r.len d
  pub room : r.len ≤ limit
  pub says : Says (cond (leb (used + length bs) limit) [] (refusal_line number)) o p r.written

-- a row was added to the table's area, which was `t` and is `u`, whatever words and namespace list lie beside it
abbrev pub AddsRow : Lengths → List ℕ → List ℕ → List ℕ → List ℕ → List ℕ → Outcome → Type 0
AddsRow stored row t u o p r =
    (words namespaces : List ℕ) → stored.namespaces ≤ 1024
    → Carries (add_row (stored_in (lent t words namespaces o) stored) row) (lent t words namespaces o) (lent u words namespaces p) r

-- Every bit of the numbers after a frame: a command leaves what it leaves, every other frame leaves them.
unfoldable pub numbers_framed : Stored → Meant → List ℕ → List ℕ
numbers_framed s (table_bytes bs) numbers = numbers
numbers_framed s (namespace_bytes bs) numbers = numbers
numbers_framed s (command reader l) numbers = numbers_after s reader l numbers
numbers_framed s (walk_with reader o) numbers = numbers
numbers_framed s bad_frame numbers = numbers

-- a frame that was read, its bytes at its side, was carried out over what is stored
pub record CarriesOut (stored : Lengths) (bs : List ℕ) (frame : Option Frame) (d e : Lent) (r : Outcome) : Type 0 where
  pub carried : Carries (framed (stored_in d stored) (frame_is bs frame)) d e r
  pub numbers : e.records ≡ numbers_framed (stored_in d stored) (frame_is bs frame) d.records

-- the frame of the characters that the line holds was carried out
pub record Ended (line : List ℕ) (g : Gathered) (stored : Lengths) (d e : Lent) (r : Outcome) : Type 0 where
  pub frame : Meant
  pub read : (partial : List ℕ) → HoldsFrame line g partial → frame ≡ read_frame partial
  pub carried : Carries (framed (stored_in d stored) frame) d e r
  pub numbers : e.records ≡ numbers_framed (stored_in d stored) frame d.records
