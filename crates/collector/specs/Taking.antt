-- What a line, an answer or a command adds to found and pending.
use Rattle.std.specs.Prelude.{Result, Ok, Err}
use Rattle.octets.specs.declared.refusals.Refusal.{Refusal}
use Rattle.octets.specs.Refusals.{number_of}
use Rattle.std.specs.Prelude.{◌≡◌, List, ℕ, ◌+◌, ◌≤◌, length}
use Rattle.listing_rules.specs.Table.{Table}
use Rattle.listing_rules.specs.LineReader.{read_line}
use Rattle.listing_rules.specs.Walk.{Lists, Step, stop, go, lines_of, taken_in, taken_all, asked}
use Rattle.collector.specs.Names.{Packs}
use Rattle.collector.specs.Options.{byte_of}
use Rattle.collector.specs.declared.lines.Progress.{Progress}
use Rattle.collector.specs.declared.options.WalkOptions.{WalkOptions}

-- the lengths are within the buffers
pub record Inside (found pending : List ℕ) (p : Progress) : Type 0 where
  pub finds : p.found ≤ length found
  pub asks : p.pending ≤ length pending

-- the two lists of the walk lie in found and in pending
pub record Holds (s : Lists) (found pending : List ℕ) (p : Progress) : Type 0 where
  pub finds : Packs found p.found s.finds
  pub asks : Packs pending p.pending s.asks

-- a step that was taken: whatever lists lay in the two buffers before it, the step's lists lie in them after it
pub record Goes (step : Lists → Step Lists) (count : ℕ) (found pending : List ℕ) (p : Progress) (found' pending' : List ℕ) (q : Progress) : Type 0 where
  pub inside : Inside found' pending' q
  pub counted : q.count ≡ count
  pub lists : (s : Lists) → Holds s found pending p → (u : Lists) × (step s ≡ go u) × Holds u found' pending' q

-- a step that was taken, or refused
abbrev pub Takes : (Lists → Step Lists) → ℕ → Progress → List ℕ → List ℕ → List ℕ → List ℕ → Result Progress Refusal → Type 0
Takes step count p found pending found' pending' (Ok q) = Goes step count found pending p found' pending' q
Takes step count p found pending found' pending' (Err e) = (s : Lists) → Holds s found pending p → step s ≡ stop (number_of e)

-- one line
abbrev pub line_step : WalkOptions → List ℕ → List ℕ → List ℕ → Lists → Step Lists
line_step w line found pending s = taken_in (byte_of w) (length found) (length pending) s (read_line line)

abbrev pub TakesLine : WalkOptions → List ℕ → Progress → List ℕ → List ℕ → List ℕ → List ℕ → Result Progress Refusal → Type 0
TakesLine w line p found pending found' pending' r = Takes (line_step w line found pending) p.count p found pending found' pending' r

-- the lines of an answer
abbrev pub answer_step : WalkOptions → List ℕ → List ℕ → List ℕ → Lists → Step Lists
answer_step w answer found pending s = taken_all (byte_of w) (length found) (length pending) s (lines_of answer)

abbrev pub TakesAnswer : WalkOptions → List ℕ → Progress → List ℕ → List ℕ → List ℕ → List ℕ → Result Progress Refusal → Type 0
TakesAnswer w answer p found pending found' pending' r = Takes (answer_step w answer found pending) p.count p found pending found' pending' r

-- the command with a reference, and its answer; the count grows by one
abbrev pub command_step : Table → WalkOptions → List ℕ → List ℕ → List ℕ → List ℕ → Lists → Step Lists
command_step table w reference scratch found pending s = asked table (byte_of w) (length scratch) (length found) (length pending) s reference

abbrev pub TakesCommand : Table → WalkOptions → List ℕ → List ℕ → Progress → List ℕ → List ℕ → List ℕ → List ℕ → Result Progress Refusal → Type 0
TakesCommand table w reference scratch p found pending found' pending' r =
    Takes (command_step table w reference scratch found pending) (p.count + 1) p found pending found' pending' r
