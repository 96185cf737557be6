-- What feeding a piece of a log promises.
use Rattle.std.specs.Prelude.{Option, Some, None}
use Rattle.std.specs.Prelude.{◌≡◌, List, Bool, true, false, ◌&&◌, ◌||◌, eqb, leb, ltb, length, ℕ, ◌-◌, ◌^◌}
use Rattle.replay.specs.declared.Replaying.{Replaying as State}
use Rattle.replay.specs.Holding.{Memory, Goes}

-- no frame yet
abbrev pub start_is : ℕ → State
start_is rows = record { frames = 0; first = 0; due = 0; stopped = false; gathered = 0; rows = rows }

-- The memory is lent in these sizes, the state lies within them, and the frames that a piece of so many bytes may end can be counted, and one more.
abbrev pub ready : ℕ → ℕ → ℕ → State → Bool
ready pending line chunk st =
    leb 2050 pending
    && (leb 32771 line
    && (leb st.due 2050
    && ((eqb st.due 0 || ltb 0 st.frames) && (leb st.gathered 32771 && ltb st.frames (2 ^ 64 - 1 - chunk)))))

abbrev pub ready_in : Memory → List ℕ → State → Bool
ready_in d chunk st = ready (length d.pending) (length d.line) (length chunk) st

-- It is refused exactly if memory and state are not ready, and then every byte stays.
abbrev pub FeedIs : List ℕ → List ℕ → Memory → Memory → State → Option State → Type 0
FeedIs spaces chunk d e st (Some su) = (ready_in d chunk st ≡ true) × Goes spaces chunk d e st su
FeedIs spaces chunk d e st None = (ready_in d chunk st ≡ false) × (e ≡ d)
