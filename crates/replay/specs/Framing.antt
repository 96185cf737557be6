-- A frame of a log at its line feed.
use Rattle.std.specs.Prelude.{◌≡◌, List, [], ◌∷◌, Bool, eqb, length, ℕ, ◌+◌}
use Rattle.std.proofs.lemmas.List.Edits.{sets}
use Rattle.listing_rules.specs.Bytes.{LF}
use Rattle.listing_rules.specs.Replay.{read_logged, frame_ended}
use Rattle.frames.specs.Logged.{command_bytes, fitting_bytes}
use Rattle.replay.specs.declared.Replaying.{Replaying as State}
use Rattle.replay.specs.Holding.{Memory, memory, first_as, due_as, Holds, Goes}
use Rattle.replay.specs.Running.{TableMemory, summed_in, TableKept}

-- a state after one frame more
abbrev pub framed_is : State → ℕ → ℕ → Bool → ℕ → State
framed_is st first due stopped rows =
    record { frames = st.frames + 1; first = first; due = due; stopped = stopped; gathered = 0; rows = rows }

-- The frame `text` was read where a command is due; `pending` was `d` and is `e`.
pub record Asks (text d e : List ℕ) (st su : State) : Type 0 where
  pub due : su.due ≡ length (fitting_bytes (length d) (command_bytes (read_logged text)))
  pub bytes : e ≡ sets d 0 (fitting_bytes (length d) (command_bytes (read_logged text)))
  pub state : su ≡ framed_is st st.first su.due (eqb su.due 0) st.rows

-- The frame `text` was read where the answer to the command is due; the table was `d` and is `e`. Whatever lies in `pending` and in the line, the memory
-- holds the replay after the frame.
pub record Settles (spaces command text : List ℕ) (d e : TableMemory) (st su : State) : Type 0 where
  pub holds : (pending line : List ℕ)
      → Holds (memory e.words e.sums e.area pending line) su
      (frame_ended spaces st.frames (due_as command) (first_as st.first) (summed_in d st.rows) (read_logged text))
  pub kept : TableKept d e
  pub due : su.due ≡ 0
  pub gathered : su.gathered ≡ 0
  pub frames : su.frames ≡ st.frames + 1

-- the line feed was taken
abbrev pub EndsFrame : List ℕ → Memory → Memory → State → State → Type 0
EndsFrame spaces d e st su = Goes spaces (LF ∷ []) d e st su
