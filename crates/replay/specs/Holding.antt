-- The replay that lent memory holds between two bytes of a log, and what is written of its frames.
use Rattle.std.specs.Prelude.{◌≡◌, List, [], ◌∷◌, Bool, true, false, cond, eqb, ltb, length, take, set, ℕ, ◌+◌, ◌*◌, ◌≤◌}
use Rattle.std.proofs.Math.Option.{Option, none, some}
use Rattle.std.proofs.lemmas.List.Edits.{sets}
use Rattle.listing_rules.specs.Bytes.{LF}
use Rattle.listing_rules.specs.Summary.{Summed}
use Rattle.listing_rules.specs.Replay.{Logged, read_logged, Due, command_due, answer_due, Replaying, replay_byte, replay_all}
use Rattle.frames.specs.Logged.{command_bytes}
use Rattle.replay.specs.declared.Replaying.{Replaying as State}
use Rattle.replay.specs.Running.{TableMemory, table, summed_in, TableKept}

-- the lent memory: the table, the command whose answer is due, and the frame so far
pub record Memory : Type 0 where
  pub words : List ℕ
  pub sums : List ℕ
  pub area : List ℕ
  pub pending : List ℕ
  pub line : List ℕ

abbrev pub memory : List ℕ → List ℕ → List ℕ → List ℕ → List ℕ → Memory
memory words sums area pending line = record { words = words; sums = sums; area = area; pending = pending; line = line }

abbrev pub table_of : Memory → TableMemory
table_of d = table d.words d.sums d.area

-- the table that it holds, of which so many records are rows
abbrev pub table_in : Memory → ℕ → Summed
table_in d rows = summed_in (table_of d) rows

-- the state's numbers in document 02's terms: no frame has the number 0, no command is without a byte, and the last frame is the one that stopped it
unfoldable pub first_as : ℕ → Option ℕ
first_as n = cond (eqb n 0) none (some n)

unfoldable pub due_as : List ℕ → Due
due_as [] = command_due
due_as (r ∷ l) = answer_due r l

unfoldable pub stop_as : Bool → ℕ → Option ℕ
stop_as true k = some k
stop_as false k = none

-- The memory and the state hold the replay r. Of a frame so far no more than 32,771 characters are held: one so long is unreadable, however it goes on.
pub record Holds (d : Memory) (st : State) (r : Replaying) : Type 0 where
  pub frames : r.frames ≡ st.frames
  pub due : r.due ≡ due_as (take st.due d.pending)
  pub first : r.first ≡ first_as st.first
  pub stop : r.stop ≡ stop_as st.stopped st.frames
  pub left : r.left ≡ table_in d st.rows
  pub partial : take 32771 r.partial ≡ take st.gathered d.line

-- What is written, byte by byte, beside the table: a command where one was due, and each character of a frame that is held.
pub record Notes : Type 0 where
  pub pending : List ℕ
  pub line : List ℕ

abbrev pub notes_of : Memory → Notes
notes_of d = record { pending = d.pending; line = d.line }

unfoldable pub pending_with : Due → List ℕ → Logged → List ℕ
pending_with command_due pending f = sets pending 0 (command_bytes f)
pending_with (answer_due reader l) pending f = pending

unfoldable pub line_with : List ℕ → List ℕ → ℕ → List ℕ
line_with partial line c = cond (ltb (length partial) 32771) (set line (length partial) c) line

unfoldable pub note_on : Replaying → Notes → ℕ → Notes
note_on r n c =
    cond (eqb c LF) (record { pending = pending_with r.due n.pending (read_logged r.partial); line = n.line })
    (record { pending = n.pending; line = line_with r.partial n.line c })

-- nothing is written after a stop
unfoldable pub note_byte : Replaying → Notes → ℕ → Notes
note_byte r n c = elim r.stop [ none ↦ note_on r n c | some k ↦ n ]

unfoldable pub notes_after : List ℕ → Replaying → Notes → List ℕ → Notes
notes_after spaces r n [] = n
notes_after spaces r n (c ∷ t) = notes_after spaces (replay_byte spaces r c) (note_byte r n c) t

-- Some bytes of a log were taken, over the namespace list `spaces`, by the memory that was `d` and is `e`, and the state that was `st` and is `su`.
pub record Goes (spaces bytes : List ℕ) (d e : Memory) (st su : State) : Type 0 where
  -- whatever replay the memory held, it holds what these bytes make of it, and its notes are those that they make
  pub holds : (r : Replaying) → Holds d st r → Holds e su (replay_all spaces r bytes)
  pub notes : (r : Replaying) → Holds d st r → notes_of e ≡ notes_after spaces r (notes_of d) bytes
  -- words and numbers after those that are lent stay; the memory is as long as it was, and the state lies within it: so the next piece is not refused
  pub kept : TableKept (table_of d) (table_of e)
  pub pending_long : length e.pending ≡ length d.pending
  pub line_long : length e.line ≡ length d.line
  pub due_inside : su.due ≤ 2050
  pub due_counted : su.due ≤ 2050 * su.frames
  pub gathered_inside : su.gathered ≤ 32771
  pub counted : su.frames ≤ st.frames + length bytes
