-- A piece of a log from a state on: each piece is one equation.
use Rattle.std.specs.Prelude.{◌≡◌, List, Bool, true, false, cond, length, take, ℕ, suc, min}
use Rattle.std.specs.Prelude.{Option as Maybe, Some, None}
use Rattle.std.proofs.Math.Option.{Option, none, some}
use Rattle.listing_rules.specs.Summary.{Summed}
use Rattle.listing_rules.specs.Replay.{Verdict as Meant, all_agree, Due, command_due, answer_due, Replaying, replay_all, replay_end}
use Rattle.replay.specs.declared.Replaying.{Replaying as State}
use Rattle.replay.specs.declared.piece.Piece.{Piece}
use Rattle.replay.specs.declared.verdict.Verdict.{Verdict}
use Rattle.replay.specs.declared.verdict.Verdict.TheVariants.{Agrees}
use Rattle.replay.specs.Holding.{Memory, table_of, table_in, first_as, due_as, stop_as, notes_after}
use Rattle.replay.specs.Running.{TableKept}
use Rattle.replay.specs.Feeding.{ready}
use Rattle.replay.specs.Reports.{verdict_is}

-- the number of the first frame that differs, 0 for none
unfoldable pub first_number : Option ℕ → ℕ
first_number none = 0
first_number (some k) = k

-- the bytes of the command whose answer is due, its reader first
unfoldable pub due_length : Due → ℕ
due_length command_due = 0
due_length (answer_due reader l) = suc (length l)

unfoldable pub has_stopped : Option ℕ → Bool
has_stopped none = false
has_stopped (some k) = true

-- the state of a replay between two pieces
unfoldable pub state_of : Replaying → State
state_of r =
    record {
      frames = r.frames;
      first = first_number r.first;
      due = due_length r.due;
      stopped = has_stopped r.stop;
      gathered = min 32771 (length r.partial);
      rows = r.left.store.count;
    }

-- the replay that goes on from a state, with the command whose answer is due and the frame so far in lent memory, over the table m
unfoldable pub resumed : Summed → State → List ℕ → List ℕ → Replaying
resumed m st pending line =
    record {
      frames = st.frames;
      due = due_as (take st.due pending);
      first = first_as st.first;
      stop = stop_as st.stopped st.frames;
      left = m;
      partial = take st.gathered line;
    }

-- What comes of a piece: whether it is taken, the verdict if the log ends with it, the table, the state, the command due and the frame so far.
pub record Pieced : Type 0 where
  pub taken : Bool
  pub verdict : Meant
  pub left : Summed
  pub state : State
  pub pending : List ℕ
  pub line : List ℕ

-- It is taken where memory and state are ready for it; else all is left as it is.
unfoldable pub pieced : Summed → List ℕ → State → List ℕ → List ℕ → List ℕ → Pieced
pieced m spaces st pending line piece =
    let r = resumed m st pending line in
    let next = replay_all spaces r piece in
    let notes = notes_after spaces r (record { pending = pending; line = line }) piece in
    cond (ready (length pending) (length line) (length piece) st)
    (record {
      taken = true;
      verdict = (replay_end next).verdict;
      left = next.left;
      state = state_of next;
      pending = notes.pending;
      line = notes.line;
    })
    (record { taken = false; verdict = all_agree; left = m; state = st; pending = pending; line = line })

-- what comes of a piece over the lent memory
abbrev pub pieced_in : Memory → List ℕ → State → List ℕ → Pieced
pieced_in d spaces st piece = pieced (table_in d st.rows) spaces st d.pending d.line piece

-- what the code's answer says: whether the piece was taken, the verdict, and the state, which stays where the piece is not taken
unfoldable pub is_taken : Maybe Piece → Bool
is_taken None = false
is_taken (Some p) = true

unfoldable pub verdict_then : Maybe Piece → Verdict
verdict_then None = Agrees
verdict_then (Some p) = p.verdict

unfoldable pub state_then : State → Maybe Piece → State
state_then st None = st
state_then st (Some p) = p.state

-- What `replay_piece` promises, over the memory that was `d` and is `e`, from the state `st` on.
pub record Resumes (spaces piece : List ℕ) (d e : Memory) (st : State) (r : Maybe Piece) : Type 0 where
  pub taken : is_taken r ≡ (pieced_in d spaces st piece).taken
  pub verdict : verdict_then r ≡ verdict_is (pieced_in d spaces st piece).verdict
  pub state : state_then st r ≡ (pieced_in d spaces st piece).state
  pub left : table_in e (state_then st r).rows ≡ (pieced_in d spaces st piece).left
  pub pending : e.pending ≡ (pieced_in d spaces st piece).pending
  pub line : e.line ≡ (pieced_in d spaces st piece).line
  -- what lies after the records that are lent
  pub kept : TableKept (table_of d) (table_of e)
