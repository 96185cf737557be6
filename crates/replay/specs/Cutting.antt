-- A log fed in pieces: a run of calls of `feed`. That no cut makes a difference to the verdict and to the table is proved in proofs/Cut.antt.
use Rattle.std.specs.Prelude.{Some}
use Rattle.std.specs.Prelude.{◌≡◌, List, [], ◌∷◌, map, take, ℕ}
use Rattle.replay.specs.declared.Replaying.{Replaying as State}
use Rattle.replay.specs.Holding.{Memory, table_in}
use Rattle.replay.specs.Feeding.{FeedIs}

-- One call of `feed` that was taken: the piece, the memory before and after, and the state that it gave.
pub record Call : Type 0 where
  pub chunk : List ℕ
  pub before : Memory
  pub after : Memory
  pub state : State

-- The memory that was `d` is lent again as `e`: the table, the command whose answer is due and the frame so far are those that were left. All else may
-- have changed.
pub record LentAgain (st : State) (d e : Memory) : Type 0 where
  pub table : table_in e st.rows ≡ table_in d st.rows
  pub pending : take st.due e.pending ≡ take st.due d.pending
  pub line : take st.gathered e.line ≡ take st.gathered d.line

-- The calls follow each other from the state `st` and the memory `d`: each gets the state of the one before, and is lent what that one left.
abbrev pub Calls : List ℕ → State → Memory → List Call → Type 0
Calls spaces st d [] = Unit
Calls spaces st d (x ∷ xs) =
    LentAgain st d x.before
    × FeedIs spaces x.chunk x.before x.after st (Some x.state)
    × Calls spaces x.state x.after xs

-- the pieces, and the state and the memory after the last of them
abbrev pub chunks_of : List Call → List (List ℕ)
chunks_of xs = map (λ (x : Call). x.chunk) xs

unfoldable pub state_after : State → List Call → State
state_after st [] = st
state_after st (x ∷ xs) = state_after x.state xs

unfoldable pub memory_after : Memory → List Call → Memory
memory_after d [] = d
memory_after d (x ∷ xs) = memory_after x.after xs
