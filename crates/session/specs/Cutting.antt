-- Input fed in pieces, and a run of calls of `feed` over a whole input, cut anywhere. That no cut makes a difference to the answers is
-- proved in proofs/Cut.antt.
use Rattle.std.specs.Prelude.{Option, Some, None}
use Rattle.std.specs.Prelude.{◌≡◌, List, [], ◌∷◌, ◌++◌, take, drop, ℕ}
use Rattle.listing_rules.specs.Frames.{Session, Fed, behind, fed_all}
use Rattle.session.specs.declared.State.{State}
use Rattle.session.specs.declared.Taken.{Taken as Took}
use Rattle.kept_table.specs.Kept.{Lent, kept_in}
use Rattle.session.specs.Feeding.{FeedIs}

-- Pieces of input fed one after the other, each to the session that the one before left; their answers joined.
unfoldable pub feedings : Session → List (List ℕ) → Fed
feedings s [] = record { session = s; output = [] }
feedings s (p ∷ ps) = let f = fed_all s p in behind f.output (feedings f.session ps)

-- One call of `feed` that was taken: the piece of input, the memory before and after, and the answer.
pub record Call : Type 0 where
  pub chunk : List ℕ
  pub before : Lent
  pub line : List ℕ
  pub after : Lent
  pub line' : List ℕ
  pub answer : Took

-- so many characters are gathered; of an overlong frame none is kept
abbrev pub held_len : Option ℕ → ℕ
held_len None = 0
held_len (Some n) = n

-- The memory that was `d` and `line` is lent again as `e` and `line'`: what is stored and the characters of the frame so far are those
-- that were left. All else may have changed.
pub record LentAgain (st : State) (d e : Lent) (line line' : List ℕ) : Type 0 where
  pub table : kept_in e st.stored ≡ kept_in d st.stored
  pub namespaces : take st.stored.namespaces e.namespaces ≡ take st.stored.namespaces d.namespaces
  pub frame : take (held_len st.gathered.len) line' ≡ take (held_len st.gathered.len) line

-- The calls follow each other from the state `st` and the memory `d` and `line`: each gets the state of the one before, and is lent
-- what that one left.
abbrev pub Calls : State → Lent → List ℕ → List Call → Type 0
Calls st d line [] = Unit
Calls st d line (x ∷ xs) =
    LentAgain st d x.before line x.line
    × FeedIs x.chunk x.before x.after x.line x.line' st (Some x.answer)
    × Calls x.answer.state x.after x.line' xs

-- The calls go through the input: each is given a front piece of what is left, of any length, zero too, and what it takes is left out
-- then; at the end nothing is left.
abbrev pub Through : List ℕ → List Call → Type 0
Through input [] = input ≡ []
Through input (x ∷ xs) = ((rest : List ℕ) × (input ≡ x.chunk ++ rest)) × Through (drop x.answer.used input) xs

-- the lines that the calls hand out, joined: of each the first bytes of its output
unfoldable pub said_by : List Call → List ℕ
said_by [] = []
said_by (x ∷ xs) = take x.answer.written x.after.out ++ said_by xs

-- the state after the last call
unfoldable pub state_after : State → List Call → State
state_after st [] = st
state_after st (x ∷ xs) = state_after x.answer.state xs
