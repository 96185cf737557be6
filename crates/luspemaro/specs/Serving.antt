-- What the program promises of the bytes that it reads: the memory holds what document 01 says of them, the output their answers, and what
-- is sent from the first read to the end of the input is the program's output (`Ran`).
use Rattle.std.specs.Prelude.{◌≡◌, ◌⊎◌, List, [], ◌∷◌, ◌++◌, Bool, true, false, not, cond, eqb, length, take, ℕ, ◌+◌, ◌-◌, ◌^◌, ◌≤◌, ◌<◌, min}
use Rattle.listing_rules.specs.Frames.{Session, Fed, start, fed_all, at_end, program_output}
use Rattle.session.specs.declared.State.{State}
use Rattle.kept_table.specs.Kept.{Lent}
use Rattle.session.specs.Feeding.{start_is, ready_in, Holds}
use Rattle.luspemaro.specs.Calling.{Sent, sent_bytes, is_whole}
use Rattle.luspemaro.specs.declared.feeding.Turn.{Turn}
use Rattle.luspemaro.specs.declared.serving.Place.{Place}
use Rattle.luspemaro.specs.declared.serving.Round.{Round}

abbrev pub turn_is : State → ℕ → ℕ → ℕ → Turn
turn_is state used frames written = record { state = state; used = used; frames = frames; written = written }

abbrev pub place_made : State → ℕ → Bool → Bool → Place
place_made state frames more failed = record { state = state; frames = frames; more = more; failed = failed }

-- the memory is lent in document 01's sizes, with numbers for 512 records and their summary, and the output can take a line
pub record Sized (d : Lent) (line : List ℕ) : Type 0 where
  pub table : 16384 ≤ length d.table
  pub records : 1024 ≤ length d.records
  pub namespaces : 1024 ≤ length d.namespaces
  pub digits : 4102 ≤ length line
  pub out : 32771 ≤ length d.out

-- "one frame a line ending in LF": how many frames a byte ends, and how many end in some bytes
abbrev pub ends_frame : ℕ → ℕ
ends_frame c = cond (eqb c 10) 1 0

unfoldable pub frames_in : List ℕ → ℕ
frames_in [] = 0
frames_in (c ∷ t) = ends_frame c + frames_in t

-- What some bytes come to, `f`, is what the memory came to: it holds the session after them, and their answers are the first `n` bytes
-- of the output.
pub record Answered (f : Fed) (e : Lent) (line : List ℕ) (st : State) (n : ℕ) : Type 0 where
  pub holds : Holds e line st f.session
  pub answers : take n e.out ≡ f.output
  pub count : n ≡ length f.output

-- The first `used` bytes were fed to the memory that was `d` and `line`, and is `e` and `line'`: whatever session it held, it came to
-- what document 01 says of these bytes.
pub record Turns (bytes : List ℕ) (d e : Lent) (line line' : List ℕ) (st : State) (r : Turn) : Type 0 where
  pub inside : r.used ≤ length bytes
  pub came : (s : Session) → Holds d line st s → Answered (fed_all s (take r.used bytes)) e line' r.state r.written
  pub room : r.written ≤ length e.out
  pub frames : r.frames ≡ frames_in (take r.used bytes)
  -- bytes are left only where the output has no room for the longest line; some are taken if there are any
  pub stops : (r.used ≡ length bytes) ⊎ (length e.out < r.written + 32771)
  pub onward : 0 < length bytes → 0 < r.used
  pub ready_on : ready_in e line' r.state ≡ true

-- The same, and the answers were handed to the system: as many bytes as it took, all of them if it says so.
pub record Rounds (bytes : List ℕ) (d e : Lent) (line line' : List ℕ) (st : State) (r : Round) : Type 0 where
  pub inside : r.used ≤ length bytes
  pub holds : (s : Session) → Holds d line st s → Holds e line' r.state (fed_all s (take r.used bytes)).session
  pub sent :
      is_whole r.sent ≡ true
      → (s : Session) → Holds d line st s → take (sent_bytes r.sent) e.out ≡ (fed_all s (take r.used bytes)).output
  pub frames : r.frames ≡ frames_in (take r.used bytes)
  pub onward : 0 < length bytes → 0 < r.used
  pub ready_on : ready_in e line' r.state ≡ true

-- The memory between two parts of the input: what is lent, the line and the state.
pub record Memory : Type 0 where
  pub areas : Lent
  pub line : List ℕ
  pub state : State

abbrev pub memory : Lent → List ℕ → State → Memory
memory d line st = record { areas = d; line = line; state = st }

abbrev pub HoldsIn : Memory → Session → Type 0
HoldsIn m s = Holds m.areas m.line m.state s

-- One part of the input: its bytes, the memory that they left, and what came of sending their answers.
pub record Part : Type 0 where
  pub bytes : List ℕ
  pub left : Memory
  pub sent : Sent

-- what was sent of a part: the first bytes of the output
abbrev pub sent_of : Part → List ℕ
sent_of x = take (sent_bytes x.sent) x.left.areas.out

-- The part was answered over the memory `m`: whatever session that held, it holds the one after the part's bytes then, and their answers
-- were sent whole.
pub record Answers (m : Memory) (x : Part) : Type 0 where
  pub holds : (s : Session) → HoldsIn m s → HoldsIn x.left (fed_all s x.bytes).session
  pub says : (s : Session) → HoldsIn m s → sent_of x ≡ (fed_all s x.bytes).output
  pub whole : is_whole x.sent ≡ true

-- Parts answered one after the other, the newest first: the memory after them, and that each was answered over what the one before left.
abbrev pub left_by : Memory → List Part → Memory
left_by m [] = m
left_by m (x ∷ xs) = x.left

abbrev pub InTurn : Memory → List Part → Type 0
InTurn m [] = Unit
InTurn m (x ∷ xs) = InTurn m xs × Answers (left_by m xs) x

-- the bytes of the parts, and what was sent of them, in the order of the input
unfoldable pub input_of : List Part → List ℕ
input_of [] = []
input_of (x ∷ xs) = input_of xs ++ x.bytes

unfoldable pub all_sent : List Part → List ℕ
all_sent [] = []
all_sent (x ∷ xs) = all_sent xs ++ sent_of x

-- The bytes were answered part by part, from the memory `m` to the memory `n`.
pub record Through (bytes : List ℕ) (m n : Memory) : Type 0 where
  pub parts : List Part
  pub in_turn : InTurn m parts
  pub left : left_by m parts ≡ n
  pub input : input_of parts ≡ bytes

-- All the bytes of a read were answered, and the program reads on; or a call failed, and it does not.
pub record Serves (bytes : List ℕ) (d e : Lent) (line line' : List ℕ) (p r : Place) : Type 0 where
  pub answers : r.failed ≡ false → Through bytes (memory d line p.state) (memory e line' r.state)
  pub frames : r.failed ≡ false → r.frames ≡ min (p.frames + frames_in bytes) (2 ^ 64 - 1)
  pub onward : r.more ≡ not r.failed
  pub ready_on : ready_in e line' r.state ≡ true

-- The end of the input was answered in the output that is `p` now: it begins with what document 01 has the end say, and the system
-- took that.
abbrev pub Ends : List ℕ → State → Sent → Type 0
Ends p st r =
    is_whole r ≡ true → (d : Lent) (line : List ℕ) (s : Session) → Holds d line st s → take (sent_bytes r) p ≡ at_end s

-- The input ended over the memory `m`, which is `n` now: it holds the same session, and what that has the end say was sent whole.
pub record Finished (m n : Memory) : Type 0 where
  pub sent : Sent
  pub holds : (s : Session) → HoldsIn m s → HoldsIn n s
  pub says : (s : Session) → HoldsIn m s → take (sent_bytes sent) n.areas.out ≡ at_end s
  pub whole : is_whole sent ≡ true

-- One read. The program reads on only after bytes, one at least, that were all answered; without a failure it stops reading only at the
-- end of the input, which was answered.
pub record ReadsOn (d e : Lent) (line line' : List ℕ) (p r : Place) : Type 0 where
  pub reads : r.more ≡ true → (bytes : List ℕ) × ((0 < length bytes) × Serves bytes d e line line' p r)
  pub ends : r.more ≡ false → r.failed ≡ false → Finished (memory d line p.state) (memory e line' r.state)
  pub ready_on : ready_in e line' r.state ≡ true

-- The whole run, from the memory `m`, unless a call failed: parts of some input were answered one after the other, then its end. What
-- was sent, joined, is what document 01 has the program answer to that input. Only an input of 2 ^ 64 - 1 bytes or more may not be
-- read to its end.
pub record Ran (m n : Memory) (more : Bool) : Type 0 where
  pub parts : List Part
  pub in_turn : InTurn m parts
  pub holds : HoldsIn n (fed_all start (input_of parts)).session
  pub end :
      more ≡ false
      → (sent : Sent) × ((is_whole sent ≡ true) × (all_sent parts ++ take (sent_bytes sent) n.areas.out ≡ program_output (input_of parts)))
  pub long : more ≡ true → 2 ^ 64 - 1 ≤ length (input_of parts)

abbrev pub Runs : Lent → Lent → List ℕ → List ℕ → Place → Type 0
Runs d e line line' r = r.failed ≡ false → Ran (memory d line start_is) (memory e line' r.state) r.more
