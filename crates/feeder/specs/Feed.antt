-- Feeding a chunk: what the code does byte by byte, and what that is in document 02's terms.
use Rattle.std.specs.Prelude.{◌≡◌, List, [], ◌∷◌, Bool, true, false, cond, ◌&&◌, leb, length, take, set, ℕ, suc, ◌+◌, ◌≤◌, ◌<◌, ◌^◌, ◌-◌, min}
use Rattle.std.proofs.lemmas.List.Edits.{sets}
use Rattle.listing_rules.specs.Feeder.{Feeder, reading, in_literal, dropping, Event as Meant, quiet, handed, go_on, denied, fed_byte, feed_all}
use Rattle.octets.specs.declared.refusals.Refusal.TheVariants.{LineShape}
use Rattle.octets.specs.Refusals.{number_of}
use Rattle.command_shape.specs.declared.machine.Machine.{Machine}
use Rattle.command_shape.specs.declared.machine.Signal.{Signal}
use Rattle.command_shape.specs.declared.machine.Signal.TheVariants.{Quiet as quietly, GoOn as going_on, Whole, Refused as refusing}
use Rattle.feeder.specs.declared.Event.{Event}
use Rattle.feeder.specs.declared.Event.TheVariants.{Quiet, Command, GoOn, Refused, TooSmall}
use Rattle.feeder.specs.declared.Fed.{Fed}
use Rattle.command_shape.specs.Machine.{is_dropping, takes, step_is, machine_of}

-- ---- byte by byte

-- the memory with the byte at its place, where the command takes it
unfoldable pub stored_is : Machine → List ℕ → ℕ → List ℕ
stored_is m d c = cond (takes m c) (set d m.size c) d

-- the code's event of a byte, the command's byte of number `size`
unfoldable pub event_is : Signal → ℕ → Event
event_is quietly size = Quiet
event_is going_on size = GoOn
event_is Whole size = Command size
event_is refusing size = Refused LineShape

-- the place of the command's next byte, up to the largest number
unfoldable pub next_place : ℕ → ℕ
next_place n = min (n + 1) (2 ^ 64 - 1)

unfoldable pub answers : Machine → ℕ → Event → Fed
answers m used e = record { state = m; used = used; event = e }

-- the answer to one byte
unfoldable pub byte_is : Machine → ℕ → Fed
byte_is m c = answers (step_is m c).machine 1 (event_is (step_is m c).signal (next_place m.size))

-- The byte `c` was fed over the memory `d`, which leaves `e`; `r` is the answer.
pub record FedByte (m : Machine) (d e : List ℕ) (c : ℕ) (r : Fed) : Type 0 where
  pub answer : r ≡ byte_is m c
  pub bytes : e ≡ stored_is m d c

-- an answer, and the memory at its side
pub record Outcome : Type 0 where
  pub fed : Fed
  pub memory : List ℕ

unfoldable pub outcome : Machine → ℕ → Event → List ℕ → Outcome
outcome m used e d = record { fed = answers m used e; memory = d }

-- nothing came of a byte
unfoldable pub is_quiet : Event → Bool
is_quiet Quiet = true
is_quiet (Command n) = false
is_quiet GoOn = false
is_quiet (Refused e) = false
is_quiet TooSmall = false

-- the bytes of a chunk behind the first `used` ones, through the first that something comes of, or all
unfoldable pub feed_from : ℕ → Machine → List ℕ → List ℕ → Outcome
feed_from used m d [] = outcome m used Quiet d
feed_from used m d (c ∷ t) =
    let r = byte_is m c in
    let more = feed_from (used + 1) r.state (stored_is m d c) t in
    cond (is_quiet r.event) more (outcome r.state (used + 1) r.event (stored_is m d c))

-- where the next byte of a command is stored; dropped bytes are not, and then the next command begins at the front
unfoldable pub start_of : Machine → ℕ
start_of m = cond (is_dropping m.place) 0 m.size

-- those of the bytes so taken that are stored, one behind the other
unfoldable pub put_from : Machine → List ℕ → List ℕ
put_from m [] = []
put_from m (c ∷ t) =
    let r = byte_is m c in
    let more = put_from r.state t in
    let rest = cond (is_quiet r.event) more [] in
    cond (takes m c) (c ∷ rest) rest

-- ---- in document 02's terms

-- the command's bytes so far
unfoldable pub kept_of : Feeder → List ℕ
kept_of (reading kept line) = kept
kept_of (in_literal kept n) = kept
kept_of (dropping cr) = []

-- The memory `d` and the state `m` hold the feeder's state `s`.
abbrev pub Holds : List ℕ → Machine → Feeder → Type 0
Holds d m s = (m ≡ machine_of s) × (kept_of s ≡ take m.size d)

-- what comes of the bytes, over the memory
unfoldable pub events_of : List ℕ → Event → List Meant
events_of d Quiet = []
events_of d (Command n) = handed (take n d) ∷ []
events_of d GoOn = go_on ∷ []
events_of d (Refused e) = denied (number_of e) ∷ []
events_of d TooSmall = []

unfoldable pub nothing : Meant → Bool
nothing quiet = true
nothing (handed l) = false
nothing go_on = false
nothing (denied k) = false

-- how many bytes of a chunk are taken: those through the first that something comes of, or all
unfoldable pub through_event : Feeder → List ℕ → ℕ
through_event s [] = 0
through_event s (c ∷ t) =
    let r = fed_byte s c in
    let more = through_event r.state t in
    suc (cond (nothing r.event) more 0)

-- The answer `r` over the memory `e` is what comes of the first bytes of the chunk, from the state `s`.
pub record Means (s : Feeder) (chunk e : List ℕ) (r : Fed) : Type 0 where
  pub used : r.used ≡ through_event s chunk
  pub events : (feed_all s (take r.used chunk)).events ≡ events_of e r.event
  pub holds : Holds e r.state (feed_all s (take r.used chunk)).state

-- ---- the promise

-- the memory is lent 2,048 bytes, and the state fits it
unfoldable pub ready : ℕ → ℕ → Bool
ready room size = leb 2048 room && leb size 2048

-- The chunk was fed to the state `m` over the memory `d`, which leaves `e`; `r` is the answer.
pub record Feeds (m : Machine) (d e chunk : List ℕ) (r : Fed) : Type 0 where
  -- whatever is lent: the answer, and every byte
  pub answer : r ≡ cond (ready (length d) m.size) (feed_from 0 m d chunk).fed (answers m 0 TooSmall)
  pub bytes : e ≡ cond (ready (length d) m.size) (sets d (start_of m) (put_from m chunk)) d
  pub kept : length e ≡ length d
  -- no more bytes are taken than there are, and where there is one, one at least
  pub inside : r.used ≤ length chunk
  pub onward : ready (length d) m.size ≡ true → 0 < length chunk → 0 < r.used
  -- what it means, from any state of the feeder that is held
  pub means : ready (length d) m.size ≡ true → (s : Feeder) → Holds d m s → Means s chunk e r
  -- and the state fits again
  pub fits : ready (length d) m.size ≡ true → ready (length e) r.state.size ≡ true
