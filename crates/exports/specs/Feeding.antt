-- The feeder's state and its answer, in the forms that C takes.
use Rattle.std.specs.Prelude.{◌≡◌, Bool, cond, not, List, eqb, ℕ}
use Rattle.command_shape.specs.declared.machine.Tail.{Tail}
use Rattle.command_shape.specs.declared.machine.Tail.TheVariants.{Text, Cr, Open, Digits, Closed, Ending}
use Rattle.command_shape.specs.declared.machine.Place.{Place}
use Rattle.command_shape.specs.declared.machine.Place.TheVariants.{Line, Literal, Dropping}
use Rattle.command_shape.specs.declared.machine.Machine.{Machine}
use Rattle.feeder.specs.declared.Event.{Event}
use Rattle.feeder.specs.declared.Event.TheVariants.{Quiet, Command, GoOn, Refused, TooSmall}
use Rattle.feeder.specs.declared.Fed.{Fed}
use Rattle.feeder.specs.Feed.{Feeds}
use Rattle.octets.specs.Refusals.{number_of}
use Rattle.exports.specs.Outcomes.{as_number}
use Rattle.exports.specs.declared.feeding.FeederState.{FeederState}
use Rattle.exports.specs.declared.feeding.FedChunk.{FedChunk}
use Rattle.exports.specs.declared.feeding.PlaceNumbers.{PlaceNumbers}
use Rattle.exports.specs.declared.feeding.EventNumbers.{EventNumbers}

-- ---- the state

-- the place of a number, with the value beside it; a number that no place has stands for dropping
unfoldable pub place_of : ℕ → ℕ → Place
place_of k n =
    cond (eqb k 0) (Line Text)
    (cond (eqb k 1) (Line Cr)
    (cond (eqb k 2) (Line Open)
    (cond (eqb k 3) (Line (Digits n))
    (cond (eqb k 4) (Line (Closed n)) (cond (eqb k 5) (Line (Ending n)) (cond (eqb k 6) (Literal n) Dropping))))))

-- whether the last byte is CR: 0 is no, and every other number is yes; it is given back as 0 or 1
abbrev pub cr_of : ℕ → Bool
cr_of k = not (eqb k 0)

-- the state that C's stands for
unfoldable pub machine_of : FeederState → Machine
machine_of s = record { place = place_of s.place s.value; size = s.size; cr = cr_of s.cr }

-- the numbers of a place: its own, and the value beside it, 0 where it has none
abbrev pub tail_numbers : Tail → PlaceNumbers
tail_numbers Text = record { place = 0; value = 0 }
tail_numbers Cr = record { place = 1; value = 0 }
tail_numbers Open = record { place = 2; value = 0 }
tail_numbers (Digits n) = record { place = 3; value = n }
tail_numbers (Closed n) = record { place = 4; value = n }
tail_numbers (Ending n) = record { place = 5; value = n }

abbrev pub place_numbers : Place → PlaceNumbers
place_numbers (Line t) = tail_numbers t
place_numbers (Literal n) = record { place = 6; value = n }
place_numbers Dropping = record { place = 7; value = 0 }

-- C's state of a state
abbrev pub state_of : Machine → FeederState
state_of m = record { place = (place_numbers m.place).place; cr = as_number m.cr; value = (place_numbers m.place).value; size = m.size }

-- ---- the answer

-- the numbers of an event: its own, that of a refusal or 0, and the length of a whole command or 0
abbrev pub event_numbers : Event → EventNumbers
event_numbers Quiet = record { event = 0; number = 0; length = 0 }
event_numbers (Command n) = record { event = 1; number = 0; length = n }
event_numbers GoOn = record { event = 2; number = 0; length = 0 }
event_numbers (Refused e) = record { event = 3; number = number_of e; length = 0 }
event_numbers TooSmall = record { event = 4; number = 0; length = 0 }

-- C's answer of an answer
abbrev pub chunk_of : Fed → FedChunk
chunk_of r =
    let e = event_numbers r.event in
    record { event = e.event; number = e.number; length = e.length; used = r.used; state = state_of r.state }

-- The chunk was fed to C's state `s` over the memory `d`, which leaves `e`; `r` is C's answer.
pub record FeedsChunk (s : FeederState) (d e chunk : List ℕ) (r : FedChunk) : Type 0 where
  -- what `feeder::feed` answers, with its promise, in C's form
  pub fed : Fed
  pub promise : Feeds (machine_of s) d e chunk fed
  pub form : r ≡ chunk_of fed
  -- and the state that is given back stands for the state then
  pub back : machine_of r.state ≡ fed.state
