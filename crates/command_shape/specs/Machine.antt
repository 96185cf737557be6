-- The state between two bytes, without the command's bytes: what a byte makes of it, and which state of the feeder it stands for.
use Rattle.std.specs.Prelude.{List, [], ◌∷◌, Bool, true, false, cond, not, ◌&&◌, ◌||◌, eqb, leb, length, ℕ, ◌+◌, ◌-◌, ◌*◌, min}
use Rattle.listing_rules.specs.Tokens.{digit_byte}
use Rattle.listing_rules.specs.Feeder.{Feeder, reading, in_literal, dropping, last_is, Event, quiet, handed, go_on, denied, AfterByte}
use Rattle.command_shape.specs.declared.machine.Tail.{Tail}
use Rattle.command_shape.specs.declared.machine.Tail.TheVariants.{Text, Cr, Open, Digits, Closed, Ending}
use Rattle.command_shape.specs.declared.machine.Place.{Place}
use Rattle.command_shape.specs.declared.machine.Place.TheVariants.{Line, Literal, Dropping}
use Rattle.command_shape.specs.declared.machine.Machine.{Machine}
use Rattle.command_shape.specs.declared.machine.Signal.{Signal}
use Rattle.command_shape.specs.declared.machine.Signal.TheVariants.{Quiet, GoOn, Whole, Refused}
use Rattle.command_shape.specs.declared.machine.Stepped.{Stepped}

-- ---- the end of a line

-- a number with a digit more, as far as it matters: all above 1,024 are alike
abbrev pub with_digit : ℕ → ℕ → ℕ
with_digit n d = min (10 * n + (d - 48)) 1025

-- the line's last byte is CR
abbrev pub at_cr : Tail → Bool
at_cr Text = false
at_cr Cr = true
at_cr Open = false
at_cr (Digits n) = false
at_cr (Closed n) = false
at_cr (Ending n) = true

-- with a byte more that belongs to no header
unfoldable pub plain_is : ℕ → Tail
plain_is c = cond (eqb c 13) Cr Text

-- with a byte other than "{" more
unfoldable pub tail_as : Tail → ℕ → Tail
tail_as Text c = plain_is c
tail_as Cr c = plain_is c
tail_as Open c = cond (digit_byte c) (Digits (with_digit 0 c)) (plain_is c)
tail_as (Digits n) c = cond (digit_byte c) (Digits (with_digit n c)) (cond (eqb c 125) (Closed n) (plain_is c))
tail_as (Closed n) c = cond (eqb c 13) (Ending n) (plain_is c)
tail_as (Ending n) c = plain_is c

-- with any byte more, which does not end the line
unfoldable pub tail_is : Tail → ℕ → Tail
tail_is t c = cond (eqb c 123) Open (tail_as t c)

-- the bytes of a line one after the other
unfoldable pub tail_from : Tail → List ℕ → Tail
tail_from t [] = t
tail_from t (c ∷ l) = tail_from (tail_is t c) l

-- ---- one byte

-- before the first byte of a command
abbrev pub first_is : Machine
first_is = record { place = Line Text; size = 0; cr = false }

abbrev pub steps : Machine → Signal → Stepped
steps m s = record { machine = m; signal = s }

-- the state at a place, after the byte c as the command's byte of number `size`
abbrev pub standing : Place → ℕ → ℕ → Machine
standing p size c = record { place = p; size = size; cr = eqb c 13 }

-- n bytes of a literal are to come
unfoldable pub awaiting_is : ℕ → Place
awaiting_is n = cond (eqb n 0) (Line Text) (Literal n)

abbrev pub literal_is : ℕ → ℕ → ℕ → Stepped
literal_is n size c = steps (standing (awaiting_is (n - 1)) size c) Quiet

-- the LF of a line that announces n bytes
unfoldable pub announced_is : ℕ → ℕ → Stepped
announced_is n size = cond (leb n 1024) (steps (standing (awaiting_is n) size 10) GoOn) (steps first_is Refused)

-- a byte that does not end the line
abbrev pub text_is : Tail → ℕ → ℕ → Stepped
text_is t size c = steps (standing (Line (tail_is t c)) size c) Quiet

-- a byte of a line: LF after CR ends it, and a command with it, or a header
unfoldable pub line_is : Tail → ℕ → ℕ → Stepped
line_is Text size c = text_is Text size c
line_is Cr size c = cond (eqb c 10) (steps first_is Whole) (text_is Cr size c)
line_is Open size c = text_is Open size c
line_is (Digits n) size c = text_is (Digits n) size c
line_is (Closed n) size c = text_is (Closed n) size c
line_is (Ending n) size c = cond (eqb c 10) (announced_is n size) (text_is (Ending n) size c)

unfoldable pub dropped_is : Bool → ℕ → Machine
dropped_is cr c = cond (cr && eqb c 10) first_is (record { place = Dropping; size = 0; cr = eqb c 13 })

abbrev pub refused_is : Bool → ℕ → Stepped
refused_is cr c = steps (dropped_is cr c) Refused

-- bytes are dropped
abbrev pub is_dropping : Place → Bool
is_dropping (Line t) = false
is_dropping (Literal n) = false
is_dropping Dropping = true

-- the byte c as the command's byte after `size` others is refused
abbrev pub offending : ℕ → ℕ → Bool
offending size c = leb 2048 size || eqb c 0

-- the command takes the byte
abbrev pub takes : Machine → ℕ → Bool
takes m c = not (is_dropping m.place) && not (offending m.size c)

unfoldable pub step_at : Place → ℕ → Bool → ℕ → Stepped
step_at (Line t) size cr c = cond (offending size c) (refused_is cr c) (line_is t (size + 1) c)
step_at (Literal n) size cr c = cond (offending size c) (refused_is cr c) (literal_is n (size + 1) c)
step_at Dropping size cr c = steps (dropped_is cr c) Quiet

-- one byte more
abbrev pub step_is : Machine → ℕ → Stepped
step_is m c = step_at m.place m.size m.cr c

-- ---- in document 02's terms

-- the code's state of a state of the feeder
unfoldable pub machine_of : Feeder → Machine
machine_of (reading kept line) = record { place = Line (tail_from Text line); size = length kept; cr = last_is 13 kept }
machine_of (in_literal kept n) = record { place = Literal n; size = length kept; cr = last_is 13 kept }
machine_of (dropping cr) = record { place = Dropping; size = 0; cr = cr }

-- the code's word for what comes of a byte
unfoldable pub signal_of : Event → Signal
signal_of quiet = Quiet
signal_of (handed l) = Whole
signal_of go_on = GoOn
signal_of (denied k) = Refused

-- the code's step of a step of the feeder
abbrev pub stepped_of : AfterByte → Stepped
stepped_of s = steps (machine_of s.state) (signal_of s.event)
