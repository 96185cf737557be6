-- The shape of a line, one byte at a time: which bytes may stand there, and what each does.
use Rattle.std.specs.Prelude.{Bool, true, cond, ◌||◌, ℕ, eqb}
use Rattle.listing_rules.specs.Tokens.{line_byte}
use Rattle.command_shape.specs.declared.machine.Place.{Place}
use Rattle.command_shape.specs.declared.machine.Place.TheVariants.{Line, Literal, Dropping}
use Rattle.command_shape.specs.declared.machine.Machine.{Machine}
use Rattle.command_shape.specs.declared.machine.Signal.{Signal}
use Rattle.command_shape.specs.declared.machine.Signal.TheVariants.{Quiet, GoOn, Whole, Refused}
use Rattle.command_shape.specs.declared.shaping.Shaping.{Shaping}
use Rattle.command_shape.specs.declared.shaping.Shaping.TheVariants.{Bad, Last, Further}
use Rattle.command_shape.specs.Machine.{at_cr, step_is}

-- in a literal any byte; else LF after CR, and anywhere else a line byte or CR
unfoldable pub allowed_at : Place → ℕ → Bool
allowed_at (Line t) c = cond (at_cr t) (eqb c 10) (line_byte c || eqb c 13)
allowed_at (Literal n) c = true
allowed_at Dropping c = true

unfoldable pub allowed_by : Machine → ℕ → Bool
allowed_by m c = allowed_at m.place c

-- what the machine's word for the byte is to the line
unfoldable pub shaping_as : Signal → Machine → Shaping
shaping_as Quiet m = Further m
shaping_as GoOn m = Further m
shaping_as Whole m = Last
shaping_as Refused m = Bad

unfoldable pub shape_step : Machine → ℕ → Shaping
shape_step m c = cond (allowed_by m c) (shaping_as (step_is m c).signal (step_is m c).machine) Bad
