-- Room for what the walk makes before it sends it.
use Rattle.std.specs.Prelude.{ℕ}

-- a reference: a name of at most 255 bytes and "/"
abbrev pub reference_room : ℕ
reference_room = 256

-- a command with such a reference, which quotes may double
abbrev pub command_room : ℕ
command_room = 640
