-- What holds at each turn of a loop of `is_one_command`.
use Rattle.command_shape.proofs.Shapes.{Shaped}
use Rattle.command_shape.proofs.is_one_command.Given as goal

abbrev pub invariant-loop-i : goal.invariant-loop-i
invariant-loop-i l = Shaped l.line l.i l.machine
