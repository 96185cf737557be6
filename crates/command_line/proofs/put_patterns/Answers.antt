-- `put_patterns`: the patterns of the command, as command_patterns puts them.
use Rattle.command_line.specs.Commands.{patterns_of}
use Rattle.command_line.proofs.put_patterns.Goals as goal

pub returns : goal.returns
unfolding patterns_of
returns c = c.put_patterns.ensures
