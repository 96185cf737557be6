-- `put_name`: the bytes of the name's span, as command_tokens puts them.
use Rattle.command_line.specs.Commands.{name_of}
use Rattle.command_line.proofs.put_name.Goals as goal

pub returns : goal.returns
unfolding name_of
returns c = c.put_span.ensures
