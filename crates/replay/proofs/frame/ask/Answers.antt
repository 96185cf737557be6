-- `replay::frame::ask` meets its contract: the command that was read, and the state that counts it.
use Rattle.replay.proofs.FrameLaws.{asks_by}
use Rattle.replay.proofs.frame.ask.Goals as goal

pub returns : goal.returns
returns c =
    asks_by c.read_command.ensures c.unwrap_or-n.ensures c.counted.ensures
