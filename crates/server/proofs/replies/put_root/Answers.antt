-- `server::replies::put_root` meets its contract: two writes, one after the other.
use Rattle.octets.proofs.Puts.{put_then}
use Rattle.server.proofs.replies.put_root.Goals as goal

pub returns : goal.returns
returns c =
    put_then c.put_root_line-to.ensures c.put_ok_line.ensures
