-- `server::replies::put_spaces` meets its contract: two writes, one after the other.
use Rattle.octets.proofs.Puts.{put_then}
use Rattle.namespace_list.proofs.Line.{answer_line_lem}
use Rattle.server.proofs.replies.put_spaces.Goals as goal

pub returns : goal.returns
returns c =
    rw (answer_line_lem _ _) (put_then c.put_namespaces-to.ensures c.put_ok_line.ensures)
