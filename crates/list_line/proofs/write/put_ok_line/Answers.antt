-- `put_ok_line` meets its contract: two writes, one behind the other (`put_then`).
use Rattle.listing_rules.proofs.Keys.{open_bytes, open_lines}
use Rattle.octets.proofs.Puts.{put_then}
use Rattle.list_line.proofs.write.put_ok_line.Goals as goal

pub returns : goal.returns
unfolding open_bytes open_lines
returns c =
    put_then c.put_all-a.ensures c.put_all.ensures
