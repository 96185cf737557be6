-- `put_below` meets its contract: two writes, one after the other (`put_then`).
use Rattle.listing_rules.specs.Bytes.{slash}
use Rattle.octets.proofs.Puts.{put_then}
use Rattle.collector.proofs.command.put_below.Goals as goal

pub returns : goal.returns
unfolding slash
returns c =
    put_then c.put_all-a.ensures c.put.ensures
