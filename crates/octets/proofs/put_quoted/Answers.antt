-- `octets::put_quoted` meets its contract: three writes, which join by `put_then`.
use Rattle.listing_rules.specs.Bytes.{quote}
use Rattle.listing_rules.specs.Lines.{quoted}
use Rattle.octets.proofs.Puts.{put_then}
use Rattle.octets.proofs.put_quoted.Goals as goal

pub returns : goal.returns
unfolding quoted quote
returns c =
    put_then (put_then c.put-a.ensures c.put_escaped-b.ensures) c.put.ensures
