-- `put_line` meets its contract: five writes, one behind the other (`put_then`).
use Rattle.listing_rules.proofs.Keys.{open_bytes}
use Rattle.listing_rules.specs.Lines.{word_line}
use Rattle.octets.proofs.Puts.{put_then}
use Rattle.list_line.proofs.write.put_line.Goals as goal

pub returns : goal.returns
unfolding open_bytes word_line
returns c = rw (← c.start.ensures)
    (put_then c.put_all-a.ensures (put_then c.put_attributes-b.ensures
    (put_then c.put_all-c.ensures (put_then c.put_quoted-d.ensures c.put_line_end.ensures))))
