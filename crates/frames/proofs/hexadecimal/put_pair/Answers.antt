-- `frames::hexadecimal::put_pair` meets its contract: two writes, one after the other. Rests on octets' Puts.
use Rattle.listing_rules.specs.Frames.{hex}
use Rattle.octets.proofs.Puts.{put_then}
use Rattle.frames.proofs.hexadecimal.put_pair.Goals as goal

pub returns : goal.returns
unfolding hex
returns c =
    rw (← c.hex_digit.ensures, ← c.hex_digit-2.ensures) (put_then c.put-to.ensures c.put.ensures)
