-- `frames::answers::put_walk` meets its contract: writes, one after the other. Rests on octets' Puts.
use Rattle.listing_rules.specs.Frames.{hex, answer_line}
use Rattle.octets.proofs.Puts.{put_then}
use Rattle.frames.proofs.answers.put_walk.Goals as goal

pub returns : goal.returns
unfolding hex answer_line
returns c =
    put_then (put_then (put_then (put_then c.put_pair-a.ensures c.put_pair-b.ensures) c.put_pair-c.ensures) c.put_hex-d.ensures) c.put.ensures
