-- `frames::answers::put_refusal` meets its contract: writes, one after the other. Rests on octets' Puts.
use Rattle.listing_rules.specs.Frames.{hex, answer_line, refusal_line}
use Rattle.octets.proofs.Puts.{put_then}
use Rattle.frames.proofs.answers.put_refusal.Goals as goal

pub returns : goal.returns
unfolding hex answer_line refusal_line
returns c =
    put_then (put_then c.put_pair-a.ensures c.put_pair-b.ensures) c.put.ensures
