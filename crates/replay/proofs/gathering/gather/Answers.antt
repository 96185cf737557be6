-- `replay::gathering::gather` meets its contract: what is kept of the characters is put after the others. By GatherLaws.
use Rattle.listing_rules.proofs.Prelude.{arith, length-take}
use Rattle.replay.proofs.GatherLaws.{gathered_by}
use Rattle.replay.proofs.gathering.gather.Goals as goal

pub slice_bounds-put_all-end : goal.slice_bounds-put_all-end
slice_bounds-put_all-end c = simp length-take (omega (arith, c.least-n.ensures))

pub returns : goal.returns
returns c =
    gathered_by _ _ _ _ _ c.requires c.least-n.ensures c.put_all.ensures.bytes
