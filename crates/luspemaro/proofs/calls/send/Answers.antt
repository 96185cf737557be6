-- `luspemaro::calls::send` meets its contract, and ends: each write takes a byte at least. The loop's invariant: the rest is what the
-- writes have left of the first bytes. Rests on CallLaws.
use Rattle.luspemaro.proofs.CallLaws.{leaves_less}
use Rattle.listing_rules.proofs.Prelude.{refl, sym, arith, length-take-le}
use Rattle.luspemaro.proofs.calls.send.Goals as goal

pub slice_bounds-rest-end : goal.slice_bounds-rest-end
slice_bounds-rest-end c = sym (length-take-le _ _ c.requires)

pub loop-rest-init : goal.loop-rest-init
loop-rest-init c = (0, (omega arith, refl))

pub loop-rest-preserved : goal.loop-rest-preserved
loop-rest-preserved c =
    leaves_less {left = c.in-Ok.left.now} c.loop-rest.invariant c.in-Ok.ensures.0

pub returns : goal.returns
returns c = (omega arith, λ e. refl)
