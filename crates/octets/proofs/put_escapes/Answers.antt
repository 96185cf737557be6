-- `octets::put_escapes` meets its contract: the bytes before i are written as they stand in quotes. By `Putting` of Puts and Escaping.
use Rattle.listing_rules.proofs.Prelude.{rules}
use Rattle.octets.proofs.Puts.{putting_none, putting_more, putting_all, put_length}
use Rattle.octets.proofs.Escaping.{escaped_at, escaped_end}
use Rattle.octets.proofs.put_escapes.Goals as goal

pub loop-b-init : goal.loop-b-init
loop-b-init c = putting_none _ _ _ (search rules) (search rules)

pub loop-b-preserved : goal.loop-b-preserved
loop-b-preserved c =
    putting_more c.loop-b.invariant (escaped_at _ _ c.loop-b-test.true) c.put_escape-to.ensures

pub shape_of-buf : goal.shape_of-buf
shape_of-buf c = put_length c.loop-b.invariant.put

pub returns : goal.returns
returns c = putting_all c.loop-b.invariant (escaped_end _ _ c.loop-b-test.false)
