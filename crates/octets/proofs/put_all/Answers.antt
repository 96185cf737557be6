-- `octets::put_all` meets its contract: the bytes that lie in the buffer are stored one by one. By the laws of Puts.
use Rattle.listing_rules.proofs.Prelude.{◌∙◌, ◌≡◌, ap, refl, ◌-◌, arith, length, take, length-sets, rules}
use Rattle.octets.proofs.Puts.{sets_more, sets_part}
use Rattle.octets.proofs.put_all.Goals as goal

pub loop-i-init : goal.loop-i-init
loop-i-init c = (omega arith, c.room_for-n.ensures, refl)

pub bounds-buf-at : goal.bounds-buf-at
bounds-buf-at c = omega (arith, (let written-fact : length c.loop-i.buf ≡ length c.args.buf.now = ap length c.loop-i.invariant.2 ∙ length-sets _ _ (take c.loop-i.i _) in written-fact))

pub loop-i-preserved : goal.loop-i-preserved
loop-i-preserved c =
    let turn = c.loop-i in
    (omega arith, turn.invariant.1, rw turn.invariant.2 (sets_more _ _ _ turn.i (omega arith)))

pub shape_of-buf : goal.shape_of-buf
shape_of-buf c = (let written-fact : length c.loop-i.buf ≡ length c.args.buf.now = ap length c.loop-i.invariant.2 ∙ length-sets _ _ (take c.loop-i.i _) in written-fact)

pub returns : goal.returns
returns c =
    let turn = c.loop-i in
    let w : turn.i ≡ c.room_for-n.result = omega arith in
    record {
      fits = search rules;
      place = c.advance.ensures;
      bytes = turn.invariant.2 ∙ sets_part _ _ _ _ (w ∙ turn.invariant.1);
    }
