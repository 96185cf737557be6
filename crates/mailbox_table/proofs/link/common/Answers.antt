-- `mailbox_table::link::common` meets its contract: i bytes are alike, and what the rests share is added. By SharedLaws.
use Rattle.listing_rules.proofs.Prelude.{◌∙◌, ◌≡◌, sym, zero-add, arith}
use Rattle.mailbox_table.proofs.SharedLaws.{shared_more, shared_stop, shared_out, least}
use Rattle.mailbox_table.proofs.link.common.Goals as goal

pub loop-i-init : goal.loop-i-init
loop-i-init c = (omega arith, zero-add _)

pub returns-then-a-i : goal.returns-then-a-i
returns-then-a-i c =
    let a = c.args.a.now in
    let b = c.args.b.now in
    sym (shared_stop a b _ (omega (arith, c.min-n.ensures)) (omega (arith, c.min-n.ensures)) c.if-a-i.true) ∙ c.loop-i.invariant.1

pub loop-i-preserved : goal.loop-i-preserved
loop-i-preserved c =
    let a = c.args.a.now in
    let b = c.args.b.now in
    (omega arith, sym (shared_more a b _ (omega (arith, c.min-n.ensures)) (omega (arith, c.min-n.ensures)) c.if-a-i.false) ∙ c.loop-i.invariant.1)

pub returns : goal.returns
returns c =
    let a = c.args.a.now in
    let b = c.args.b.now in
    let end : c.min-n.result ≡ c.loop-i.i = omega (arith, c.loop-i.invariant.0, c.loop-i-test.false) in
    end ∙ sym (shared_out a b _ (least a b _ (omega (arith, c.min-n.ensures, c.loop-i-test.false)))) ∙ c.loop-i.invariant.1
