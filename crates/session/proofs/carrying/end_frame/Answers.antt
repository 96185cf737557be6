-- `session::carrying::end_frame` meets its contract: the frame that was read is carried out, or 13 is said. Rests on CarryLaws.
use Rattle.listing_rules.proofs.Prelude.{◌∙◌, ap, refl, ℕ, arith, length, length-replicate}
use Rattle.kept_table.specs.Kept.{Lent, lent}
use Rattle.session.proofs.CarryLaws.{kind_bad, ended}
use Rattle.session.proofs.carrying.end_frame.Goals as goal

pub returns-in-Some : goal.returns-in-Some
returns-in-Some c =
    let sized = ap length c.filled-bytes.ensures ∙ length-replicate {A = ℕ} 2050 0 in
    ended _ _ _ _ _ c.read_gathered.ensures (omega (arith, sized)) c.in-Some.is c.carry_out.ensures

pub returns-in-None : goal.returns-in-None
returns-in-None c =
    let sized = ap length c.filled-bytes.ensures ∙ length-replicate {A = ℕ} 2050 0 in
    let memory : Lent = lent c.args.table.now c.args.records.now c.args.namespaces.now c.args.out.now in
    ended _ _ _ _ _ c.read_gathered.ensures (omega (arith, sized)) c.in-None.is
    (rw c.said.ensures (kind_bad memory _ c.requires _ _ _ _ refl (rw c.number.ensures at c.put_refusal.ensures)))
