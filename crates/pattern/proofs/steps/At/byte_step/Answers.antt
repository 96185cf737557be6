-- `At::byte_step` is the definition's choice. Rests on OneStep.
use Rattle.pattern.proofs.OneStep.{as_capped, byte_differs, byte_slash, byte_taken}
use Rattle.pattern.proofs.steps.At.byte_step.Goals as goal

pub returns-then-c-d : goal.returns-then-c-d
returns-then-c-d c =
    as_capped c.give_up.ensures (byte_differs _ _ _ c.if-c-d.true)

pub returns-then-c-eq-SLASH : goal.returns-then-c-eq-SLASH
returns-then-c-eq-SLASH c =
    as_capped c.slash_step.ensures (byte_slash _ _ _ c.if-c-d.false c.if-c-eq-SLASH.true)

pub returns : goal.returns
returns c =
    as_capped c.goes.ensures (byte_taken _ _ _ c.if-c-d.false c.if-c-eq-SLASH.false)
