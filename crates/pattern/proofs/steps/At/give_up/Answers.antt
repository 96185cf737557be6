-- `At::give_up` is the table of `givenUpAs`, row by row. Rests on OneStep.
use Rattle.pattern.proofs.OneStep.{as_capped, backed_level, backed_any, given_plain, given_any, given_byte, given_run, given_level}
use Rattle.pattern.proofs.steps.At.give_up.Goals as goal

pub retry-requires : goal.retry-requires
retry-requires c =
    record { j_bound = c.requires.j_bound; back_le_i = (backed_level _ _ _ _ c.in-Level.is c.requires.backed).0; i_bound = (backed_level _ _ _ _ c.in-Level.is c.requires.backed).1 }

pub retry-requires-then-self-run : goal.retry-requires-then-self-run
retry-requires-then-self-run c =
    record { j_bound = c.requires.j_bound; back_le_i = (backed_level _ _ _ _ c.in-Level.is c.requires.backed).0; i_bound = (backed_level _ _ _ _ c.in-Level.is c.requires.backed).1 }

pub retry-requires-in-Any : goal.retry-requires-in-Any
retry-requires-in-Any c =
    record { j_bound = c.requires.j_bound; back_le_i = (backed_any _ _ _ _ c.in-Any.is c.requires.backed).0; i_bound = (backed_any _ _ _ _ c.in-Any.is c.requires.backed).1 }

pub returns-then-d-ne-SLASH : goal.returns-then-d-ne-SLASH
returns-then-d-ne-SLASH c =
    as_capped c.retry.ensures (given_byte _ _ c.in-Level.is c.if-d-ne-SLASH.true)

pub returns-then-self-run : goal.returns-then-self-run
returns-then-self-run c =
    as_capped c.retry-then-self-run.ensures (given_run _ _ c.in-Level.is c.if-d-ne-SLASH.false c.if-self-run.true)

pub returns-in-Plain : goal.returns-in-Plain
returns-in-Plain c =
    as_capped c.resume.ensures (given_plain _ _ c.in-Plain.is)

pub returns-else-self-run : goal.returns-else-self-run
returns-else-self-run c =
    as_capped c.resume-in-Level.ensures ((given_level _ _ c.in-Level.is
    c.if-d-ne-SLASH.false c.if-self-run.false))

pub returns-in-Any : goal.returns-in-Any
returns-in-Any c =
    as_capped c.retry-in-Any.ensures (given_any _ _ c.in-Any.is)
