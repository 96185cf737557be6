-- `read_namespace`: the line ends after the word, or not. Rests on Wording and Judging.
use Rattle.octets.specs.declared.refusals.Refusal.TheVariants.{Grammar}
use Rattle.command_line.proofs.Judging.{refuses, asks_namespace}
use Rattle.command_line.proofs.Wording.{namespace_ends, namespace_goes_on}
use Rattle.command_line.proofs.reading.read_namespace.Goals as goal

pub returns-then-rest-text : goal.returns-then-rest-text
returns-then-rest-text c =
    refuses _ Grammar (namespace_goes_on _ _ _ c.if-rest-text.true)

pub returns : goal.returns
returns c =
    asks_namespace _ _ c.bare.ensures (namespace_ends _ _ _ c.if-rest-text.false) (λ h. h)
