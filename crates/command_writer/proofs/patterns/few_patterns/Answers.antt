-- `few_patterns` is the definition's test, by the promises of its two callees.
use Rattle.command_writer.proofs.patterns.few_patterns.Goals as goal

pub returns : goal.returns
returns c =
    rw (c.count_patterns.ensures, c.patterns_short.ensures)
