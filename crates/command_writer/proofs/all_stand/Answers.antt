-- `all_stand` is the definition's test, by the promises of its two callees.
use Rattle.command_writer.proofs.all_stand.Goals as goal

pub returns : goal.returns
returns c =
    rw (c.can_stand.ensures, c.patterns_stand.ensures)
