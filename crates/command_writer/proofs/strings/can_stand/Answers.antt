-- `can_stand` is the definition's test, by the promises of its two callees.
use Rattle.listing_rules.specs.Joining.{can_stand}
use Rattle.command_writer.proofs.strings.can_stand.Goals as goal

pub returns : goal.returns
unfolding can_stand
returns c =
    rw (c.all_of_line.ensures, c.all_not_zero.ensures)
