-- `put_number` meets its contract: four digits, each where it is shown (`put_then`).
use Rattle.listing_rules.specs.Walk.{when}
use Rattle.listing_rules.specs.Joining.{decimal_text}
use Rattle.octets.proofs.Puts.{put_then}
use Rattle.command_writer.proofs.strings.put_number.Goals as goal

pub returns : goal.returns
unfolding decimal_text when
returns c =
    put_then c.put_digit-thousands.ensures (put_then c.put_digit-hundreds.ensures
    (put_then c.put_digit-tens.ensures c.put_digit.ensures))
