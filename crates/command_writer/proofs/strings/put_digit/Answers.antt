-- `put_digit` meets its contract: nothing, or the digit.
use Rattle.listing_rules.proofs.Prelude.{rules}
use Rattle.listing_rules.specs.Walk.{when}
use Rattle.listing_rules.specs.Joining.{digit_of}
use Rattle.octets.proofs.Puts.{put_none}
use Rattle.command_writer.proofs.strings.put_digit.Goals as goal

pub returns-then-not-shown : goal.returns-then-not-shown
unfolding when
returns-then-not-shown c =
    rw c.if-not-shown.true (put_none _ _ (search rules) (search rules))

pub returns : goal.returns
unfolding when digit_of
returns c =
    rw c.if-not-shown.false c.put.ensures
