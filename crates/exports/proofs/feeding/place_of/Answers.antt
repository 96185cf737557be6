-- `place_of` is the table of `place_of`, number by number.
use Rattle.listing_rules.proofs.Prelude.{ne_eqb, arith}
use Rattle.exports.specs.Feeding.{place_of}
use Rattle.exports.proofs.feeding.place_of.Goals as goal

pub returns-in_default : goal.returns-in_default
unfolding place_of
returns-in_default c =
    let n = c.args.number in
    rw (
      ne_eqb n 0 (omega arith),
      ne_eqb n 1 (omega arith),
      ne_eqb n 2 (omega arith),
      ne_eqb n 3 (omega arith),
      ne_eqb n 4 (omega arith),
      ne_eqb n 5 (omega arith),
      ne_eqb n 6 (omega arith),
    )

pub returns-in-0 : goal.returns-in-0
unfolding place_of
returns-in-0 c = rw c.in-0.is

pub returns-in-1 : goal.returns-in-1
unfolding place_of
returns-in-1 c = rw c.in-1.is

pub returns-in-2 : goal.returns-in-2
unfolding place_of
returns-in-2 c = rw c.in-2.is

pub returns-in-3 : goal.returns-in-3
unfolding place_of
returns-in-3 c = rw c.in-3.is

pub returns-in-4 : goal.returns-in-4
unfolding place_of
returns-in-4 c = rw c.in-4.is

pub returns-in-5 : goal.returns-in-5
unfolding place_of
returns-in-5 c = rw c.in-5.is

pub returns-in-6 : goal.returns-in-6
unfolding place_of
returns-in-6 c = rw c.in-6.is
