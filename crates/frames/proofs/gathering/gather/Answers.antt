-- `frames::gathering::gather` meets its contract: there is room exactly if no test refused it. Rests on GatherLaws.
use Rattle.listing_rules.proofs.Prelude.{length, le-ltb, lt-ltb}
use Rattle.frames.specs.Gathering.{has_room}
use Rattle.frames.proofs.GatherLaws.{gathers_over, gathers_more, gathers_full}
use Rattle.frames.proofs.gathering.gather.Goals as goal

pub returns-in_default : goal.returns-in_default
returns-in_default c = gathers_over _ _ _ c.in_default.is

pub returns-then-n-line : goal.returns-then-n-line
returns-then-n-line c = gathers_more _ _ _ _ c.in-Some.is c.if-n-lt-MAX_DIGITS.true c.if-n-line.true

pub returns-else-n-line : goal.returns-else-n-line
unfolding has_room
returns-else-n-line c =
    let n = c.in-Some.n in
    gathers_full _ _ _ _ c.in-Some.is (rw (lt-ltb n 4102 c.if-n-lt-MAX_DIGITS.true, le-ltb n (length c.args.line.now) c.if-n-line.false))

pub returns-else-n-lt-MAX_DIGITS : goal.returns-else-n-lt-MAX_DIGITS
unfolding has_room
returns-else-n-lt-MAX_DIGITS c = gathers_full _ _ _ _ c.in-Some.is (rw (le-ltb c.in-Some.n 4102 c.if-n-lt-MAX_DIGITS.false))
