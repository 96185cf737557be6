-- `frames::reading::kind_of` meets its contract: its arms are the tests of `kindIs`.
use Rattle.listing_rules.proofs.Prelude.{arith, eq-eqb, ne_eqb}
use Rattle.frames.specs.Reading.{kind_is}
use Rattle.frames.proofs.reading.kind_of.Goals as goal

pub returns-in-77 : goal.returns-in-77
unfolding kind_is
returns-in-77 c = rw c.in-77.is

pub returns-in-78 : goal.returns-in-78
unfolding kind_is
returns-in-78 c = rw c.in-78.is

pub returns-then-n-eq0 : goal.returns-then-n-eq0
unfolding kind_is
returns-then-n-eq0 c =
    rw (c.in-67.is, eq-eqb _ 0 c.if-n-eq0.true)

pub returns-else-n-eq0 : goal.returns-else-n-eq0
unfolding kind_is
returns-else-n-eq0 c =
    rw (c.in-67.is, ne_eqb _ 0 c.if-n-eq0.false)

pub returns-then-n-eq2 : goal.returns-then-n-eq2
unfolding kind_is
returns-then-n-eq2 c =
    rw (c.in-87.is, eq-eqb _ 2 c.if-n-eq2.true)

pub returns-else-n-eq2 : goal.returns-else-n-eq2
unfolding kind_is
returns-else-n-eq2 c =
    rw (c.in-87.is, ne_eqb _ 2 c.if-n-eq2.false)

pub returns-in_default : goal.returns-in_default
unfolding kind_is
returns-in_default c =
    let k = c.args.kind in
    rw (ne_eqb k 0x4D (λ e. omega arith), ne_eqb k 0x4E (λ e. omega arith), ne_eqb k 0x43 (λ e. omega arith), ne_eqb k 0x57 (λ e. omega arith))
