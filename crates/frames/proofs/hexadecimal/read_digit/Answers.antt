-- `frames::hexadecimal::read_digit` meets its contract: each of its three ranges is a test of `digit`.
use Rattle.listing_rules.proofs.Prelude.{arith, leb, leb-true}
use Rattle.listing_rules.specs.Bytes.{within}
use Rattle.listing_rules.specs.Frames.{digit}
use Rattle.listing_rules.proofs.Bools.{and_l}
use Rattle.frames.specs.Hexadecimal.{digit_is}
use Rattle.frames.proofs.hexadecimal.read_digit.Goals as goal

pub overflow_sub-result : goal.overflow_sub-result
overflow_sub-result c =
    let b = c.args.c in omega (arith, leb-true 48 b (and_l (leb 48 b) _ c.if-c.true))

pub returns-then-c : goal.returns-then-c
unfolding digit_is digit within
returns-then-c c = rw c.if-c.true

pub overflow_sub-result-then-c-2 : goal.overflow_sub-result-then-c-2
overflow_sub-result-then-c-2 c =
    let b = c.args.c in
    omega (arith, leb-true 65 b (and_l (leb 65 b) _ c.if-c-2.true))

pub returns-then-c-2 : goal.returns-then-c-2
unfolding digit_is digit within
returns-then-c-2 c =
    rw (c.if-c.false, c.if-c-2.true)

pub overflow_sub-result-then-c-3 : goal.overflow_sub-result-then-c-3
overflow_sub-result-then-c-3 c =
    let b = c.args.c in
    omega (arith, leb-true 97 b (and_l (leb 97 b) _ c.if-c-3.true))

pub returns-then-c-3 : goal.returns-then-c-3
unfolding digit_is digit within
returns-then-c-3 c =
    rw (c.if-c.false, c.if-c-2.false, c.if-c-3.true)

pub returns : goal.returns
unfolding digit_is digit within
returns c =
    rw (c.if-c.false, c.if-c-2.false, c.if-c-3.false)
