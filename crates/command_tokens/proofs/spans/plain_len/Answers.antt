-- `plain_len`: what is counted so far and what is left to count come to the length without escapes. Rests on Plain.
use Rattle.listing_rules.proofs.Prelude.{◌≡◌, ◌&&◌, not, false, true, ap, arith, eqb, get_or, length}
use Rattle.command_tokens.proofs.Plain.{plain_skip, plain_keep, plain_out}
use Rattle.command_tokens.proofs.spans.plain_len.Goals as goal
use Rattle.command_tokens.proofs.spans.plain_len.Goals.{then-not-escaped, else-not-escaped}

pub loop-b-preserved : goal.loop-b-preserved
loop-b-preserved c =
    let so_far = c.loop-b.invariant in
    elim c.if-not-escaped.branch [
      | then-not-escaped w ↦
          let kept : (not c.loop-b.escaped && eqb (get_or c.args.s.now c.loop-b.b-index 0) 92) ≡ false = w.if-not-escaped.true in
          rw (w.n-is, kept) (omega arith, omega (arith, so_far.1, ap length (plain_keep c.args.s.now _ c.loop-b.escaped c.loop-b-test.true kept)))
      | else-not-escaped w ↦
          let skipped : (not c.loop-b.escaped && eqb (get_or c.args.s.now c.loop-b.b-index 0) 92) ≡ true = w.if-not-escaped.false in
          rw (w.n-is, skipped) (omega arith, rw (← plain_skip _ _ c.loop-b.escaped c.loop-b-test.true skipped) so_far.1)
    ]

pub returns : goal.returns
returns c =
    omega (arith, c.loop-b.invariant.1, ap length (plain_out c.args.s.now _ c.loop-b.escaped c.loop-b-test.false))
