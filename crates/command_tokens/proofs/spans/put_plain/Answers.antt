-- `put_plain`: what is written so far and what is left to write come to the bytes without escapes. Rests on Plain, and on Puts of octets.
use Rattle.listing_rules.proofs.Prelude.{◌∙◌, ◌≡◌, ◌&&◌, not, false, true, ap, sym, ◌++◌, append_assoc, append-nil, eqb, get_or}
use Rattle.octets.proofs.Puts.{put_then}
use Rattle.command_tokens.proofs.Plain.{plain_skip, plain_keep, plain_out}
use Rattle.command_tokens.proofs.spans.put_plain.Goals as goal
use Rattle.command_tokens.proofs.spans.put_plain.Goals.{then-not-escaped, else-not-escaped}

pub loop-b-preserved : goal.loop-b-preserved
loop-b-preserved c =
    let so_far = c.loop-b.invariant in
    elim c.if-not-escaped.branch [
      | then-not-escaped w ↦
          let kept : (not c.loop-b.escaped && eqb (get_or c.args.s.now c.loop-b.b-index 0) 92) ≡ false = w.if-not-escaped.true in
          rw (w.buf-is, w.to-is, kept) (
            _,
            put_then so_far.1 w.put-to.ensures,
            append_assoc so_far.0 _ _ ∙ ap (◌++◌ so_far.0) (sym (plain_keep _ _ _ c.loop-b-test.true kept)) ∙ so_far.2,
          )
      | else-not-escaped w ↦
          let skipped : (not c.loop-b.escaped && eqb (get_or c.args.s.now c.loop-b.b-index 0) 92) ≡ true = w.if-not-escaped.false in
          rw (w.buf-is, w.to-is, skipped) (so_far.0, so_far.1, ap (◌++◌ so_far.0) (sym (plain_skip _ _ _ c.loop-b-test.true skipped)) ∙ so_far.2)
    ]

pub returns : goal.returns
returns c =
    rw (← c.loop-b.invariant.2, plain_out _ _ _ c.loop-b-test.false, append-nil c.loop-b.invariant.0) c.loop-b.invariant.1
