-- `replay::whole::replay_words` meets its contract: the log is one piece, and it is not refused. By WholeLaws.
use Rattle.listing_rules.proofs.Prelude.{ap, ℕ, arith, length, length-replicate}
use Rattle.replay.proofs.WholeLaws.{never_refused, whole_taken}
use Rattle.replay.proofs.whole.replay_words.Goals as goal

pub returns-in-Some : goal.returns-in-Some
returns-in-Some c =
    let args = c.args in
    whole_taken args.namespaces.now args.log.now args.words.now args.sums.now args.area.now c.filled-pending.result c.filled-line.result args.count _ _ _ _ _
    (omega (arith, ap length c.filled-pending.ensures, length-replicate {A = ℕ} 2050 0))
    (omega (arith, ap length c.filled-line.ensures, length-replicate {A = ℕ} 32771 0))
    (omega arith) _ c.start-state.ensures _ c.feed.ensures _
    c.in-Some.is _ c.finish-verdict.ensures

pub returns-in-None : goal.returns-in-None
returns-in-None c =
    let args = c.args in
    absurd (never_refused args.namespaces.now args.log.now args.words.now args.sums.now args.area.now c.filled-pending.result c.filled-line.result args.count _ _ _ _ _
    (omega (arith, ap length c.filled-pending.ensures, length-replicate {A = ℕ} 2050 0))
    (omega (arith, ap length c.filled-line.ensures, length-replicate {A = ℕ} 32771 0))
    (omega arith) _ c.start-state.ensures _ c.feed.ensures c.in-None.is)
