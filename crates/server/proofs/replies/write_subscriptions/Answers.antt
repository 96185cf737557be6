-- `server::replies::write_subscriptions` meets its contract: the patterns lie packed in their buffer, and the answer is that of `write_lsub`.
-- By Inputs.
use Rattle.listing_rules.proofs.Prelude.{◌∙◌, ap, length, length-replicate, ℕ}
use Rattle.command_line.specs.Commands.{patterns_of}
use Rattle.server.proofs.Inputs.{Lying, lying, lsub_one}
use Rattle.server.proofs.replies.write_subscriptions.Goals as goal

pub slice_bounds-patterns-end : goal.slice_bounds-patterns-end
slice_bounds-patterns-end c =
    let packed-here : Lying (patterns_of c.args.asked.line.now c.args.asked.command) c.put_patterns-end.new.buf c.put_patterns-end.result = lying _ _ _ _ c.put_patterns-end.ensures (ap length c.filled-patterns.ensures ∙ length-replicate {A = ℕ} 2048 0) c.requires.0 in
    packed-here.within

pub slice_bounds-write_lsub-end : goal.slice_bounds-write_lsub-end
slice_bounds-write_lsub-end c =
    let packed-here : Lying (patterns_of c.args.asked.line.now c.args.asked.command) c.put_patterns-end.new.buf c.put_patterns-end.result = lying _ _ _ _ c.put_patterns-end.ensures (ap length c.filled-patterns.ensures ∙ length-replicate {A = ℕ} 2048 0) c.requires.0 in
    packed-here.size

pub returns : goal.returns
returns c =
    let packed-here : Lying (patterns_of c.args.asked.line.now c.args.asked.command) c.put_patterns-end.new.buf c.put_patterns-end.result = lying _ _ _ _ c.put_patterns-end.ensures (ap length c.filled-patterns.ensures ∙ length-replicate {A = ℕ} 2048 0) c.requires.0 in
    let a = c.args in
    rw (← lsub_one a.rows.area.now a.rows.words.now _ a.tag.now _ packed-here.patterns c.requires.1)
    (c.write_lsub.ensures c.args.rows.index)
