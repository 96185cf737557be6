-- `server::replies::write_listing` meets its contract: the patterns lie packed in their buffer, and the answer is that of `write_list`.
-- By Inputs.
use Rattle.listing_rules.proofs.Prelude.{◌∙◌, ap, length, length-replicate, ℕ}
use Rattle.command_line.specs.Commands.{patterns_of}
use Rattle.server.proofs.Inputs.{Lying, lying}
use Rattle.server.proofs.replies.write_listing.Goals as goal

pub slice_bounds-patterns-end : goal.slice_bounds-patterns-end
slice_bounds-patterns-end c =
    let packed-here : Lying (patterns_of c.args.asked.line.now c.args.asked.command) c.put_patterns-end.new.buf c.put_patterns-end.result = lying _ _ _ _ c.put_patterns-end.ensures (ap length c.filled-patterns.ensures ∙ length-replicate {A = ℕ} 2048 0) c.requires in
    packed-here.within

pub slice_bounds-write_list-end : goal.slice_bounds-write_list-end
slice_bounds-write_list-end c =
    let packed-here : Lying (patterns_of c.args.asked.line.now c.args.asked.command) c.put_patterns-end.new.buf c.put_patterns-end.result = lying _ _ _ _ c.put_patterns-end.ensures (ap length c.filled-patterns.ensures ∙ length-replicate {A = ℕ} 2048 0) c.requires in
    packed-here.size

pub returns : goal.returns
returns c =
    let packed-here : Lying (patterns_of c.args.asked.line.now c.args.asked.command) c.put_patterns-end.new.buf c.put_patterns-end.result = lying _ _ _ _ c.put_patterns-end.ensures (ap length c.filled-patterns.ensures ∙ length-replicate {A = ℕ} 2048 0) c.requires in
    rw (← packed-here.patterns) (c.write_list.ensures c.args.rows.index)
