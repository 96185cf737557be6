-- `indexed::run` meets its contract: refusal 6, then the walk. By WholeLaws.
use Rattle.std.proofs.lemmas.Result.{err_from_is_err_and}
use Rattle.listing_rules.proofs.Prelude.{subst}
use Rattle.listing_rules.specs.Walk.{WalkReply, collected}
use Rattle.collector.specs.Held.{held_seen}
use Rattle.collector.specs.Ends.{Ends}
use Rattle.collector.proofs.OptionLaws.{byte_taken, byte_refused}
use Rattle.collector.proofs.WholeLaws.{refuses_option}
use Rattle.collector.proofs.indexed.run.Goals as goal

pub returns-in_err-options : goal.returns-in_err-options
returns-in_err-options c =
    let a = c.args in
    let p = err_from_is_err_and c.from_residual.result c.from_residual.ensures.1 in
    let no = byte_refused a.option c.in_err-options.ensures in
    rw (p.1, p.2, no.1)
    (refuses_option (held_seen a.seen.reader a.seen.area.now a.seen.words.now) a.option a.scratch.now a.found.now a.pending.now a.seen.table_passes no.0)

pub returns : goal.returns
returns c =
    let a = c.args in
    let byte = byte_taken a.option c.in_ok-options.ensures in
    subst (λ (w : WalkReply). Ends w c.walk_table.new.found c.walk_table.new.pending c.walk_table.result)
    (λ i. collected (held_seen a.seen.reader a.seen.area.now a.seen.words.now) (byte i) a.scratch.now a.found.now a.pending.now)
    c.walk_table.ensures
