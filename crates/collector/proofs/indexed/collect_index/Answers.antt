-- `indexed::collect_index` meets its contract: what `run` left, and zeros where it was refused. By WholeLaws.
use Rattle.listing_rules.proofs.Prelude.{◌∙◌, ◌≡◌, refl, subst, sym}
use Rattle.listing_rules.specs.Walk.{WalkReply, collected, collected_by}
use Rattle.collector.specs.Held.{held_seen}
use Rattle.collector.specs.Ends.{Comes, Collects}
use Rattle.std.specs.Prelude.{Result}
use Rattle.octets.specs.declared.refusals.Refusal.{Refusal}
use Rattle.collector.specs.declared.Walked.{Walked}
use Rattle.collector.proofs.PackLaws.{cleared}
use Rattle.collector.proofs.WholeLaws.{reader_walks_long, collects_refused, collects_done}
use Rattle.collector.proofs.indexed.collect_index.Goals as goal

pub run-result-requires : goal.run-result-requires
run-result-requires c =
    let a = c.args in
    record {
      found_value = cleared a.found.now (sym c.clear.auto.buf) c.clear.ensures;
      pending_value = cleared a.pending.now (sym c.clear-2.auto.buf) c.clear-2.ensures;
    }

pub returns-in-Err : goal.returns-in-Err
returns-in-Err c =
    let same_reply_lem : let a = c.args in
    let seen = held_seen a.seen.reader a.seen.area.now a.seen.words.now in
    collected seen a.option a.scratch.now c.clear.new.buf c.clear-2.new.buf ≡
    collected_by a.seen.reader seen a.option a.scratch.now a.found.now a.pending.now = let a = c.args in
    reader_walks_long a.seen.reader (held_seen a.seen.reader a.seen.area.now a.seen.words.now) a.option a.scratch.now a.found.now
    a.pending.now a.seen.known c.clear.new.buf c.clear-2.new.buf c.clear.auto.buf c.clear-2.auto.buf in
    let a = c.args in
    collects_refused a.seen.reader (held_seen a.seen.reader a.seen.area.now a.seen.words.now) a.option a.scratch.now a.found.now
    a.pending.now
    (cleared c.run-result.new.scratch c.run-result.auto.scratch c.clear-3.ensures)
    {k = c.in-Err.refusal} refl
    (sym same_reply_lem ∙ (rw c.in-Err.is at c.run-result.ensures))
    (cleared c.run-result.new.found (c.run-result.auto.found ∙ c.clear.auto.buf) c.clear-in-Err.ensures)
    (cleared c.run-result.new.pending (c.run-result.auto.pending ∙ c.clear-2.auto.buf) c.clear-in-Err-2.ensures)

pub returns : goal.returns
returns c =
    let same_reply_lem : let a = c.args in
    let seen = held_seen a.seen.reader a.seen.area.now a.seen.words.now in
    collected seen a.option a.scratch.now c.clear.new.buf c.clear-2.new.buf ≡
    collected_by a.seen.reader seen a.option a.scratch.now a.found.now a.pending.now = let a = c.args in
    reader_walks_long a.seen.reader (held_seen a.seen.reader a.seen.area.now a.seen.words.now) a.option a.scratch.now a.found.now
    a.pending.now a.seen.known c.clear.new.buf c.clear-2.new.buf c.clear.auto.buf c.clear-2.auto.buf in
    let a = c.args in
    let seen = held_seen a.seen.reader a.seen.area.now a.seen.words.now in
    subst
    (λ (r : Result Walked Refusal). Collects a.seen.reader seen a.option a.scratch.now a.found.now a.pending.now r c.clear-3.new.buf
    c.run-result.new.found c.run-result.new.pending)
    (sym c.in_default.is)
    (collects_done a.seen.reader seen a.option a.scratch.now a.found.now a.pending.now
    (cleared c.run-result.new.scratch c.run-result.auto.scratch c.clear-3.ensures)
    (subst (λ (w : WalkReply). Comes w c.run-result.new.found c.run-result.new.pending c.in_default.field-0.count c.in_default.field-0.found) same_reply_lem
    (rw c.in_default.is at c.run-result.ensures))
    (c.run-result.auto.found ∙ c.clear.auto.buf)
    (c.run-result.auto.pending ∙ c.clear-2.auto.buf))
