-- `luspemaro_collect` meets its contract: a reader sees a table alike to the records', so its walk is the same. By CallLaws and OutcomeLaws.
use Rattle.listing_rules.proofs.Prelude.{◌∙◌, ap, length}
use Rattle.listing_rules.specs.Walk.{scratch_after, found_after, pending_after}
use Rattle.listing_rules.proofs.Alike.{collected_by_alike}
use Rattle.exports.specs.Outcomes.{walk_outcome}
use Rattle.exports.proofs.OutcomeLaws.{owes_alike}
use Rattle.exports.proofs.CallLaws.{seen_alike}
use Rattle.exports.proofs.luspemaro_collect.Goals as goal

pub returns : goal.returns
returns c =
    let x = c.args in
    let w = c.collect_words.ensures in
    let a = seen_alike x.records.now _ _ _ x.count x.area.now x.summary.now c.no_words-words.ensures c.copy_in-n.ensures x.reader in
    let same = collected_by_alike _ _ x.reader x.option x.scratch.now x.found.now x.pending.now a.seen in
    record {
      result = w.result ∙ ap walk_outcome same;
      scratch = w.scratch ∙ ap (scratch_after (length x.scratch.now)) same;
      found = w.found ∙ ap (found_after (length x.found.now)) same;
      pending = w.pending ∙ ap (pending_after (length x.pending.now)) same;
      demand3 = owes_alike x.reader x.option x.scratch.now x.found.now x.pending.now _ _ _ a w.demand3;
      numbers = w.numbers;
    }
