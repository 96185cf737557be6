-- `luspemaro_replay` meets its contract: the log over the words is the log over the records, and all words that are lent are copied back. By CallLaws.
use Rattle.listing_rules.proofs.Prelude.{◌∙◌}
use Rattle.listing_rules.specs.Replay.{replay_number, replay_frame}
use Rattle.exports.specs.Replays.{replay_report}
use Rattle.exports.proofs.CallLaws.{replays}
use Rattle.exports.proofs.replaying.luspemaro_replay.Goals as goal

pub returns : goal.returns
unfolding replay_report
returns c =
    let x = c.args in
    let w = c.replay_words-done.ensures in
    let a = replays x.records.now _ _ _ x.summary.now _ _ _ c.no_words-words.ensures c.copy_in-lent.auto.words c.replay_words-done.auto.words
    c.copy_in-lent.ensures _ c.copy_back.ensures w.words.1 x.count x.area.now x.namespaces.now x.log.now w.words.0 in
    record {
      result = w.result ∙ (λ i. record { number = replay_number (a.verdict i); frame = replay_frame (a.verdict i); count = a.count i });
      area = w.area ∙ a.area;
      summary = w.summary ∙ a.summary;
      records = a.records;
    }
