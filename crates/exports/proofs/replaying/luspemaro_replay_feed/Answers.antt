-- `luspemaro_replay_feed` meets its contract: the piece over the words is the piece over the records, and all words that are lent are copied back. By
-- CallLaws.
use Rattle.listing_rules.proofs.Prelude.{◌∙◌}
use Rattle.listing_rules.specs.Replay.{replay_number, replay_frame}
use Rattle.exports.specs.Outcomes.{as_number}
use Rattle.exports.specs.Replays.{piece_report, state_back}
use Rattle.exports.proofs.CallLaws.{feeds}
use Rattle.exports.proofs.replaying.luspemaro_replay_feed.Goals as goal

pub returns : goal.returns
unfolding piece_report
returns c =
    let x = c.args in
    let w = c.feed_words-came.ensures in
    let a = feeds x.records.now _ _ _ x.summary.now _ _ _ c.no_words-words.ensures c.copy_in-lent.auto.words c.feed_words-came.auto.words
    c.copy_in-lent.ensures _ c.copy_back.ensures w.words.1 x.count x.area.now x.state x.namespaces.now x.pending.now x.line.now x.piece.now w.words.0 in
    record {
      result =
          w.result
          ∙ (λ i. record {
            taken = as_number (a.taken i);
            number = replay_number (a.verdict i);
            frame = replay_frame (a.verdict i);
            count = a.count i;
            state = state_back (a.state i);
          });
      area = w.area ∙ a.area;
      summary = w.summary ∙ a.summary;
      pending = w.pending ∙ a.pending;
      line = w.line ∙ a.line;
      records = a.records;
    }
