-- `luspemaro_compact` meets its contract: names moved together over the words are names moved together over the records, and the words that moved are copied
-- back; where it is refused none moved. By CallLaws, and ResultLaws of compaction.
use Rattle.listing_rules.proofs.Prelude.{◌∙◌, sym}
use Rattle.compaction.proofs.ResultLaws.{result_done, result_refused, between_compacted, between_refused}
use Rattle.exports.proofs.CallLaws.{compacts, none_back}
use Rattle.exports.proofs.luspemaro_compact.Goals as goal

pub returns-in-Ok : goal.returns-in-Ok
returns-in-Ok c =
    let x = c.args in
    let w = c.compact_words.ensures in
    let a = compacts x.records.now _ _ _ x.summary.now _ _ _ c.no_words-words.ensures c.copy_in-lent.auto.words c.compact_words.auto.words
    c.copy_in-lent.ensures _ c.copy_back.ensures (between_compacted _ _ x.count x.area.now x.summary.now _ _ _ w.result c.in-Ok.is w.words) x.count x.area.now
    w.records in
    record {
      result = sym (result_done _ x.count _ _ w.result c.in-Ok.is) ∙ a.number;
      area = w.area ∙ a.area;
      records = a.records;
    }

pub returns-in-Err : goal.returns-in-Err
returns-in-Err c =
    let x = c.args in
    let w = c.compact_words.ensures in
    let a = compacts x.records.now _ _ _ x.summary.now _ 0 0 c.no_words-words.ensures c.copy_in-lent.auto.words c.compact_words.auto.words
    c.copy_in-lent.ensures _ (none_back _ _) (between_refused _ _ x.count x.area.now x.summary.now _ _ _ w.result c.in-Err.is w.words) x.count x.area.now
    w.records in
    record {
      result = c.number.ensures ∙ sym (result_refused _ x.count _ _ w.result c.in-Err.is) ∙ a.number;
      area = w.area ∙ a.area;
      records = a.records;
    }
