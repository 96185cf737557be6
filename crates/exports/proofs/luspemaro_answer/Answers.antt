-- `luspemaro_answer` meets its contract: the command over the words is the command over the records, and the words that it changed are copied back. By
-- CallLaws.
use Rattle.listing_rules.proofs.Prelude.{◌∙◌, ap}
use Rattle.listing_rules.specs.Server.{buffer_after}
use Rattle.exports.specs.Outcomes.{outcome_of}
use Rattle.exports.proofs.CallLaws.{answers}
use Rattle.exports.proofs.luspemaro_answer.Goals as goal

pub returns : goal.returns
returns c =
    let x = c.args in
    let w = c.answer_words-done.ensures in
    let a = answers x.records.now _ _ _ x.summary.now _ _ _ c.no_words-words.ensures c.copy_in-lent.auto.words c.answer_words-done.auto.words
    c.copy_in-lent.ensures _ c.copy_back.ensures w.words.1 x.count x.area.now x.reader x.namespaces.now x.line.now x.out.now w.words.0 in
    record {
      result = w.result ∙ (λ i. outcome_of (a.reply i) (a.changed i) (a.count i));
      bytes = w.bytes ∙ ap (buffer_after x.out.now) a.reply;
      area = w.area ∙ a.area;
      summary = w.summary ∙ a.summary;
      records = a.records;
    }
