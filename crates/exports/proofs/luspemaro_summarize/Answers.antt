-- `luspemaro_summarize` meets its contract: the words are a table alike to the records', and tables that are alike are counted alike. By CallLaws.
use Rattle.listing_rules.proofs.Prelude.{◌∙◌, ap}
use Rattle.listing_rules.specs.Summary.{Summarized}
use Rattle.exports.proofs.NumberedLaws.{summarized_alike}
use Rattle.exports.proofs.CallLaws.{plain_alike}
use Rattle.exports.proofs.luspemaro_summarize.Goals as goal

pub returns : goal.returns
returns c =
    let same = summarized_alike _ _ _ (plain_alike _ _ _ _ _ _ _ c.no_words-words.ensures c.copy_in-n.ensures) in
    record {
      result = c.number_or_0.ensures ∙ c.summarize_words.ensures.result ∙ ap (λ (m : Summarized). m.number) same;
      summary = c.summarize_words.ensures.summary ∙ ap (λ (m : Summarized). m.summary) same;
    }
