-- `luspemaro_check_records` meets its contract: the words are a table alike to the records', so check 1 of the one is that of the other. By CallLaws.
use Rattle.listing_rules.proofs.Prelude.{◌∙◌}
use Rattle.exports.proofs.CallLaws.{table_alike}
use Rattle.exports.proofs.luspemaro_check_records.Goals as goal

pub returns : goal.returns
returns c = c.check_summed.ensures ∙ (table_alike _ _ _ _ _ _ _ c.no_words-words.ensures c.copy_in-n.ensures).0
