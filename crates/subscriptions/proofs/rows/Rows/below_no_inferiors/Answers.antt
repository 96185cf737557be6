-- `Rows::below_no_inferiors` meets its contract: some row bars the name. By InferiorLaws.
use Rattle.std.proofs.Common.{◌∙◌, rules, tests}
use Rattle.std.proofs.lemmas.Iterator.{YieldsList-from_slice}
use Rattle.std.proofs.lemmas.Iterator.Search.{any_from_yields_List}
use Rattle.mailbox_table.specs.Index.{row_at_word}
use Rattle.subscriptions.specs.Plans.{bars_below}
use Rattle.subscriptions.proofs.InferiorLaws.{bars_any}
use Rattle.subscriptions.proofs.rows.Rows.below_no_inferiors.Goals as goal

pub returns : goal.returns
returns c =
    let a = c.args in
    any_from_yields_List (λ w. bars_below a.name.now (row_at_word a.self.area.now w)) _ _ c.any.result c.any.ensures.ran (YieldsList-from_slice a.self.words.now cc) (λ x b q k. search (rules, tests))
    ∙ bars_any a.self.area.now a.self.words.now a.name.now
