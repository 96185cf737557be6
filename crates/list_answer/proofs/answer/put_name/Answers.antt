-- `list_answer::answer::put_name` meets its contract: the text of what `decide` shows. By Showing.
use Rattle.listing_rules.proofs.Prelude.{◌∙◌, sym, rules}
use Rattle.octets.proofs.Puts.{put_none}
use Rattle.mailbox_table.specs.Index.{rows_at}
use Rattle.list_answer.proofs.Showing.{fronted, text_none, text_line}
use Rattle.list_answer.proofs.answer.put_name.Goals as goal

pub returns-in_default : goal.returns-in_default
returns-in_default c =
    let table = rows_at _ c.args.view.words.now in
    λ ready at.
    rw (text_none _ table _ _ _ (sym (c.decide.ensures ready at) ∙ c.in_default.is))
    (put_none _ _ (search rules) (search rules))

pub returns : goal.returns
returns c =
    let a = c.args in
    let area = a.view.area.now in
    let bytes = fronted area _ _ c.of_word.ensures a.name.len _ c.front_of-bytes.ensures in
    λ ready at.
    let text = text_line _ (rows_at area a.view.words.now) _ _ _ _ _
    (sym (c.decide.ensures ready at) ∙ c.in-Some.is) in
    rw (text, ← bytes) c.put_line.ensures
