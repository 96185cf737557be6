-- `subscriptions::shift::insert_word` meets its contract: the word is that of the record.
use Rattle.listing_rules.proofs.Prelude.{◌∙◌, ap}
use Rattle.subscriptions.specs.Applied.{new_word, inserted_at}
use Rattle.subscriptions.proofs.shift.insert_word.Goals as goal

pub returns : goal.returns
unfolding new_word
returns c =
    let a = c.args in
    c.put_word.ensures ∙ ap (inserted_at a.words.now a.count a.k) c.from-word.ensures.0
