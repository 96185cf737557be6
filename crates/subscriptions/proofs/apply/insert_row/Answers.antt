-- `subscriptions::apply::insert_row` meets its contract: the word, then the name. By ShiftLaws.
use Rattle.listing_rules.proofs.Prelude.{refl}
use Rattle.subscriptions.proofs.ShiftLaws.{put_over}
use Rattle.subscriptions.proofs.apply.insert_row.Goals as goal

pub returns : goal.returns
returns c =
    (refl, c.insert_word.ensures, put_over _ _ _ _ c.put_all.ensures.bytes c.requires.inside)
