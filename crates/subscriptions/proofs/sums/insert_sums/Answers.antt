-- `subscriptions::sums::insert_sums` meets its contract: the ancestors' numbers, then the row's own between the numbers that moved.
use Rattle.listing_rules.proofs.Prelude.{◌∙◌}
use Rattle.subscriptions.specs.Summed.{inserted_sums}
use Rattle.subscriptions.proofs.sums.insert_sums.Goals as goal

pub returns : goal.returns
unfolding inserted_sums
returns c =
    c.put_word.ensures ∙ rw (c.resum_above.ensures, c.sum_below.ensures)
