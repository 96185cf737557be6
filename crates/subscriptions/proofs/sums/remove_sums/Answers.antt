-- `subscriptions::sums::remove_sums` meets its contract: the ancestors' numbers, then the row's own taken out.
use Rattle.listing_rules.proofs.Prelude.{◌∙◌}
use Rattle.subscriptions.specs.Summed.{removed_sums}
use Rattle.subscriptions.proofs.sums.remove_sums.Goals as goal

pub returns : goal.returns
unfolding removed_sums
returns c =
    c.remove_word.ensures ∙ rw c.resum_above.ensures
