-- `subscriptions::sums::flag_sums` meets its contract: that of `resum_above`, at the flags of row k.
use Rattle.listing_rules.proofs.Prelude.{◌∙◌}
use Rattle.subscriptions.specs.Summed.{flagged_sums}
use Rattle.subscriptions.proofs.sums.flag_sums.Goals as goal

pub resum_above-requires : goal.resum_above-requires
resum_above-requires c =
    rw c.of_word-row.ensures c.requires.resums

pub returns : goal.returns
unfolding flagged_sums
returns c = c.resum_above.ensures ∙ rw c.of_word-row.ensures
