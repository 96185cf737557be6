-- `subscriptions::sums::carry_sums` meets its contract: each case is its definition's.
use Rattle.listing_rules.proofs.Prelude.{refl}
use Rattle.subscriptions.specs.Summed.{numbers_after}
use Rattle.subscriptions.proofs.sums.carry_sums.Goals as goal

pub flag_sums-requires : goal.flag_sums-requires
flag_sums-requires c =
    rw c.in-Flag.is at c.requires

pub insert_sums-requires : goal.insert_sums-requires
insert_sums-requires c =
    rw c.in-Insert.is at c.requires

pub remove_sums-requires : goal.remove_sums-requires
remove_sums-requires c =
    rw c.in-Remove.is at c.requires

pub returns-in-Keep : goal.returns-in-Keep
unfolding numbers_after
returns-in-Keep c = rw c.in-Keep.is refl

pub returns-in-Flag : goal.returns-in-Flag
unfolding numbers_after
returns-in-Flag c = rw c.in-Flag.is c.flag_sums.ensures

pub returns-in-Insert : goal.returns-in-Insert
unfolding numbers_after
returns-in-Insert c = rw c.in-Insert.is c.insert_sums.ensures

pub returns-in-Remove : goal.returns-in-Remove
unfolding numbers_after
returns-in-Remove c = rw c.in-Remove.is c.remove_sums.ensures
