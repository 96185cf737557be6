-- `subscriptions::apply_plan` meets its contract: each case is its definition's.
use Rattle.listing_rules.proofs.Prelude.{refl}
use Rattle.subscriptions.specs.Applied.{words_after, area_after, change_of}
use Rattle.subscriptions.proofs.apply_plan.Goals as goal

pub flag_row-requires : goal.flag_row-requires
flag_row-requires c =
    rw c.in-Flag.is at c.requires

pub insert_row-requires : goal.insert_row-requires
insert_row-requires c =
    rw c.in-Insert.is at c.requires

pub remove_row-requires : goal.remove_row-requires
remove_row-requires c =
    rw c.in-Remove.is at c.requires

pub returns-in-Keep : goal.returns-in-Keep
unfolding words_after area_after change_of
returns-in-Keep c = rw c.in-Keep.is (c.unchanged.ensures, refl, refl)

pub returns-in-Flag : goal.returns-in-Flag
unfolding words_after area_after change_of
returns-in-Flag c =
    rw c.in-Flag.is (c.flag_row.ensures.0, c.flag_row.ensures.1, refl)

pub returns-in-Insert : goal.returns-in-Insert
unfolding words_after area_after change_of
returns-in-Insert c =
    rw c.in-Insert.is c.insert_row.ensures

pub returns-in-Remove : goal.returns-in-Remove
unfolding words_after area_after change_of
returns-in-Remove c =
    rw c.in-Remove.is c.remove_row.ensures
