-- `converse::put_meaning` meets its contract: one text for each number.
use Rattle.converse.proofs.MeaningLaws.{no_meaning, put_as}
use Rattle.listing_rules.proofs.Keys.{open_bytes}
use Rattle.conversation.proofs.TalkKeys.{open_texts}
use Rattle.listing_rules.proofs.Prelude.{sym, rules}
use Rattle.converse.proofs.refusals.put_meaning.Goals as goal

pub returns-in-0 : goal.returns-in-0
unfolding open_bytes open_texts
returns-in-0 c =
    rw c.in-0.is c.put_all.ensures

pub returns-in-1 : goal.returns-in-1
unfolding open_bytes open_texts
returns-in-1 c =
    rw c.in-1.is c.put_all-in-1.ensures

pub returns-in-2 : goal.returns-in-2
unfolding open_bytes open_texts
returns-in-2 c =
    rw c.in-2.is c.put_all-in-2.ensures

pub returns-in-3 : goal.returns-in-3
unfolding open_bytes open_texts
returns-in-3 c =
    rw c.in-3.is c.put_all-in-3.ensures

pub returns-in-4 : goal.returns-in-4
unfolding open_bytes open_texts
returns-in-4 c =
    rw c.in-4.is c.put_all-in-4.ensures

pub returns-in-5 : goal.returns-in-5
unfolding open_bytes open_texts
returns-in-5 c =
    rw c.in-5.is c.put_all-in-5.ensures

pub returns-in-6 : goal.returns-in-6
unfolding open_bytes open_texts
returns-in-6 c =
    rw c.in-6.is c.put_all-in-6.ensures

pub returns-in-7 : goal.returns-in-7
unfolding open_bytes open_texts
returns-in-7 c =
    rw c.in-7.is c.put_all-in-7.ensures

pub returns-in-8 : goal.returns-in-8
unfolding open_bytes open_texts
returns-in-8 c =
    rw c.in-8.is c.put_all-in-8.ensures

pub returns-in-9 : goal.returns-in-9
unfolding open_bytes open_texts
returns-in-9 c =
    rw c.in-9.is c.put_all-in-9.ensures

pub returns-in-10 : goal.returns-in-10
unfolding open_bytes open_texts
returns-in-10 c =
    rw c.in-10.is c.put_all-in-10.ensures

pub returns-in-11 : goal.returns-in-11
unfolding open_bytes open_texts
returns-in-11 c =
    rw c.in-11.is c.put_all-in-11.ensures

pub returns-in-12 : goal.returns-in-12
unfolding open_bytes open_texts
returns-in-12 c =
    rw c.in-12.is c.put_all-in-12.ensures

pub returns-in-13 : goal.returns-in-13
unfolding open_bytes open_texts
returns-in-13 c =
    rw c.in-13.is c.put_all-in-13.ensures

pub returns-in-14 : goal.returns-in-14
unfolding open_bytes open_texts
returns-in-14 c =
    rw c.in-14.is c.put_all-in-14.ensures

pub returns-in-15 : goal.returns-in-15
unfolding open_bytes open_texts
returns-in-15 c =
    rw c.in-15.is c.put_all-in-15.ensures

pub returns-in-16 : goal.returns-in-16
unfolding open_bytes open_texts
returns-in-16 c =
    rw c.in-16.is c.put_all-in-16.ensures

pub returns-in_default : goal.returns-in_default
returns-in_default c =
    put_as (sym (no_meaning c.args.k (search rules))) c.put_all-in_default.ensures
