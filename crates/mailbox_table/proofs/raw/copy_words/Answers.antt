-- `mailbox_table::raw::copy_words` meets its contract: the words before i are copied. By CopyLaws.
use Rattle.listing_rules.proofs.Prelude.{◌≡◌, arith}
use Rattle.mailbox_table.proofs.CopyLaws.{copied_none, copied_more}
use Rattle.mailbox_table.proofs.raw.copy_words.Goals as goal

pub loop-i-init : goal.loop-i-init
loop-i-init c = (omega arith, copied_none _ _)

pub bounds-words-i : goal.bounds-words-i
bounds-words-i c = omega (arith, c.requires, c.loop-i.invariant.1.size)

pub loop-i-preserved : goal.loop-i-preserved
loop-i-preserved c =
    (omega arith, copied_more c.loop-i.invariant.1 (omega (arith, c.requires)) (omega (arith, c.requires)))

pub returns : goal.returns
returns c =
    let w : c.loop-i.i ≡ c.args.count = omega arith in
    rw w at c.loop-i.invariant.1.elements
