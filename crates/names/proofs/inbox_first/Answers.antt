-- `names::inbox_first` meets its contract: the first five bytes and what follows them decide. By Inbox.
use Rattle.listing_rules.proofs.Prelude.{◌∙◌, ◌≡◌, sym, arith, drop, length-take}
use Rattle.listing_rules.proofs.Keys.{open_bytes}
use Rattle.listing_rules.specs.Names.{inbox}
use Rattle.names.specs.Inbox.{ends_here, inbox_first}
use Rattle.names.proofs.Inbox.{first_short_lem, first_other, first_begins, ends_at, ends_behind}
use Rattle.names.proofs.inbox_first.Goals as goal

pub returns-then-name-lt5 : goal.returns-then-name-lt5
returns-then-name-lt5 c = sym (first_short_lem _ c.if-name-lt5.true)

pub slice_bounds-spells_word-end : goal.slice_bounds-spells_word-end
slice_bounds-spells_word-end c = simp length-take (omega arith)

pub returns-then-not-spells_word : goal.returns-then-not-spells_word
unfolding open_bytes inbox
returns-then-not-spells_word c =
    sym (first_other _ (sym c.spells_word.ensures ∙ c.if-not-spells_word.true))

pub returns-then-name-eq5 : goal.returns-then-name-eq5
returns-then-name-eq5 c =
    let begins : let s = c.args.name.now in
    inbox_first s ≡ ends_here (drop 5 s) = unfold open_bytes inbox in first_begins _ (sym c.spells_word.ensures ∙ c.if-not-spells_word.false) in
    sym (begins ∙ ends_behind c.args.name.now 5 (omega arith))

pub returns : goal.returns
returns c =
    let begins : let s = c.args.name.now in
    inbox_first s ≡ ends_here (drop 5 s) = unfold open_bytes inbox in first_begins _ (sym c.spells_word.ensures ∙ c.if-not-spells_word.false) in
    sym (begins ∙ ends_at c.args.name.now 5 (omega arith))
