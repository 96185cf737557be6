-- `names::inbox_spelled` meets its contract: another first level, or the first five bytes compared. By Inbox.
use Rattle.listing_rules.proofs.Prelude.{◌∙◌, ◌≡◌, sym, true, arith, length-take}
use Rattle.listing_rules.proofs.Keys.{open_bytes}
use Rattle.listing_rules.specs.Names.{inbox}
use Rattle.names.specs.Inbox.{inbox_first}
use Rattle.names.proofs.Inbox.{first_long, inbox_other, inbox_same}
use Rattle.names.proofs.inbox_spelled.Goals as goal

pub returns-then-not-inbox_first : goal.returns-then-not-inbox_first
returns-then-not-inbox_first c =
    sym (inbox_other _ (sym c.inbox_first.ensures ∙ c.if-not-inbox_first.true))

pub slice_bounds-same_bytes-end : goal.slice_bounds-same_bytes-end
slice_bounds-same_bytes-end c =
    let first : inbox_first c.args.name.now ≡ true = sym c.inbox_first.ensures ∙ c.if-not-inbox_first.false in
    let long = first_long _ first in
    simp length-take (omega (arith, long))

pub returns : goal.returns
unfolding open_bytes inbox
returns c =
    let first : inbox_first c.args.name.now ≡ true = sym c.inbox_first.ensures ∙ c.if-not-inbox_first.false in
    c.same_bytes.ensures ∙ sym (inbox_same _ first)
