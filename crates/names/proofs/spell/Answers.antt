-- `names::spell` meets its contract: another name stays, and INBOX is written over the first five bytes. By Inbox.
use Rattle.listing_rules.proofs.Prelude.{◌∙◌, sym}
use Rattle.listing_rules.proofs.Keys.{open_bytes}
use Rattle.listing_rules.specs.Names.{inbox}
use Rattle.names.proofs.Inbox.{spelled_other, spelled_first}
use Rattle.names.proofs.spell.Goals as goal

pub returns-then-not-inbox_first : goal.returns-then-not-inbox_first
returns-then-not-inbox_first c =
    sym (spelled_other _ (sym c.inbox_first.ensures ∙ c.if-not-inbox_first.true))

pub returns : goal.returns
unfolding open_bytes inbox
returns c =
    c.put_all.ensures.bytes ∙ spelled_first _ (sym c.inbox_first.ensures ∙ c.if-not-inbox_first.false)
