-- `Rows::stands_at` meets its contract: the two tests of the definition, one after the other.
use Rattle.listing_rules.proofs.Prelude.{◌∙◌, le-ltb, lt-ltb}
use Rattle.mailbox_table.specs.Index.{name_at}
use Rattle.subscriptions.specs.Plans.{stands_at}
use Rattle.subscriptions.proofs.rows.Rows.stands_at.Goals as goal

pub returns-then-k-self : goal.returns-then-k-self
unfolding stands_at name_at
returns-then-k-self c =
    c.same_bytes.ensures ∙ rw (c.name_of.ensures, c.of_word.ensures, lt-ltb _ _ c.if-k-self.true)

pub returns-else-k-self : goal.returns-else-k-self
unfolding stands_at
returns-else-k-self c = rw (le-ltb _ _ c.if-k-self.false)
