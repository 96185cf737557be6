-- `subscriptions::inferiors::bars` meets its contract: the flag, then the name.
use Rattle.listing_rules.proofs.Prelude.{◌∙◌, ◌≡◌, ap, sym}
use Rattle.listing_rules.specs.Bytes.{bit}
use Rattle.listing_rules.specs.Flags.{no_inferiors}
use Rattle.octets.proofs.Sets.{contains_bit}
use Rattle.mailbox_table.specs.declared.rows.Row.{Row}
use Rattle.mailbox_table.specs.Words.{row_of_word}
use Rattle.mailbox_table.specs.Index.{name_at}
use Rattle.subscriptions.specs.Plans.{bars_below}
use Rattle.subscriptions.proofs.inferiors.bars.Goals as goal

pub returns-else-has : goal.returns-else-has
unfolding bars_below
returns-else-has c =
    let flag : c.has.result ≡ no_inferiors (row_of_word c.args.word).flags.bits = unfold no_inferiors in c.has.ensures ∙ contains_bit 4 _ ∙ ap
    (λ (r : Row). bit 4 r.flags.bits) c.of_word-row.ensures in
    rw (sym flag ∙ c.if-has.false) c.if-has.false

pub returns-then-has : goal.returns-then-has
unfolding bars_below name_at
returns-then-has c =
    let flag : c.has.result ≡ no_inferiors (row_of_word c.args.word).flags.bits = unfold no_inferiors in c.has.ensures ∙ contains_bit 4 _ ∙ ap
    (λ (r : Row). bit 4 r.flags.bits) c.of_word-row.ensures in
    c.is_below.ensures ∙ rw (c.name_of.ensures, c.of_word-row.ensures, sym flag ∙ c.if-has.true)
