-- `subscriptions::clearing` meets its contract. By FlagLaws.
use Rattle.listing_rules.proofs.Prelude.{◌∙◌, sym}
use Rattle.subscriptions.proofs.FlagLaws.{has_subscribed, clear_fits, clearing_row, clearing_flag, clearing_keep}
use Rattle.subscriptions.proofs.clearing.Goals as goal

pub returns-then-flags : goal.returns-then-flags
returns-then-flags c = sym (clearing_row _ _ c.if-flags.true)

pub overflow_sub-result : goal.overflow_sub-result
overflow_sub-result c =
    let f = c.args.flags.bits in
    clear_fits f (sym (has_subscribed f) ∙ sym c.has.ensures ∙ c.if-has.true)

pub returns-then-has : goal.returns-then-has
returns-then-has c =
    sym (clearing_flag _ _ c.if-flags.false (sym (has_subscribed _) ∙ sym c.has.ensures ∙ c.if-has.true))

pub returns : goal.returns
returns c = sym (clearing_keep _ _ c.if-flags.false (sym (has_subscribed _) ∙ sym c.has.ensures ∙ c.if-has.false))
