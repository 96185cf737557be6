-- `subscriptions::setting` meets its contract. By FlagLaws.
use Rattle.listing_rules.proofs.Prelude.{◌∙◌, sym, ◌<◌, arith, rules}
use Rattle.subscriptions.proofs.FlagLaws.{has_subscribed, set_fits, setting_keep, setting_flag}
use Rattle.subscriptions.proofs.setting.Goals as goal

pub returns-then-has : goal.returns-then-has
returns-then-has c = sym (setting_keep _ _ (sym (has_subscribed _) ∙ sym c.has.ensures ∙ c.if-has.true))

pub overflow_add-result : goal.overflow_add-result
overflow_add-result c =
    let f = c.args.flags.bits in
    let off = sym (has_subscribed f) ∙ sym c.has.ensures ∙ c.if-has.false in
    let small : f < 65536 = search rules in
    omega (arith, set_fits f small off)

pub returns : goal.returns
returns c = sym (setting_flag _ _ (sym (has_subscribed _) ∙ sym c.has.ensures ∙ c.if-has.false))
