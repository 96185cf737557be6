-- `subscriptions::order::comes_before` meets its contract: the library's `<` is the order of names. By PlaceLaws.
use Rattle.listing_rules.proofs.Prelude.{◌∙◌, ◌≡◌}
use Rattle.listing_rules.specs.Orders.{byte_order, is_lt}
use Rattle.mailbox_table.specs.Index.{name_at}
use Rattle.subscriptions.proofs.PlaceLaws.{lt_is}
use Rattle.subscriptions.proofs.order.comes_before.Goals as goal

pub returns : goal.returns
unfolding name_at
returns c =
    let told : c.lt.result ≡ is_lt (byte_order c.name_of.result.now c.args.name.now) = lt_is _ _ _ c.lt.ensures in
    told ∙ rw (c.name_of.ensures, c.of_word.ensures)
