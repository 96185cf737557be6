-- `is_find` meets its contract: each test is the attribute's (`FindLaws`) or the option's (`OptionLaws`).
use Rattle.listing_rules.proofs.Prelude.{◌∙◌, ap, sym, ◌&&◌, ◌||◌, not, arith}
use Rattle.listing_rules.specs.Walk.{is_find}
use Rattle.collector.proofs.OptionLaws.{byte_remote, byte_special, byte_drops}
use Rattle.collector.proofs.FindLaws.{has_attribute, some_use}
use Rattle.collector.proofs.lines.is_find.Goals as goal

pub returns : goal.returns
unfolding is_find
returns c =
    let options = c.args.options in
    let attributes = c.args.attributes.bits in
    let dropped = ap not c.subscribed.ensures ∙ sym (byte_drops options) in
    let subscribed = c.has.ensures ∙ has_attribute 5 attributes (omega arith) in
    let remote = c.has-2.ensures ∙ has_attribute 4 attributes (omega arith) in
    let special = c.special_use.ensures ∙ sym (byte_special options) in
    λ i. (dropped i || subscribed i) && (not (remote i) || sym (byte_remote options) i) && (not (special i) || (c.has_some.ensures ∙ some_use attributes) i)
