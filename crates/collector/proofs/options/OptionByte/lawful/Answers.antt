-- `lawful` meets its contract: each test is the option's (`OptionLaws`).
use Rattle.listing_rules.proofs.Prelude.{◌∙◌, ◌&&◌, ◌||◌, not, leb}
use Rattle.listing_rules.specs.Walk.{lawful_byte}
use Rattle.collector.proofs.OptionLaws.{has_special, has_dropped}
use Rattle.collector.proofs.options.OptionByte.lawful.Goals as goal

pub returns : goal.returns
unfolding lawful_byte
returns c =
    let byte = c.args.self.bits in
    λ i. leb byte 7 && (not ((c.has.ensures ∙ has_dropped byte) i) || (c.has-2.ensures ∙ has_special byte) i)
