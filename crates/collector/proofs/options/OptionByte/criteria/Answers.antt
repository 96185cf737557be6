-- `criteria` meets its contract: each test is the option's (`OptionLaws`).
use Rattle.listing_rules.proofs.Prelude.{◌∙◌, sym}
use Rattle.collector.specs.Options.{criteria_of}
use Rattle.collector.proofs.OptionLaws.{has_special, has_dropped}
use Rattle.collector.proofs.options.OptionByte.criteria.Goals as goal

pub returns-then-has : goal.returns-then-has
unfolding criteria_of
returns-then-has c =
    rw (sym (has_dropped c.args.self.bits) ∙ sym c.has.ensures ∙ c.if-has.true)

pub returns-then-has-2 : goal.returns-then-has-2
unfolding criteria_of
returns-then-has-2 c =
    let byte = c.args.self.bits in
    rw (
      sym (has_dropped byte) ∙ sym c.has.ensures ∙ c.if-has.false,
      sym (has_special byte) ∙ sym c.has-2.ensures ∙ c.if-has-2.true,
    )

pub returns : goal.returns
unfolding criteria_of
returns c =
    let byte = c.args.self.bits in
    rw (
      sym (has_dropped byte) ∙ sym c.has.ensures ∙ c.if-has.false,
      sym (has_special byte) ∙ sym c.has-2.ensures ∙ c.if-has-2.false,
    )
