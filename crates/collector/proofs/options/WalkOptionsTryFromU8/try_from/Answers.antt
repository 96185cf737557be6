-- `try_from` meets its contract: what a lawful byte asks for (`OptionLaws`).
use Rattle.std.specs.Prelude.{Option, Ok, ok_or}
use Rattle.listing_rules.proofs.Prelude.{◌∙◌, ap, sym}
use Rattle.octets.specs.declared.refusals.Refusal.TheVariants.{UnknownOption}
use Rattle.collector.specs.Options.{asked_by}
use Rattle.collector.specs.declared.options.WalkOptions.{WalkOptions}
use Rattle.collector.proofs.OptionLaws.{has_remote, unlawful_asks}
use Rattle.collector.proofs.options.WalkOptionsTryFromU8.try_from.Goals as goal

pub returns-then-not-lawful : goal.returns-then-not-lawful
returns-then-not-lawful c =
    sym (ap (λ (o : Option WalkOptions). ok_or o UnknownOption) (unlawful_asks c.args.byte (sym c.lawful.ensures ∙ c.if-not-lawful.true)))

pub returns : goal.returns
unfolding asked_by
returns c =
    rw (sym c.lawful.ensures ∙ c.if-not-lawful.false)
    (λ i. Ok (record { criteria = c.criteria-criteria.ensures i; remote = (c.has-remote.ensures ∙ has_remote c.args.byte) i }))
