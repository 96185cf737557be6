-- `Options::returns_any` meets its contract: its three tests are the bits of the return options (`contains-bit`).
use Rattle.listing_rules.proofs.Prelude.{◌∙◌}
use Rattle.listing_rules.specs.Joining.{options_from, returns_any}
use Rattle.octets.proofs.Sets.{contains_bit}
use Rattle.command_writer.proofs.options.Options.returns_any.Goals as goal

pub returns : goal.returns
unfolding returns_any options_from
returns c =
    let o = c.args.self.bits in
    rw (c.has-subscribed.ensures ∙ contains_bit 4 o, c.has-children.ensures ∙ contains_bit 5 o, c.has.ensures ∙ contains_bit 6 o)
