-- `Options::is_lawful` meets its contract: its three tests are the bits of SUBSCRIBED, SPECIAL-USE and RECURSIVEMATCH (`contains-bit`).
use Rattle.listing_rules.proofs.Prelude.{◌∙◌}
use Rattle.listing_rules.specs.Options.{lawful_options}
use Rattle.listing_rules.specs.Joining.{options_from}
use Rattle.octets.proofs.Sets.{contains_bit}
use Rattle.command_writer.proofs.options.Options.is_lawful.Goals as goal

pub returns : goal.returns
unfolding lawful_options options_from
returns c =
    let o = c.args.self.bits in
    rw (c.has.ensures ∙ contains_bit 0 o, c.has-2.ensures ∙ contains_bit 3 o, c.has-3.ensures ∙ contains_bit 2 o)
