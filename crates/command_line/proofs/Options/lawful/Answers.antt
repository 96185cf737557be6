-- `Options::lawful` meets its contract: its three tests are the bits of SUBSCRIBED, SPECIAL-USE and RECURSIVEMATCH (`contains-bit`).
use Rattle.listing_rules.proofs.Prelude.{◌∙◌}
use Rattle.listing_rules.specs.Options.{lawful_options}
use Rattle.octets.proofs.Sets.{contains_bit}
use Rattle.command_line.specs.OptionSets.{options_is}
use Rattle.command_line.proofs.Options.lawful.Goals as goal

pub returns : goal.returns
unfolding lawful_options options_is
returns c =
    let o = c.args.self.bits in
    rw (c.has.ensures ∙ contains_bit 0 o, c.has-2.ensures ∙ contains_bit 3 o, c.has-3.ensures ∙ contains_bit 2 o)
