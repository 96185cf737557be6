-- `mailbox_table::flags::Flags::lawful` meets its contract: each membership is a bit, by octets' law `contains-bit` and FlagBits.
use Rattle.listing_rules.proofs.Prelude.{◌∙◌, ap, not}
use Rattle.listing_rules.specs.Flags.{lawful_flags, exists, marked, unmarked}
use Rattle.octets.proofs.Sets.{contains_bit}
use Rattle.mailbox_table.proofs.FlagBits.{none_unnamed}
use Rattle.mailbox_table.proofs.flags.Flags.lawful.Goals as goal

pub returns : goal.returns
unfolding lawful_flags exists marked unmarked
returns c =
    let f = c.args.self.bits in
    rw (
      ap not c.has_some.ensures ∙ none_unnamed f,
      c.has.ensures ∙ contains_bit 0 f,
      c.has-2.ensures ∙ contains_bit 5 f,
      c.has-3.ensures ∙ contains_bit 6 f,
      c.eq.ensures,
    )
