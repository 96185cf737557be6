-- `is_tag_byte` is the definition's test, by the promise of `is_atom_byte`.
use Rattle.listing_rules.specs.Tokens.{tag_byte}
use Rattle.command_writer.proofs.strings.is_tag_byte.Goals as goal

pub returns : goal.returns
unfolding tag_byte
returns c = rw c.is_atom_byte.ensures
