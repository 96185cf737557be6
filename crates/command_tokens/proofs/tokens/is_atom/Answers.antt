-- `is_atom`: printable, and none of the special bytes.
use Rattle.listing_rules.specs.Bytes.{text, within, one_of}
use Rattle.listing_rules.specs.Tokens.{atom_byte}
use Rattle.command_tokens.proofs.tokens.is_atom.Goals as goal

pub returns : goal.returns
unfolding atom_byte within one_of text
returns c = rw (c.is_ascii_graphic.ensures.value, c.contains.ensures.value)
