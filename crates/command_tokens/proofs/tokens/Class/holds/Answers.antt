-- `Class::holds`: each class has the bytes of its definition. Rests on the promise of `is_atom`.
use Rattle.listing_rules.specs.Bytes.{text, one_of}
use Rattle.listing_rules.specs.Tokens.{tag_byte, astring_byte, pattern_byte}
use Rattle.command_tokens.proofs.tokens.Class.holds.Goals as goal

pub returns-in-Tag : goal.returns-in-Tag
unfolding tag_byte
returns-in-Tag c =
    rw (c.in-Tag.is, c.is_atom.ensures)

pub returns-in-Astring : goal.returns-in-Astring
unfolding astring_byte
returns-in-Astring c =
    rw (c.in-Astring.is, c.is_atom-in-Astring.ensures)

pub returns-in-Pattern : goal.returns-in-Pattern
unfolding pattern_byte one_of text
returns-in-Pattern c =
    rw (c.in-Pattern.is, c.is_atom-in-Pattern.ensures, c.contains.ensures.value)
