-- `Cursor::space`: `byte` with a space is the definition.
use Rattle.listing_rules.specs.Bytes.{text}
use Rattle.command_tokens.proofs.Cursor.space.Goals as goal

pub returns : goal.returns
unfolding text
returns c = c.byte.ensures
