-- `Cursor::astring`: `string_or` with the bytes of an astring is the definition.
use Rattle.listing_rules.specs.Tokens.{astring}
use Rattle.command_tokens.proofs.Cursor.astring.Goals as goal

pub returns : goal.returns
unfolding astring
returns c = c.string_or.ensures
