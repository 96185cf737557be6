-- `Cursor::pattern`: `string_or` with the bytes of a pattern is the definition.
use Rattle.listing_rules.specs.Tokens.{pattern}
use Rattle.command_tokens.proofs.Cursor.pattern.Goals as goal

pub returns : goal.returns
unfolding pattern
returns c = c.string_or.ensures
