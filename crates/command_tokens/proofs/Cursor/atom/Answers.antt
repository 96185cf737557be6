-- `Cursor::atom`: `run` with atom bytes is the definition.
use Rattle.listing_rules.specs.Tokens.{atom}
use Rattle.command_tokens.proofs.Cursor.atom.Goals as goal

pub returns : goal.returns
unfolding atom
returns c = c.run.ensures
