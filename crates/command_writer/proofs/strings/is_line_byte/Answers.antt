-- `is_line_byte` is the definition's test.
use Rattle.listing_rules.proofs.Prelude.{refl}
use Rattle.listing_rules.specs.Bytes.{within}
use Rattle.listing_rules.specs.Tokens.{line_byte}
use Rattle.command_writer.proofs.strings.is_line_byte.Goals as goal

pub returns : goal.returns
unfolding line_byte within
returns c = refl
