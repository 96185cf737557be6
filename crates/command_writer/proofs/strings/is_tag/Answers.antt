-- `is_tag` is the definition's test: at least one byte (`empty-is`), and each one of a tag.
use Rattle.command_writer.proofs.Bytes.{empty_is}
use Rattle.command_writer.proofs.strings.is_tag.Goals as goal

pub returns : goal.returns
returns c =
    rw (c.is_empty.ensures, c.all_of_tag.ensures, empty_is c.args.tag.now)
