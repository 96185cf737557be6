-- `is_grammatical` is the definition's test: a tag, and at least one byte of patterns (`empty-is`) that fill their list.
use Rattle.command_writer.proofs.Bytes.{empty_is}
use Rattle.command_writer.proofs.is_grammatical.Goals as goal

pub returns : goal.returns
returns c =
    rw (c.is_empty.ensures, c.is_tag.ensures, c.patterns_fill.ensures, empty_is c.args.patterns.now)
