-- `mailbox_table::readers::Readers::one` meets its contract: the bit of the reader, where there is one. By SeenLaws.
use Rattle.mailbox_table.proofs.SeenLaws.{member_none, member_is}
use Rattle.mailbox_table.proofs.readers.Readers.one.Goals as goal

pub returns-then-reader-gt-MAX_READER : goal.returns-then-reader-gt-MAX_READER
returns-then-reader-gt-MAX_READER c = member_none _ c.if-reader-gt-MAX_READER.true

pub returns : goal.returns
returns c = member_is _ c.if-reader-gt-MAX_READER.false
