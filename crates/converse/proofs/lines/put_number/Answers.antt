-- `converse::put_number` meets its contract: one digit, or two.
use Rattle.octets.proofs.Puts.{put_then}
use Rattle.listing_rules.proofs.Keys.{open_bytes}
use Rattle.conversation.proofs.TalkKeys.{open_texts}
use Rattle.listing_rules.proofs.Prelude.{le-leb, lt-leb}
use Rattle.converse.proofs.lines.put_number.Goals as goal

pub returns-then-k-ge10 : goal.returns-then-k-ge10
unfolding open_bytes open_texts
returns-then-k-ge10 c =
    rw (le-leb 10 _ c.if-k-ge10.true) (put_then c.put-a.ensures c.put.ensures)

pub returns : goal.returns
unfolding open_bytes open_texts
returns c =
    rw (lt-leb 10 _ c.if-k-ge10.false) c.put-2.ensures
