-- `converse::put_tag` meets its contract: the tag, or `*`.
use Rattle.listing_rules.proofs.Keys.{open_bytes}
use Rattle.conversation.proofs.TalkKeys.{open_texts}
use Rattle.converse.proofs.tags.put_tag.Goals as goal

pub returns-in-None : goal.returns-in-None
unfolding open_bytes open_texts
returns-in-None c = rw c.in-None.ensures.missing c.put.ensures
