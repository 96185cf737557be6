-- The conversations of Talks hold: computed.
use Rattle.listing_rules.proofs.Prelude.{◌≡◌, refl, [], ◌++◌}
use Rattle.listing_rules.proofs.Keys.{open_all}
use Rattle.listing_rules.specs.Bytes.{text, crlf}
use Rattle.conversation.specs.Texts.{not_kept, hint, farewell}
use Rattle.conversation.specs.Talks.{failures, talks}
use Rattle.conversation.proofs.TalkKeys.{open_texts, open_conversation}

-- every conversation gives its bytes, its store, its end and its edits
pub talks_hold : failures 1 talks ≡ []
unfolding open_all open_texts open_conversation
talks_hold = refl

-- what the host sends for a command that it cannot keep
pub not_kept_so : not_kept (text "a1") (text "the log cannot be written, so the command is not answered") ≡ text
    "a1 NO [UNAVAILABLE] the log cannot be written, so the command is not answered" ++ crlf
unfolding open_all open_texts
not_kept_so = refl

-- what it sends of a line that ended in LF alone
pub hint_so : hint ≡ text "* BAD a line ended in LF without CR; a command ends in CR LF, so it is not read yet" ++ crlf
unfolding open_all open_texts
hint_so = refl

-- and when the server ends a connection
pub farewell_so : farewell (text "the server ends") ≡ text "* BYE the server ends" ++ crlf
unfolding open_all open_texts
farewell_so = refl
