-- Keys that open this crate's definitions for a proof by computation.
use Rattle.feeder.specs.Feed.{kept_of}
use Rattle.conversation.specs.Texts.{no_tag, ok_word, no_word, bad_word, closing, untagged, done_text, capabilities, capability_text, version, id_text}
use Rattle.conversation.specs.Texts.{bye_text, cannot_text, no_login_text, no_authenticate_text, login_needs_text, alone_text, id_needs_text, number_text}
use Rattle.conversation.specs.Texts.{welcome, farewell, meanings, meaning, status_of, refusal_text, refusal_line, not_kept, hint}
use Rattle.conversation.specs.Conversation.{tag_among, tag_of, started, goes_on, done, alone, identified, logged_in, authenticated, own_answer, says}
use Rattle.conversation.specs.Conversation.{decided_over, decided, worded, replied, reply_to, silent, replying, heard_byte, followed, conversed}
use Rattle.conversation.specs.Conversation.{conversed_in, unserved, is_served, greeting, opened, conversation}
use Rattle.conversation.specs.Talks.{talks}

unfoldable pub open_texts : Unit {0}
unfolding no_tag ok_word no_word bad_word closing untagged done_text capabilities capability_text version id_text bye_text cannot_text no_login_text
    no_authenticate_text login_needs_text alone_text id_needs_text number_text welcome farewell meanings meaning status_of refusal_text refusal_line not_kept hint
open_texts = tt

unfoldable pub open_conversation : Unit {0}
unfolding tag_among tag_of started goes_on done alone identified logged_in authenticated own_answer says decided_over decided worded replied reply_to silent
    replying heard_byte followed conversed conversed_in unserved is_served greeting opened conversation kept_of talks
open_conversation = tt
