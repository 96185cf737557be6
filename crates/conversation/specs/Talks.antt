-- Conversations to compute: the pieces that a client sends, and all that it is sent, from the greeting on.
use Rattle.std.specs.Prelude.{List, [], ◌∷◌, ◌++◌, Bool, true, false, cond, ◌&&◌, replicate, ℕ, suc, ◌+◌}
use Prim.Native.String.{String}
use Rattle.listing_rules.specs.Bytes.{text, crlf, same, digit0}
use Rattle.listing_rules.specs.Subscriptions.{Store, zero_record}
use Rattle.listing_rules.specs.Summary.{Summed, same_summaries, no_summary, counted_first}
use Rattle.listing_rules.specs.Cases.{sends, lines, same_store, same_flag}
use Rattle.conversation.specs.Conversation.{Setting, conversed_in, opened, greeting}

-- INBOX, Foo (subscribed) and Foo/Bar, which reader 0 alone sees; 3 unused bytes and 2 spare records
abbrev pub small : Store
small =
    record {
      records = record { flags = 3; start = 3; len = 3; readers = 255 }
          ∷ record { flags = 1; start = 6; len = 7; readers = 1 }
          ∷ record { flags = 1; start = 13; len = 5; readers = 255 }
          ∷ zero_record
          ∷ zero_record
          ∷ [];
      count = 3;
      area = replicate 3 0 ++ text "FooFoo/BarINBOX";
    }

-- the same with Moo subscribed, in the three bytes that were unused
abbrev pub with_moo : Store
with_moo =
    record {
      records = record { flags = 3; start = 3; len = 3; readers = 255 }
          ∷ record { flags = 1; start = 6; len = 7; readers = 1 }
          ∷ record { flags = 1; start = 13; len = 5; readers = 255 }
          ∷ record { flags = 2; start = 0; len = 3; readers = 255 }
          ∷ zero_record
          ∷ [];
      count = 4;
      area = text "MooFooFoo/BarINBOX";
    }

-- Foo and INBOX with two unused bytes before each; the same compacted, and with Moo in it
abbrev pub parted : Store
parted =
    record {
      records = record { flags = 1; start = 2; len = 3; readers = 255 } ∷ record { flags = 1; start = 7; len = 5; readers = 255 } ∷ zero_record ∷ [];
      count = 2;
      area = 0 ∷ 0 ∷ (text "Foo" ++ (0 ∷ 0 ∷ text "INBOX"));
    }

abbrev pub gathered : Store
gathered =
    record {
      records = record { flags = 1; start = 0; len = 3; readers = 255 } ∷ record { flags = 1; start = 3; len = 5; readers = 255 } ∷ zero_record ∷ [];
      count = 2;
      area = text "FooINBOX" ++ replicate 4 0;
    }

abbrev pub gathered_moo : Store
gathered_moo =
    record {
      records = record { flags = 1; start = 0; len = 3; readers = 255 }
          ∷ record { flags = 1; start = 3; len = 5; readers = 255 }
          ∷ record { flags = 2; start = 8; len = 3; readers = 255 }
          ∷ [];
      count = 3;
      area = text "FooINBOXMoo" ++ (0 ∷ []);
    }

-- Foo twice, and a summary that counts a row that is not there
abbrev pub unsound : Store
unsound =
    record {
      records = record { flags = 1; start = 0; len = 3; readers = 255 } ∷ record { flags = 1; start = 3; len = 3; readers = 255 } ∷ [];
      count = 2;
      area = text "FooFoo";
    }

abbrev pub miscounted : Summed
miscounted =
    record {
      store = small;
      summary = record { subscribed_local = 0; subscribed_remote = 0; existing_local = 2; existing_remote = 0 } ∷ replicate 4 no_summary;
    }

abbrev pub as_reader : ℕ → Setting
as_reader n = record { reader = n; namespaces = []; compacts = true; accepts_login = false; longest = 1572864 }

abbrev pub taking_login : Setting
taking_login = record { reader = 0; namespaces = []; compacts = true; accepts_login = true; longest = 1572864 }

-- as while a record is written: nothing is compacted
abbrev pub recording : ℕ → Setting
recording n = record { reader = 0; namespaces = []; compacts = false; accepts_login = false; longest = n }

-- a class above 2
abbrev pub bad_list : Setting
bad_list = record { reader = 0; namespaces = 3 ∷ 0 ∷ 47 ∷ []; compacts = true; accepts_login = false; longest = 1572864 }

abbrev pub hello : ℕ → List ℕ
hello n = text "* PREAUTH [CAPABILITY IMAP4rev1 LIST-EXTENDED SPECIAL-USE CHILDREN NAMESPACE ID] Luspemaro, for reader " ++ ((digit0 + n) ∷ crlf)

-- what is sent in pieces, all that is sent back, what is stored then, whether the connection has ended, and whether an edit was accepted
pub record Case : Type 0 where
  pub setting : Setting
  pub from : Summed
  pub sent : List (List ℕ)
  pub expected : List ℕ
  pub left : Summed
  pub ends : Bool
  pub edits : Bool

abbrev pub case : ℕ → List (List ℕ) → List String → Case
case n sent ls =
    record {
      setting = as_reader n;
      from = counted_first small;
      sent = sent;
      expected = hello n ++ lines ls;
      left = counted_first small;
      ends = false;
      edits = false;
    }

-- one whose setting is given; one that ends; one that edits, from a store to a store; one that is not served
abbrev pub within : Setting → List (List ℕ) → List String → Case
within w sent ls =
    record {
      setting = w;
      from = counted_first small;
      sent = sent;
      expected = hello 0 ++ lines ls;
      left = counted_first small;
      ends = false;
      edits = false;
    }

abbrev pub ending : ℕ → List (List ℕ) → List String → Case
ending n sent ls =
    record {
      setting = as_reader n;
      from = counted_first small;
      sent = sent;
      expected = hello n ++ lines ls;
      left = counted_first small;
      ends = true;
      edits = false;
    }

abbrev pub storing : Setting → Store → List (List ℕ) → List String → Store → Bool → Case
storing w s sent ls t accepted =
    record { setting = w; from = counted_first s; sent = sent; expected = hello 0 ++ lines ls; left = counted_first t; ends = false; edits = accepted }

abbrev pub refusing : Setting → Summed → List String → Case
refusing w m ls = record { setting = w; from = m; sent = sends "a LOGOUT" ∷ []; expected = lines ls; left = m; ends = true; edits = false }

abbrev pub same_summed : Summed → Summed → Bool
same_summed a b = same_store a.store b.store && same_summaries a.summary b.summary

abbrev pub holds : Case → Bool
holds c =
    let r = conversed_in c.setting (opened c.setting c.from) c.sent in
    same (greeting c.setting c.from ++ r.output) c.expected && same_summed r.state.store c.left
    && same_flag r.state.ended c.ends && same_flag r.edits c.edits

-- the numbers of the conversations that fail, counted from k
abbrev pub failures : ℕ → List Case → List ℕ
failures k [] = []
failures k (c ∷ cs) = let r = failures (suc k) cs in cond (holds c) r (k ∷ r)

abbrev pub said : List String → List (List ℕ)
said [] = []
said (s ∷ ss) = sends s ∷ said ss

unfoldable pub talks : List Case
talks =
    -- 1 a command of the library, byte for byte, for two readers
    case 0 (said ("a LIST \"\" *" ∷ [])) ("* LIST () \"/\" \"Foo\"" ∷ "* LIST () \"/\" \"Foo/Bar\"" ∷ "* LIST () \"/\" \"INBOX\"" ∷ "a OK done" ∷ [])
    ∷ case 3 (said ("a LIST \"\" *" ∷ [])) ("* LIST () \"/\" \"Foo\"" ∷ "* LIST () \"/\" \"INBOX\"" ∷ "a OK done" ∷ [])
    -- 3 the own words, in any case of letters
    ∷ case 0 (said ("a CAPABILITY" ∷ "b noop" ∷ []))
    ("* CAPABILITY IMAP4rev1 LIST-EXTENDED SPECIAL-USE CHILDREN NAMESPACE ID" ∷ "a OK done" ∷ "b OK done" ∷ [])
    ∷ case 0 (said ("a ID NIL" ∷ "b id (\"name\" \"x\")" ∷ "c ID" ∷ []))
    ("* ID (\"name\" \"Luspemaro\" \"version\" \"0.1.0\")"
    ∷ "a OK done"
    ∷ "* ID (\"name\" \"Luspemaro\" \"version\" \"0.1.0\")"
    ∷ "b OK done"
    ∷ "c BAD a list or NIL comes after ID"
    ∷ [])
    -- 5 after LOGOUT nothing; with something after the word the connection goes on
    ∷ ending 0 (said ("a LOGOUT" ∷ "b NOOP" ∷ [])) ("* BYE Luspemaro" ∷ "a OK done" ∷ [])
    ∷ case 0 (said ("a LOGOUT now" ∷ "b NOOP " ∷ [])) ("a BAD nothing comes after this word" ∷ "b BAD nothing comes after this word" ∷ [])
    -- 7 other words
    ∷ case 0 (said ("a SELECT INBOX" ∷ []))
    ("a NO [CANNOT] no messages are served here, only the names of mailboxes: LIST, LSUB, NAMESPACE, SUBSCRIBE, UNSUBSCRIBE, CAPABILITY, ID, NOOP, LOGOUT"
    ∷ [])
    -- 8 refusals with their tag, and with none
    ∷ case 0 (said ("a1 LIST" ∷ "a+ LIST" ∷ "" ∷ "a1" ∷ []))
    ("a1 BAD [refusal 4] the tag, or the rest after a known word, is off the grammar"
    ∷ "* BAD [refusal 4] the tag, or the rest after a known word, is off the grammar"
    ∷ "* BAD [refusal 4] the tag, or the rest after a known word, is off the grammar"
    ∷ "a1 BAD [refusal 4] the tag, or the rest after a known word, is off the grammar"
    ∷ [])
    ∷ case 0 (said ("a  NOOP" ∷ [])) ("a BAD [refusal 5] the word is none of LIST, LSUB, NAMESPACE, SUBSCRIBE, UNSUBSCRIBE" ∷ [])
    -- 10 the feeder's refusals: a byte 00, a literal of over 1,024 bytes; the rest of the line is dropped
    ∷ case 0 ((text "a LIST " ++ (0 ∷ text "x")) ∷ sends "" ∷ sends "b NOOP" ∷ [])
    ("a BAD [refusal 3] too long, no CR LF at its end, a byte that no line has, a literal cut short or too long" ∷ "b OK done" ∷ [])
    ∷ case 0 ((0 ∷ []) ∷ sends "" ∷ sends "c APPEND x {5000}" ∷ sends "d NOOP" ∷ [])
    ("* BAD [refusal 3] too long, no CR LF at its end, a byte that no line has, a literal cut short or too long"
    ∷ "c BAD [refusal 3] too long, no CR LF at its end, a byte that no line has, a literal cut short or too long"
    ∷ "d OK done"
    ∷ [])
    -- 12 a literal, with its continuation; cut in odd places; accepted again where the row is there already
    ∷ storing (as_reader 0) small (text "a SUBSCRIBE {" ∷ (text "3}" ++ (13 ∷ [])) ∷ (10 ∷ text "M") ∷ (text "oo" ++ crlf) ∷ []) ("+ go" ∷ "a OK done" ∷ [])
    with_moo
    true
    ∷ storing (as_reader 0) with_moo (said ("a SUBSCRIBE Moo" ∷ [])) ("a OK done" ∷ []) with_moo true
    -- 14 edits from another reader; one that changes no row; a name that is not lawful
    ∷ case 1 (said ("a SUBSCRIBE Moo" ∷ [])) ("a NO [refusal 16] the reader is above 7, or an edit comes from another reader than 0" ∷ [])
    ∷ storing (as_reader 0) small (said ("a UNSUBSCRIBE Moo" ∷ [])) ("a OK done" ∷ []) small true
    ∷ case 0 (said ("b SUBSCRIBE \"\"" ∷ [])) ("b NO [refusal 14] SUBSCRIBE: an unlawful name, or one below a row with no inferiors" ∷ [])
    -- 17 compacted for a SUBSCRIBE that is refused with 15; refused again, the compacted names stay; not compacted while a record is written
    ∷ storing (as_reader 0) parted (said ("a SUBSCRIBE Moo" ∷ [])) ("a OK done" ∷ []) gathered_moo true
    ∷ storing (as_reader 0) parted (said ("a SUBSCRIBE Moooo" ∷ []))
    ("a NO [refusal 15] SUBSCRIBE would insert a row: 512 rows, no spare record, or no free run long enough" ∷ [])
    gathered
    false
    ∷ storing (recording 16384) parted (said ("a SUBSCRIBE Moo" ∷ []))
    ("a NO [refusal 15] SUBSCRIBE would insert a row: 512 rows, no spare record, or no free run long enough" ∷ [])
    parted
    false
    -- 20 an answer of 36 bytes, where the longest has 36 and where it has 35
    ∷ within (recording 36) (said ("a NAMESPACE" ∷ [])) ("* NAMESPACE NIL NIL NIL" ∷ "a OK done" ∷ [])
    ∷ within (recording 35) (said ("a NAMESPACE" ∷ "b NOOP" ∷ [])) ("a NO [refusal 9] the answer, or the line, is longer than its buffer" ∷ "b OK done" ∷ [])
    -- 22 logins, where none is taken and where LOGIN is
    ∷ case 0 (said ("a LOGIN x y" ∷ "b LOGIN" ∷ "c AUTHENTICATE PLAIN" ∷ []))
    ("a NO [CANNOT] PREAUTH was the greeting: this connection needs no login, and none is taken"
    ∷ "b NO [CANNOT] PREAUTH was the greeting: this connection needs no login, and none is taken"
    ∷ "c NO [CANNOT] PREAUTH was the greeting: this connection needs no login, and none is taken"
    ∷ [])
    ∷ within taking_login (said ("a login x y" ∷ "b LOGIN" ∷ "c AUTHENTICATE PLAIN" ∷ []))
    ("a OK done"
    ∷ "b BAD a name and a password come after LOGIN"
    ∷ "c NO [CANNOT] PREAUTH was the greeting: this connection needs no login; LOGIN is taken, AUTHENTICATE is not"
    ∷ [])
    -- 24 not served: a table that does not pass, a summary that disagrees, a namespace list that does not pass, a reader above 7
    ∷ refusing (as_reader 0) (counted_first unsound)
    ("* BYE [refusal 1] the mailbox table or its summary does not pass, or count is above the records lent" ∷ [])
    ∷ refusing (as_reader 3) miscounted ("* BYE [refusal 1] the mailbox table or its summary does not pass, or count is above the records lent" ∷ [])
    ∷ refusing bad_list (counted_first small) ("* BYE [refusal 2] the namespace list does not pass" ∷ [])
    ∷ refusing (as_reader 8) (counted_first unsound) ("* BYE [refusal 16] the reader is above 7, or an edit comes from another reader than 0" ∷ [])
    -- 28 a command that is not whole gets no answer
    ∷ case 0 (sends "a NOOP" ∷ text "b NOOP" ∷ []) ("a OK done" ∷ [])
    ∷ []
