-- What stays from one frame to the next, who is answered what, and series of commands as they are sent (`sessions-hold` of proofs/SessionTables).
use Rattle.std.specs.Prelude.{List, [], ◌∷◌, ◌++◌, ℕ}
use Prim.Native.String.{String}
use Rattle.listing_rules.specs.Bytes.{text}
use Rattle.listing_rules.specs.Records.{Record}
use Rattle.listing_rules.specs.Server.{refusal, answered}
use Rattle.listing_rules.specs.Series.{Sent}
use Rattle.listing_rules.specs.Walk.{walk_refused, walked, packed}
use Rattle.listing_rules.specs.Cases.{mailbox_for, times, sends, lines, Lent, Case, program, serves, collects, lays_out, sent_series}

-- The namespace list stays over a row, a command, a walk, a bad frame, an edit and a 4D after it, and a second entry comes after the first:
-- 4E (personal "" "/"), a row a, NAMESPACE, 4E (shared "" NIL), a walk, 58, LSUB, a row b, SUBSCRIBE b, 4D, NAMESPACE, a walk.
abbrev pub program_keeps_the_list : List Case
program_keeps_the_list =
    program (text "4E00002F\n4D0001FF0161\n430061204E414D4553504143450D0A\n4E020000\n570000\n58\n430061204C535542202222202A0D0A\n4D0001FF0162\n"
    ++ text "4300612053554253435249424520620D0A\n4D\n430061204E414D4553504143450D0A\n570000\n")
    (text "412A204E414D455350414345202828222220222F222929204E494C204E494C0D0A61204F4B20646F6E650D0A\n570001\n520D\n4161204F4B20646F6E650D0A\n"
    ++ text
    "4161204F4B20646F6E650D0A\n520D\n412A204E414D455350414345202828222220222F222929204E494C2028282222204E494C29290D0A61204F4B20646F6E650D0A\n5700010162\n")
    ∷ []

-- LSUB, LIST, the root line and NAMESPACE are no edits: a 4D after each is a row. The last LIST has all four, and the walk finds d.
abbrev pub program_rows_after_commands : List Case
program_rows_after_commands =
    program (text
    "430061204C535542202222202A0D0A\n4D0001FF0161\n430061204C495354202222202A0D0A\n4D0001FF0162\n430061204C4953542022222022220D0A\n4D0001FF0163\n"
    ++ text "430061204E414D4553504143450D0A\n4D0003FF0164\n430061204C495354202222202A0D0A\n570000\n")
    (text
    "4161204F4B20646F6E650D0A\n412A204C49535420282920222F22202261220D0A61204F4B20646F6E650D0A\n412A204C49535420285C4E6F73656C6563742920222F222022220D0A61204F4B20646F6E650D0A\n"
    ++ (text
    "412A204E414D455350414345204E494C204E494C204E494C0D0A61204F4B20646F6E650D0A\n412A204C49535420282920222F22202261220D0A2A204C49535420282920222F22202262220D0A"
    ++ text "2A204C49535420282920222F22202263220D0A2A204C49535420282920222F22202264220D0A61204F4B20646F6E650D0A\n5700010164\n"))
    ∷ []

-- Reader 0 sees a and reader 3 sees b, by commands too, before an edit and after it; NAMESPACE is answered to reader 3; reader 8 is 16.
abbrev pub program_answers_readers : List Case
program_answers_readers =
    program (text
    "4D0003010161\n4D0003080162\n430061204C495354202222202A0D0A\n430361204C495354202222202A0D0A\n430361204E414D4553504143450D0A\n430861204E414D4553504143450D0A\n"
    ++ text "570300\n570800\n4300612053554253435249424520610D0A\n430361204C495354202222202A0D0A\n")
    (text "412A204C49535420282920222F22202261220D0A61204F4B20646F6E650D0A\n412A204C49535420282920222F22202262220D0A61204F4B20646F6E650D0A\n"
    ++ (text "412A204E414D455350414345204E494C204E494C204E494C0D0A61204F4B20646F6E650D0A\n5210\n5700010162\n5210\n4161204F4B20646F6E650D0A\n"
    ++ text "412A204C49535420282920222F22202262220D0A61204F4B20646F6E650D0A\n"))
    ∷ []

-- the entries, with a reader above 0 and one above 7
abbrev two_readers : List ℕ
two_readers = mailbox_for 0x01 0x0003 "a" ++ mailbox_for 0x08 0x0003 "b"

abbrev pub entries_answer_readers : List Case
entries_answer_readers =
    serves 0 two_readers [] (sends "x LIST \"\" *") (answered (lines ("* LIST () \"/\" \"a\"" ∷ "x OK done" ∷ [])))
    ∷ serves 3 two_readers [] (sends "x LIST \"\" *") (answered (lines ("* LIST () \"/\" \"b\"" ∷ "x OK done" ∷ [])))
    ∷ serves 3 two_readers [] (sends "x NAMESPACE") (answered (lines ("* NAMESPACE NIL NIL NIL" ∷ "x OK done" ∷ [])))
    ∷ serves 8 two_readers [] (sends "x NAMESPACE") (refusal 16)
    ∷ serves 3 two_readers (9 ∷ []) (sends "x NAMESPACE") (refusal 2)
    ∷ collects 0 two_readers 0 (walked 1 (packed (text "a" ∷ [])) [])
    ∷ collects 3 two_readers 0 (walked 1 (packed (text "b" ∷ [])) [])
    ∷ collects 8 two_readers 0 (walk_refused 16)
    ∷ []

-- the program's store, whole: 512 records, 16,384 bytes, spare records and unused bytes zero
abbrev pub program_lays_out : List Case
program_lays_out =
    lays_out [] [] []
    ∷ lays_out (mailbox_for 0x08 0x0021 "Foo/x" ++ mailbox_for 0xFF 0x0002 "Moo")
    (record { flags = 0x0021; start = 0; len = 5; readers = 0x08 } ∷ record { flags = 0x0002; start = 5; len = 3; readers = 0xFF } ∷ [])
    (text "Foo/xMoo")
    ∷ []

-- a row b, subscribed; three spare records and room for three names
abbrev b_subscribed : Lent
b_subscribed =
    record {
      area = text "b?????";
      records = record { flags = 0x0003; start = 0; len = 1; readers = 0xFF } ∷ spare ∷ spare ∷ spare ∷ [];
      count = 1;
    }
  where
    spare : Record
    spare = record { flags = 0; start = 0; len = 0; readers = 0 }

abbrev sending : ℕ → List ℕ → ℕ → String → Sent
sending reader spaces room l = record { reader = reader; namespaces = spaces; line = sends l; buffer = times room 0 }

-- what another reader sends, what is sent under a list that does not pass, and what has no room for its answer is accepted by no set; nor is what
-- finds no bytes after the command before it
abbrev pub series_as_sent : List Case
series_as_sent =
    sent_series b_subscribed (sending 3 [] 64 "a SUBSCRIBE c" ∷ sending 0 (9 ∷ []) 64 "a SUBSCRIBE d" ∷ sending 0 [] 10 "a SUBSCRIBE e"
    ∷ sending 0 [] 11 "a SUBSCRIBE f" ∷ sending 3 [] 64 "a UNSUBSCRIBE b" ∷ []) (text "b" ∷ text "f" ∷ []) (text "c" ∷ text "d" ∷ text "e" ∷ [])
    ∷ sent_series b_subscribed (sending 0 [] 64 "a UNSUBSCRIBE b" ∷ sending 0 [] 64 "a SUBSCRIBE inbox" ∷ sending 0 [] 64 "a LIST \"\" *" ∷ [])
    (text "INBOX" ∷ []) (text "b" ∷ text "inbox" ∷ [])
    ∷ sent_series b_subscribed (sending 0 [] 64 "a SUBSCRIBE cccc" ∷ sending 0 [] 64 "a SUBSCRIBE dd" ∷ []) (text "b" ∷ text "cccc" ∷ [])
    (text "dd" ∷ [])
    ∷ []
