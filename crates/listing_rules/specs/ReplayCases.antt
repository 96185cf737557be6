-- Cases of W14: logs, what a replay reports of them, whole and byte by byte, the table at the end, and logs of the program's own
-- (`replays-hold` of proofs/ReplayTables).
use Rattle.std.specs.Prelude.{List, [], ◌∷◌, ◌++◌, Bool, cond, ◌&&◌, eqb, ℕ, suc}
use Prim.Native.String.{String}
use Rattle.listing_rules.specs.Bytes.{text, same, LF}
use Rattle.listing_rules.specs.Subscriptions.{zero_record, subscribed_names}
use Rattle.listing_rules.specs.Summary.{Summed, agrees, counted_first}
use Rattle.listing_rules.specs.Frames.{hex, program_summed, kept_summed, Session, start, fed_all}
use Rattle.listing_rules.specs.Replay.{Replayed, replay, replay_number, replay_frame, replay_start, replay_all, replay_pieces, replay_end, session_log}
use Rattle.listing_rules.specs.Cases.{mailbox, entry, times, sends, lines, same_names}
use Rattle.listing_rules.specs.ExpertSheet.{table_e}

-- Rows Foo/Baz 0003 and Moo 0001, one spare record and six free bytes, with their summary.
abbrev two : Summed
two =
    counted_first (record {
      records = record { flags = 0x0003; start = 0; len = 7; readers = 0xFF } ∷ record { flags = 0x0001; start = 7; len = 3; readers = 0xFF }
          ∷ zero_record ∷ [];
      count = 2;
      area = text "Foo/BazMoo??????";
    })

-- The number of refusal and the number of the frame that are reported. Where no table is named it is `two`, with an empty namespace list.
pub data ReplayCase : Type 0 where
  -- of this log, whole and byte by byte
  reports : ℕ → ℕ → List ℕ → ReplayCase
  -- of a long log, whole alone
  reports_whole : ℕ → ℕ → List ℕ → ReplayCase
  -- of these packed rows as the program lays them out, this namespace list and this log, whole and byte by byte
  reports_over : List ℕ → List ℕ → ℕ → ℕ → List ℕ → ReplayCase
  -- of these pieces of a log
  reports_cut : ℕ → ℕ → List (List ℕ) → ReplayCase
  -- the names subscribed at the end of this log, whole and byte by byte; the summary agrees then
  leaves : List (List ℕ) → List ℕ → ReplayCase
  -- the program's session over these packed rows and this input logs so; its replay agrees, and the names subscribed at the end are these
  logs : List ℕ → List ℕ → List ℕ → List (List ℕ) → ReplayCase

abbrev comes_to : ℕ → ℕ → Replayed → Bool
comes_to number frame r = eqb (replay_number r.verdict) number && eqb (replay_frame r.verdict) frame

abbrev holds_names : List (List ℕ) → Summed → Bool
holds_names ns m = same_names (subscribed_names m.store) ns && agrees m

-- a log byte by byte
abbrev byte_by_byte : Summed → List ℕ → List ℕ → Replayed
byte_by_byte m spaces log = replay_end (replay_all spaces (replay_start m) log)

-- rows as the program stores them, and its session after them
abbrev loaded : List ℕ → Session
loaded rows = (fed_all start (hex (0x4D ∷ rows) ++ (LF ∷ []))).session

abbrev pub holds_replay : ReplayCase → Bool
holds_replay (reports number frame log) =
    comes_to number frame (replay (two) [] log) && comes_to number frame (byte_by_byte (two) [] log)
holds_replay (reports_whole number frame log) = comes_to number frame (replay (two) [] log)
holds_replay (reports_over rows spaces number frame log) =
    comes_to number frame (replay (program_summed rows) spaces log) && comes_to number frame (byte_by_byte (program_summed rows) spaces log)
holds_replay (reports_cut number frame ps) = comes_to number frame (replay_end (replay_pieces [] (replay_start (two)) ps))
holds_replay (leaves ns log) =
    holds_names ns (replay (two) [] log).left && holds_names ns (byte_by_byte (two) [] log).left
holds_replay (logs rows input log ns) =
    let s = loaded rows in
    let r = replay (kept_summed s.stored.table) [] (session_log s input) in
    same (session_log s input) log && comes_to 0 0 r && holds_names ns r.left

-- the places of the cases that fail, counted from k
abbrev pub replays_failing : ℕ → List ReplayCase → List ℕ
replays_failing k [] = []
replays_failing k (c ∷ cs) = let r = replays_failing (suc k) cs in cond (holds_replay c) r (k ∷ r)

-- frames of a log: any bytes; a command of reader 0 and of another; an answer; a refusal
abbrev frame : List ℕ → List ℕ
frame bs = hex bs ++ (LF ∷ [])

abbrev ask_from : ℕ → String → List ℕ
ask_from reader l = frame (0x43 ∷ reader ∷ sends l)

abbrev ask : String → List ℕ
ask l = ask_from 0 l

abbrev say : List String → List ℕ
say ls = frame (0x41 ∷ lines ls)

abbrev deny : ℕ → List ℕ
deny k = frame (0x52 ∷ k ∷ [])

-- exchanges that agree: a line and OK, OK alone, an unknown word
abbrev moo : List ℕ
moo = ask "a LIST \"\" Moo" ++ say ("* LIST () \"/\" \"Moo\"" ∷ "a OK done" ∷ [])

abbrev quick : List ℕ
quick = ask "a LIST () \"\" \"\"" ++ say ("a OK done" ∷ [])

abbrev foo : List ℕ
foo = ask "b FOO" ++ deny 5

-- the empty log; one exchange and several; digits of lower case, in a command and in an answer
abbrev pub replays_agreeing : List ReplayCase
replays_agreeing =
    reports 0 0 []
    ∷ reports 0 0 moo
    ∷ reports 0 0 (moo ++ (foo ++ quick))
    ∷ reports 0 0 (text "43006220666f6f0d0a\n5205\n")
    ∷ reports 0 0 (ask "a LIST () \"\" \"\"" ++ text "4161204f4b20646f6e650d0a\n")
    ∷ []

-- "the number of the first frame of 43 whose recorded answer differs": another number, another letter, a byte more, a byte less, an answer for a
-- refusal and a refusal for an answer, 41 without bytes; the first of two, at frame 1 and at frame 3; the replay goes on after it
abbrev pub replays_differing : List ReplayCase
replays_differing =
    reports 0 1 (ask "b FOO" ++ deny 4)
    ∷ reports 0 1 (ask "a LIST () \"\" \"\"" ++ say ("a ok done" ∷ []))
    ∷ reports 0 1 (ask "a LIST () \"\" \"\"" ++ frame (0x41 ∷ (lines ("a OK done" ∷ []) ++ (0 ∷ []))))
    ∷ reports 0 1 (ask "a LIST () \"\" \"\"" ++ frame (0x41 ∷ text "a OK done\r"))
    ∷ reports 0 1 (ask "b FOO" ++ say ("b OK done" ∷ []))
    ∷ reports 0 1 (ask "a LIST () \"\" \"\"" ++ deny 9)
    ∷ reports 0 1 (ask "b FOO" ++ frame (0x41 ∷ []))
    ∷ reports 0 3 (foo ++ (ask "b FOO" ++ deny 4))
    ∷ reports 0 3 (foo ++ (ask "b FOO" ++ (deny 4 ++ (ask "b FOO" ++ deny 3))))
    ∷ reports 0 1 (ask "b FOO" ++ (deny 4 ++ foo))
    ∷ []

-- out of turn: an answer or a refusal where a command is due, at frame 1 and at frame 3; a second 43, at frame 2 and at frame 4; an end after 43, at
-- frame 1 and at frame 3; a row, an entry, a walk and its answer
abbrev pub replays_out_of_turn : List ReplayCase
replays_out_of_turn =
    reports 13 1 (deny 5)
    ∷ reports 13 1 (say [])
    ∷ reports 13 3 (foo ++ deny 5)
    ∷ reports 13 3 (foo ++ say ("a OK done" ∷ []))
    ∷ reports 13 2 (ask "b FOO" ++ foo)
    ∷ reports 13 4 (foo ++ (ask "b FOO" ++ foo))
    ∷ reports 13 1 (ask "b FOO")
    ∷ reports 13 3 (foo ++ ask "b FOO")
    ∷ reports 13 1 (frame (0x4D ∷ mailbox 0x0001 "Zoo"))
    ∷ reports 13 2 (ask "b FOO" ++ frame (0x4D ∷ []))
    ∷ reports 13 3 (foo ++ frame (0x4E ∷ []))
    ∷ reports 13 1 (frame (0x57 ∷ 0 ∷ 0 ∷ []))
    ∷ reports 13 2 (ask "b FOO" ++ frame (0x57 ∷ 0 ∷ 1 ∷ []))
    ∷ []

-- unreadable: 43 without its reader, where a command is due and where an answer is; 52 with no byte and with two; an odd number of digits; another
-- character, a space and a CR; an empty frame; another first byte; a last frame without LF, of a command and of an answer, readable or not
abbrev pub replays_unreadable : List ReplayCase
replays_unreadable =
    reports 13 1 (frame (0x43 ∷ []))
    ∷ reports 13 2 (ask "b FOO" ++ frame (0x43 ∷ []))
    ∷ reports 13 2 (ask "b FOO" ++ frame (0x52 ∷ []))
    ∷ reports 13 2 (ask "b FOO" ++ frame (0x52 ∷ 5 ∷ 5 ∷ []))
    ∷ reports 13 1 (text "430\n")
    ∷ reports 13 2 (ask "b FOO" ++ text "520\n")
    ∷ reports 13 1 (text "4300 \n")
    ∷ reports 13 2 (ask "b FOO" ++ text "5205\r\n")
    ∷ reports 13 2 (ask "b FOO" ++ text "520G\n")
    ∷ reports 13 1 (text "\n")
    ∷ reports 13 3 (foo ++ text "\n")
    ∷ reports 13 1 (frame (0x42 ∷ 0 ∷ []))
    ∷ reports 13 1 (text "43006220464F4F0D0A")
    ∷ reports 13 2 (ask "b FOO" ++ text "5205")
    ∷ reports 13 3 (foo ++ text "x")
    ∷ []

-- "whatever differed before": a difference, and then each kind of stop; and what stands after a stop is not looked at
abbrev pub replays_stopped_after_a_difference : List ReplayCase
replays_stopped_after_a_difference =
    reports 13 3 (ask "b FOO" ++ (deny 4 ++ deny 5))
    ∷ reports 13 3 (ask "b FOO" ++ (deny 4 ++ text "\n"))
    ∷ reports 13 3 (ask "b FOO" ++ (deny 4 ++ ask "b FOO"))
    ∷ reports 13 4 (ask "b FOO" ++ (deny 4 ++ (ask "b FOO" ++ ask "b FOO")))
    ∷ reports 13 3 (ask "b FOO" ++ (deny 4 ++ text "4"))
    ∷ reports 13 1 (deny 5 ++ (ask "b FOO" ++ (deny 4 ++ text "\n")))
    ∷ []

-- "In a log a frame of 41 may have up to 32,770 digits": one byte more is unreadable
abbrev pub replays_long_answers : List ReplayCase
replays_long_answers =
    reports_whole 0 1 (ask "b FOO" ++ frame (0x41 ∷ times 16384 0))
    ∷ reports_whole 13 2 (ask "b FOO" ++ frame (0x41 ∷ times 16385 0))
    ∷ []

-- 4,102 for 43, which is a line of 2,049 bytes (3), and one byte more; and for a frame of 52 or of another first byte it makes no difference
abbrev pub replays_long_commands : List ReplayCase
replays_long_commands =
    reports_whole 0 0 (frame (0x43 ∷ times 2050 0) ++ deny 3)
    ∷ reports_whole 13 1 (frame (0x43 ∷ times 2051 0) ++ deny 3)
    ∷ reports_whole 13 2 (ask "b FOO" ++ frame (0x52 ∷ times 2051 5))
    ∷ []

-- readers: the one that a frame names is asked; one above 7 is answered 16, and so is an edit from another reader than 0
abbrev pub replays_of_readers : List ReplayCase
replays_of_readers =
    reports 0 0 (ask_from 7 "b FOO" ++ deny 5)
    ∷ reports 0 0 (ask_from 8 "b FOO" ++ deny 16)
    ∷ reports 0 1 (ask_from 8 "b FOO" ++ deny 5)
    ∷ reports 0 0 (ask_from 3 "a SUBSCRIBE Moo" ++ deny 16)
    ∷ []

-- a starting table or a list that does not pass is no refusal of the replay: each command is answered 1, or 2, and compared
abbrev pub replays_over_what_does_not_pass : List ReplayCase
replays_over_what_does_not_pass =
    reports_over (mailbox 0x0001 "b" ++ mailbox 0x0001 "a") [] 0 0 (ask "a LIST \"\" *" ++ (deny 1 ++ (ask "a SUBSCRIBE a" ++ deny 1)))
    ∷ reports_over (mailbox 0x0001 "b" ++ mailbox 0x0001 "a") [] 0 1 foo
    ∷ reports_over [] (9 ∷ []) 0 0 (ask "a NAMESPACE" ++ deny 2)
    ∷ reports_over [] (entry 0 [] 0x2F) 0 0 (ask "a NAMESPACE" ++ say ("* NAMESPACE ((\"\" \"/\")) NIL NIL" ∷ "a OK done" ∷ []))
    ∷ reports_over [] [] 0 0 (ask "a LIST \"\" *" ++ say ("a OK done" ∷ []))
    ∷ []

-- "edits included": the table at the end is as they left it, whatever was recorded; a later command sees it; one that was not answered in the log, or
-- answered out of turn, was not run; at a stop it is as those before it left it
abbrev pub replays_leave : List ReplayCase
replays_leave =
    leaves (text "Foo/Baz" ∷ []) []
    ∷ leaves (text "Foo/Baz" ∷ text "Moo" ∷ []) (ask "a SUBSCRIBE Moo" ++ say ("a OK done" ∷ []))
    ∷ leaves (text "Zoo" ∷ []) (ask "a SUBSCRIBE Zoo" ++ (deny 15 ++
    (ask "a UNSUBSCRIBE Foo/Baz" ++ (say ("a OK done" ∷ []) ++ ask "a SUBSCRIBE Moo"))))
    ∷ leaves (text "Foo/Baz" ∷ []) (ask "a SUBSCRIBE Moo")
    ∷ leaves (text "Foo/Baz" ∷ []) (ask "a SUBSCRIBE Moo" ++ ask "a SUBSCRIBE Zoo")
    ∷ leaves (text "Foo/Baz" ∷ []) (ask "a SUBSCRIBE Moo" ++ text "\n")
    ∷ leaves (text "Foo/Baz" ∷ []) (ask "a SUBSCRIBE Moo" ++ text "4161204F4B20646F6E650D0A")
    ∷ leaves (text "Foo/Baz" ∷ text "Moo" ∷
    []) (ask "a SUBSCRIBE Moo" ++ (say ("a OK done" ∷ []) ++ (text "\n" ++ (ask "a SUBSCRIBE Zoo" ++ say ("a OK done" ∷ [])))))
    ∷ reports 0 0 (ask "a SUBSCRIBE Zoo" ++ (say ("a OK done" ∷ []) ++ (ask "a LSUB \"\" %o" ++ say ("* LSUB () \"/\" \"Zoo\"" ∷ "a OK done" ∷ []))))
    ∷ []

-- the same logs cut: between frames, within one, before its LF, into empty pieces, and after a stop
abbrev pub replays_cut : List ReplayCase
replays_cut =
    reports_cut 0 0 []
    ∷ reports_cut 0 0 ([] ∷ [] ∷ [])
    ∷ reports_cut 0 0 (ask "b FOO" ∷ deny 5 ∷ quick ∷ [])
    ∷ reports_cut 0 0 (text "4300" ∷ text "6220464F4F0D0A" ∷ [] ∷ text "\n5" ∷ text "205\n" ∷ [])
    ∷ reports_cut 0 3 (foo ∷ text "43006220464F4F0D0A\n520" ∷ text "4\n" ∷ foo ∷ [])
    ∷ reports_cut 13 2 (ask "b FOO" ∷ text "5205" ∷ [])
    ∷ reports_cut 13 1 (text "43006220464F4F0D0A\n" ∷ [] ∷ [])
    ∷ reports_cut 13 3 ((foo ++ text "4") ∷ text "\n" ∷ foo ∷ text "5" ∷ [])
    ∷ []

-- "A log of our own program's commands and answers": a command, an edit, a command over the edited table; "Frames answered with 13 are not logged, nor
-- walks", nor a 4D that is 13 after the edit, nor a frame without its LF. A table that does not pass answers 1.
abbrev pub replays_of_its_own : List ReplayCase
replays_of_its_own =
    logs table_e
    (ask "a LIST \"\" Moo" ++ (ask "b SUBSCRIBE Zoo" ++ (frame (0x57 ∷ 0 ∷ 0 ∷ []) ++
    (text "xyz\n" ++ (frame (0x4D ∷ []) ++ (ask "c LIST (SUBSCRIBED) \"\" *" ++ text "43"))))))
    (moo ++ (ask "b SUBSCRIBE Zoo" ++ (say ("b OK done" ∷ []) ++ (ask "c LIST (SUBSCRIBED) \"\" *"
    ++ say ("* LIST (\\Subscribed) \"/\" \"Foo/Baz\"" ∷ "* LIST (\\Subscribed \\NonExistent) \"/\" \"Zoo\"" ∷ "c OK done" ∷ [])))))
    (text "Foo/Baz" ∷ text "Zoo" ∷ [])
    ∷ logs table_e (text "430062 20\n" ++ (foo ++ text "\n")) (ask "b FOO" ++ deny 5) (text "Foo/Baz" ∷ [])
    ∷ logs (mailbox 0x0001 "b" ++ mailbox 0x0001 "a") (ask "a LIST \"\" *" ++ ask "a SUBSCRIBE a")
    (ask "a LIST \"\" *" ++ (deny 1 ++ (ask "a SUBSCRIBE a" ++ deny 1))) []
    ∷ []
