-- Each limit, each flag, each attribute's spelling and each refusal of document 01 at both sides: tables by topic, under one claim
-- (`limits-hold` of proofs/Tables).
use Rattle.std.specs.Prelude.{List, [], ◌∷◌, ◌++◌, map, Bool, true, false, replicate, ℕ, zero, suc, ◌+◌, ◌-◌, ◌*◌, ◌/◌, ◌%◌}
use Prim.Native.String.{String}
use Rattle.listing_rules.specs.Bytes.{text, crlf}
use Rattle.listing_rules.specs.Lists.{joined}
use Rattle.listing_rules.specs.Records.{Record}
use Rattle.listing_rules.specs.Command.{Edit, subscribe, unsubscribe}
use Rattle.listing_rules.specs.Subscriptions.{denied as refusedEdit}
use Rattle.listing_rules.specs.Feeder.{handed, go_on, denied}
use Rattle.listing_rules.specs.Options.{Criteria, no_criteria}
use Rattle.listing_rules.specs.Server.{refusal, answered}
use Rattle.listing_rules.specs.LineReader.{line, root}
use Rattle.listing_rules.specs.Walk.{walk_refused, walked, packed}
use Rattle.listing_rules.specs.Cases.{row, mailbox, entry, times, sends, lines, Case, replies, refuses, walks, tables, spaces, answers_into}
use Rattle.listing_rules.specs.Cases.{commands, walks_into, writes, writes_into, gives, reads, program, steps, answers_frame, counts, feeds}
use Rattle.listing_rules.specs.Cases.{continues, Lent, layouts, replies_over, walks_over, edits, inserts, leaves, series, compacts, mailbox_for}
use Rattle.listing_rules.specs.Cases.{replies_to, walks_for, commands_of}
use Rattle.listing_rules.specs.ExpertSheet.{table_e}

abbrev named : List ℕ → List ℕ
named n = row 0x0001 n

-- one existing row of each name
abbrev all_named : List String → List ℕ
all_named ns = joined (map (λ n. named (text n)) ns)

-- a name of so many levels
abbrev deep : ℕ → List ℕ
deep zero = text "a"
deep (suc k) = text "a/" ++ deep k

-- ascending names: two bytes, a backslash in each 32nd, and some a's after them
abbrev many : ℕ → ℕ → ℕ → List ℕ
many zero k more = []
many (suc n) k more = named ((65 + k / 32) ∷ (65 + k % 32) ∷ times more 97) ++ many n (k + 1) more

-- no attribute, and the marked and unmarked one
abbrev plain : List Bool
plain = replicate 16 false

-- what CHILDINFO may name
abbrev none_named : Criteria
none_named = no_criteria

abbrev subscribed_named : Criteria
subscribed_named = record { subscribed = true; special = false }

abbrev special_named : Criteria
special_named = record { subscribed = false; special = true }

abbrev both_named : Criteria
both_named = record { subscribed = true; special = true }

abbrev both_marked : List Bool
both_marked = true ∷ true ∷ replicate 14 false

abbrev noselect : List Bool
noselect = false ∷ false ∷ true ∷ replicate 13 false

-- ascending names of 200 bytes, of which 199 are backslashes, so that each has 399 bytes in quotes
abbrev slashed : ℕ → ℕ → ℕ → List ℕ
slashed f zero k = []
slashed f (suc n) k = row f ((48 + k) ∷ times 199 92) ++ slashed f n (k + 1)

-- tables at the program's limits: an answer of 16,384 bytes and one more; scratch, found and pending filled and overfilled
abbrev long_answer : ℕ → List ℕ
long_answer more = slashed 0x0001 39 0 ++ row 0x0001 (90 ∷ times (91 + more) 97)

abbrev long_scratch : ℕ → List ℕ
long_scratch more = slashed 0x0003 38 0 ++ row 0x0003 (90 ∷ times (79 + more) 97)

abbrev found_names : ℕ → ℕ → List ℕ
found_names zero k = []
found_names (suc n) k = row 0x0003 ((48 + k) ∷ times 198 97) ++ found_names n (k + 1)

abbrev long_found : ℕ → List ℕ
long_found more = found_names 40 0 ++ row 0x0003 (90 ∷ times (190 + more) 97)

-- a first level with a subscribed mailbox below it, and with a subscribed row of its own
abbrev below_level : ℕ → ℕ → List ℕ
below_level b n = row 0x0003 (b ∷ times n 97 ++ text "/a")

abbrev found_level : ℕ → ℕ → List ℕ
found_level b n = row 0x0003 (b ∷ times n 97) ++ below_level b n

abbrev found_levels : ℕ → ℕ → List ℕ
found_levels zero k = []
found_levels (suc n) k = found_level (48 + k) 193 ++ found_levels n (k + 1)

-- one answer: a level of 196 bytes for pending alone, 41 of 194 for both, and a find that found has no room for
abbrev long_pending : ℕ → List ℕ
long_pending more = below_level 33 195 ++ (found_levels 40 0 ++ (found_level 90 (193 + more) ++ row 0x0003 (91 ∷ times 199 97)))

-- levels without a mailbox: a row 0002, a parent of a remote row, and two of a local one
abbrev levels_table : List ℕ
levels_table =
    joined
    (mailbox 0x0002 "P"
    ∷ mailbox 0x0001 "P/q"
    ∷ mailbox 0x0001 "Q"
    ∷ mailbox 0x0002 "Q/n"
    ∷ mailbox 0x0005 "R/r"
    ∷ mailbox 0x0001 "T/u/v"
    ∷ [])

-- a record that these readers see, one that all eight see, one of zeros, and records over the bytes of a text
abbrev at_for : ℕ → ℕ → ℕ → ℕ → Record
at_for readers f s l = record { flags = f; start = s; len = l; readers = readers }

abbrev at : ℕ → ℕ → ℕ → Record
at f s l = at_for 0xFF f s l

abbrev blank : Record
blank = at_for 0 0 0 0

abbrev lent : String → List Record → ℕ → Lent
lent a rs n = record { area = text a; records = rs; count = n }

-- records over so many a's
abbrev over_area : ℕ → List Record → ℕ → Lent
over_area n rs c = record { area = times n 97; records = rs; count = c }

-- so many ascending names of two bytes, side by side, and that the last record is right (0) or reaches past the area (1)
abbrev pair_records : ℕ → ℕ → ℕ → List Record
pair_records zero k bad = at 0x0001 (2 * k) (2 + bad) ∷ []
pair_records (suc n) k bad = at 0x0001 (2 * k) 2 ∷ pair_records n (suc k) bad

abbrev pair_names : ℕ → ℕ → List ℕ
pair_names zero k = []
pair_names (suc n) k = (65 + k / 32) ∷ (65 + k % 32) ∷ pair_names n (suc k)

abbrev pairs : ℕ → ℕ → Lent
pairs n bad = record { area = pair_names n 0; records = pair_records (n - 1) 0 bad; count = n }

-- 513 records, of which so many are rows, and one free byte
abbrev one_byte_free : ℕ → Lent
one_byte_free n = record { area = 63 ∷ []; records = replicate 513 blank; count = n }

-- Moo before Foo/Bar in the area, rubbish between them, and a spare record
abbrev moo_and_foo : Lent
moo_and_foo = lent "Moo%%Foo/Bar" (at 0x0003 5 7 ∷ at 0x0001 0 3 ∷ at 0xFFFF 0 255 ∷ []) 2

-- records over the bytes of a text with so many zeros after it
abbrev together : String → ℕ → List Record → ℕ → Lent
together a zeros rs n = record { area = text a ++ times zeros 0; records = rs; count = n }

-- an edit of a text, and of several
abbrev sub : String → Edit
sub n = subscribe (text n)

abbrev unsub : String → Edit
unsub n = unsubscribe (text n)

abbrev subs : List String → List Edit
subs ns = map sub ns

-- b and d, three free bytes, and two spare records with rubbish in them
abbrev b_and_d : Lent
b_and_d = lent "bd???" (at 0x0001 0 1 ∷ at 0x0001 1 1 ∷ at 0xFFFF 9 9 ∷ at 0xFFFF 0 5 ∷ []) 2

-- a row 0002 between rows that exist, its name after theirs; rubbish on both sides, and a spare record
abbrev b_alone : Lent
b_alone = lent "%ad%bb%" (at 0x0013 1 1 ∷ at 0x0002 4 2 ∷ at 0x0003 2 1 ∷ at 0xFFFF 3 9 ∷ []) 3

-- INBOX, not subscribed, and room for a row of nine bytes
abbrev inbox_lent : ℕ → Lent
inbox_lent f = lent "INBOX?????????" (at f 0 5 ∷ blank ∷ []) 1

-- two free bytes, one, four and two, between names of one byte
abbrev gaps : List Record → ℕ → String → Lent
gaps rs n a = lent a (at 0x0001 2 1 ∷ at 0x0001 4 1 ∷ at 0x0001 9 1 ∷ rs) n

-- names with and without a subscription: existing and not, remote, marked, with a use, in quotes, above and below each other
abbrev subscriptions_table : List ℕ
subscriptions_table =
    joined (mailbox 0x0001 "Foo/Bar" ∷ mailbox 0x0003 "Foo/Baz" ∷ mailbox 0x0007 "Foo/x/y" ∷ mailbox 0x0023 "INBOX" ∷ mailbox 0x0002 "INBOX/z"
    ∷ mailbox 0x0009 "Moo" ∷ mailbox 0x0002 "Moo/\"" ∷ mailbox 0x010B "Q" ∷ mailbox 0x0001 "R" ∷ mailbox 0x0007 "R/r" ∷ mailbox 0x0005 "S" ∷ [])

abbrev lsub_all : List ℕ
lsub_all =
    lines ("* LSUB () \"/\" \"Foo/Baz\"" ∷ "* LSUB () \"/\" \"Foo/x/y\"" ∷ "* LSUB () \"/\" \"INBOX\"" ∷ "* LSUB () \"/\" \"INBOX/z\""
    ∷ "* LSUB () \"/\" \"Moo/\\\"\"" ∷ "* LSUB () \"/\" \"Q\"" ∷ "* LSUB () \"/\" \"R/r\"" ∷ [])

-- flags, row by row: bits 7 and 15, marked with unmarked, and what does not exist
abbrev pub flags_of_a_row : List Case
flags_of_a_row =
    tables (mailbox 0x0001 "a" ∷ mailbox 0x7F3F "a" ∷ mailbox 0x7F5F "a" ∷ mailbox 0x0002 "a" ∷ [] ∷ [])
    (mailbox 0x0081 "a" ∷ mailbox 0x8001 "a" ∷ mailbox 0x0061 "a" ∷ mailbox 0x0000 "a" ∷ mailbox 0x0006 "a" ∷ mailbox 0x0100 "a" ∷ [])
    ∷ []

-- name bytes; 1 to 16 non-empty levels; the INBOX rule looks at the first level alone
abbrev pub names_of_rows : List Case
names_of_rows =
    tables (named (32 ∷ 126 ∷ []) ∷ named (text "\"\\(){}]+&") ∷ named (deep 15) ∷ all_named ("INBOX/inbox" ∷ []) ∷ all_named ("x/inbox" ∷ [])
    ∷ all_named ("inboxx" ∷ []) ∷ [])
    (named (31 ∷ []) ∷ named (127 ∷ []) ∷ named (37 ∷ []) ∷ named (42 ∷ []) ∷ named [] ∷ named (128 ∷ []) ∷ named (deep 16) ∷ all_named ("/a" ∷ [])
    ∷ all_named ("a/" ∷ []) ∷ all_named ("a//b" ∷ []) ∷ all_named ("inbox" ∷ []) ∷ all_named ("INBOx/a" ∷ []) ∷ [])
    ∷ []

-- order by bytes, a prefix first; no row below a row with no inferiors; rows fill the table exactly
abbrev pub order_of_rows : List Case
order_of_rows =
    tables (all_named ("Foo" ∷ "Foo x" ∷ "Foo-x" ∷ "Foo.x" ∷ "Foo/Bar" ∷ []) ∷ (mailbox 0x0011 "a" ++ mailbox 0x0001 "a-b/c") ∷ [])
    (all_named ("b" ∷ "a" ∷ []) ∷ all_named ("a" ∷ "a" ∷ []) ∷ all_named ("ab" ∷ "a" ∷ []) ∷ (mailbox 0x0011 "a" ++ mailbox 0x0001 "a/b")
    ∷ (mailbox 0x0011 "a" ++ (mailbox 0x0001 "a-b" ++ mailbox 0x0002 "a/b/c")) ∷ (0 ∷ 1 ∷ 255 ∷ []) ∷ (0 ∷ 1 ∷ 255 ∷ 2 ∷ 97 ∷ []) ∷
    (mailbox 0x0001 "a" ++ (0
    ∷ [])) ∷ [])
    ∷ []

-- 512 rows and 32,768 bytes
abbrev pub size_of_a_table : List Case
size_of_a_table =
    tables (many 512 0 58 ∷ []) (many 513 0 0 ∷ (many 511 0 58 ++ named (80 ∷ 96 ∷ times 59 97)) ∷ [])
    ∷ []

-- Records (W4) over an area: names at both ends and in any order of their bytes, unused bytes with anything in them, spare records with
-- anything in them, copies of a name in unused bytes; then names that overlap by a byte or lie in one another, that end past the area, an
-- empty one, records that ascend by start and not by name, a count above the records, and the rest of check 1.
abbrev pub records_layout : List Case
records_layout =
    layouts (lent "INBOXxxMoo" (at 0x0001 0 5 ∷ at 0x0001 7 3 ∷ []) 2
    ∷ lent "MooINBOX" (at 0x0001 3 5 ∷ at 0x0001 0 3 ∷ []) 2
    ∷ lent "a" (at 0x0001 0 1 ∷ at 0x8000 9 0 ∷ at 0x0001 0 1 ∷ []) 1
    ∷ lent "a" (at 0x0001 0 1 ∷ []) 0 ∷ lent "" [] 0 ∷ lent "%%" (at 0x0000 0 1 ∷ []) 0
    ∷ lent "Foo\r/\nFoo" (at 0x0001 6 3 ∷ []) 1
    ∷ lent "a/ba" (at 0x0001 3 1 ∷ at 0x0001 0 3 ∷ []) 2 ∷ [])
    (lent "ab" (at 0x0001 0 1 ∷ at 0x0001 0 2 ∷ []) 2 ∷ lent "abc" (at 0x0001 0 2 ∷ at 0x0001 1 2 ∷ []) 2
    ∷ lent "cba" (at 0x0001 1 2 ∷ at 0x0001 0 2 ∷ []) 2 ∷ lent "abc" (at 0x0001 0 3 ∷ at 0x0001 1 1 ∷ []) 2
    ∷ lent "aab" (at 0x0001 1 1 ∷ at 0x0001 0 3 ∷ []) 2
    ∷ lent "ab" (at 0x0001 1 2 ∷ []) 1 ∷ lent "ab" (at 0x0001 2 1 ∷ []) 1 ∷ lent "ab" (at 0x0001 65535 200 ∷ []) 1
    ∷ lent "ab" (at 0x0001 1 0 ∷ []) 1 ∷ lent "ba" (at 0x0001 0 1 ∷ at 0x0001 1 1 ∷ []) 2
    ∷ lent "ACxB" (at 0x0001 0 2 ∷ at 0x0001 3 1 ∷ at 0x0001 1 2 ∷ []) 3
    ∷ lent "a" (at 0x0001 0 1 ∷ []) 2 ∷ lent "" [] 1
    ∷ lent "a%" (at 0x0001 0 2 ∷ []) 1 ∷ lent "a" (at 0x0000 0 1 ∷ []) 1 ∷ lent "a/ba" (at 0x0011 3 1 ∷ at 0x0001 0 3 ∷ []) 2 ∷ [])
    ∷ []

-- an area of 32,768 bytes and of one more; 512 records and one more, of which the last is looked at; a name of 200 bytes and of 201
abbrev pub records_size : List Case
records_size =
    layouts (over_area 32768 (at 0x0001 32767 1 ∷ []) 1 ∷ over_area 200 (at 0x0001 0 200 ∷ []) 1 ∷ pairs 512 0 ∷ [])
    (over_area 32769 (at 0x0001 32767 1 ∷ []) 1 ∷ over_area 32769 [] 0 ∷ over_area 201 (at 0x0001 0 201 ∷ []) 1 ∷ pairs 513 0 ∷ pairs 511 1 ∷ [])
    ∷ []

-- a command, a refusal and a walk over records: the rows in the order of their names, the spare record not looked at
abbrev pub records_answered : List Case
records_answered =
    replies_over moo_and_foo 16384 [] (sends "a LIST \"\" * RETURN (CHILDREN)")
    (answered (lines ("* LIST (\\HasNoChildren) \"/\" \"Foo/Bar\"" ∷ "* LIST (\\HasNoChildren) \"/\" \"Moo\"" ∷ "a OK done" ∷ [])))
    ∷ replies_over (lent "a" (at 0x0001 0 1 ∷ []) 2) 16384 (9 ∷ []) (sends "a LIST") (refusal 1)
    ∷ replies_over moo_and_foo 16384 (9 ∷ []) (sends "a LIST") (refusal 2)
    ∷ walks_over moo_and_foo 0 16384 8192 8192 (walked 2 (packed (text "Foo/Bar" ∷ [])) (packed (text "Foo" ∷ [])))
    ∷ walks_over (lent "a" (at 0x0001 1 1 ∷ []) 1) 9 16384 8192 8192 (walk_refused 1)
    ∷ []

-- W6: flags that are set, set again and cleared; rows 0002 that are put in at the front, in the middle and at the end, below a row and above one;
-- a row 0002 taken out, its record and bytes zero, other spare records and unused bytes as they were; edits that change nothing
abbrev pub edits_made : List Case
edits_made =
    edits b_and_d (sub "b" ∷ []) (leaves (lent "bd???" (at 0x0003 0 1 ∷ at 0x0001 1 1 ∷ at 0xFFFF 9 9 ∷ at 0xFFFF 0 5 ∷ []) 2))
    ∷ edits (lent "ab" (at 0x0003 0 1 ∷ at 0x0002 1 1 ∷ []) 2) (subs ("a" ∷ "b" ∷ [])) (leaves (lent "ab" (at 0x0003 0 1 ∷ at 0x0002 1 1 ∷ []) 2))
    ∷ edits (lent "a" (at 0x7F3D 0 1 ∷ []) 1) (sub "a" ∷ []) (leaves (lent "a" (at 0x7F3F 0 1 ∷ []) 1))
    ∷ edits (lent "a" (at 0x0021 0 1 ∷ []) 1) (sub "a" ∷ []) (leaves (lent "a" (at 0x0023 0 1 ∷ []) 1))
    ∷ edits (lent "a" (at 0x7F3F 0 1 ∷ []) 1) (unsub "a" ∷ []) (leaves (lent "a" (at 0x7F3D 0 1 ∷ []) 1))
    ∷ edits (lent "a" (at 0x7F3D 0 1 ∷ []) 1) (unsub "a" ∷ []) (leaves (lent "a" (at 0x7F3D 0 1 ∷ []) 1))
    ∷ edits b_and_d (sub "a" ∷ []) (leaves (lent "bda??" (at 0x0002 2 1 ∷ at 0x0001 0 1 ∷ at 0x0001 1 1 ∷ at 0xFFFF 0 5 ∷ []) 3))
    ∷ edits b_and_d (sub "c" ∷ []) (leaves (lent "bdc??" (at 0x0001 0 1 ∷ at 0x0002 2 1 ∷ at 0x0001 1 1 ∷ at 0xFFFF 0 5 ∷ []) 3))
    ∷ edits b_and_d (sub "b/c" ∷ []) (leaves (lent "bdb/c" (at 0x0001 0 1 ∷ at 0x0002 2 3 ∷ at 0x0001 1 1 ∷ at 0xFFFF 0 5 ∷ []) 3))
    ∷ edits b_and_d (sub "da" ∷ []) (leaves (lent "bdda?" (at 0x0001 0 1 ∷ at 0x0001 1 1 ∷ at 0x0002 2 2 ∷ at 0xFFFF 0 5 ∷ []) 3))
    ∷ edits (lent "Foo/Bar%%%" (at 0x0001 0 7 ∷ at 0x0001 0 1 ∷ []) 1) (sub "Foo" ∷ [])
    (leaves (lent "Foo/BarFoo" (at 0x0002 7 3 ∷ at 0x0001 0 7 ∷ []) 2))
    ∷ edits (lent "??" (at 0x0001 0 1 ∷ []) 0) (sub "a" ∷ []) (leaves (lent "a?" (at 0x0002 0 1 ∷ []) 1))
    ∷ edits b_alone (unsub "bb" ∷ [])
    (leaves (record { area = text "%ad%" ++ (0 ∷ 0 ∷ text "%"); records = at 0x0013 1 1 ∷ at 0x0003 2 1 ∷ blank ∷ at 0xFFFF 3 9 ∷ []; count = 2 }))
    ∷ edits b_alone (unsub "d" ∷ []) (leaves (lent "%ad%bb%" (at 0x0013 1 1 ∷ at 0x0002 4 2 ∷ at 0x0001 2 1 ∷ at 0xFFFF 3 9 ∷ []) 3))
    ∷ edits b_alone (unsub "b" ∷ unsub "bbb" ∷ unsub "" ∷ unsub "%" ∷ unsub "a/x" ∷ unsub "inbox/" ∷ unsubscribe (times 201 97) ∷ sub "bb" ∷ [])
    (leaves b_alone)
    ∷ edits (lent "a" (at 0x0002 0 1 ∷ []) 1) (unsub "a" ∷ []) (leaves (record { area = 0 ∷ []; records = blank ∷ []; count = 0 }))
    ∷ []

-- a first level INBOX in any case of letters is spelled INBOX, and no other is
abbrev pub edits_inbox : List Case
edits_inbox =
    edits (inbox_lent 0x0001) (subs ("inbox" ∷ "INBOX" ∷ "iNbOx" ∷ [])) (leaves (inbox_lent 0x0003))
    ∷ edits (inbox_lent 0x0003) (unsub "inbox" ∷ []) (leaves (inbox_lent 0x0001))
    ∷ edits (inbox_lent 0x0001) (subs ("Inbox/x" ∷ "INBOX/x" ∷ [])) (leaves (lent "INBOXINBOX/x??" (at 0x0001 0 5 ∷ at 0x0002 5 7 ∷ []) 2))
    ∷ edits (lent "INBOX/x" (at 0x0003 0 7 ∷ []) 1) (unsub "inbox/x" ∷ []) (leaves (lent "INBOX/x" (at 0x0001 0 7 ∷ []) 1))
    ∷ edits (inbox_lent 0x0001) (sub "inboxx" ∷ []) (leaves (lent "INBOXinboxx???" (at 0x0001 0 5 ∷ at 0x0002 5 6 ∷ []) 2))
    ∷ edits (inbox_lent 0x0001) (sub "x/inbox" ∷ []) (leaves (lent "INBOXx/inbox??" (at 0x0001 0 5 ∷ at 0x0002 5 7 ∷ []) 2))
    ∷ edits (inbox_lent 0x0001) (subs ("inbox/" ∷ "Inbox//x" ∷ "/inbox" ∷ [])) (refusedEdit 14)
    ∷ []

-- 14 for an unlawful name and below a row with no inferiors; 15 for no spare record, for free bytes that are too few or too scattered; 14 before 15;
-- neither where the name has a row
abbrev pub edits_refused : List Case
edits_refused =
    edits b_and_d (subs ("" ∷ "%" ∷ "a%" ∷ "*" ∷ "/" ∷ "a/" ∷ "/a" ∷ "\u{1f}" ∷ "\u{7f}" ∷ [])) (refusedEdit 14)
    ∷ edits (lent "" (blank ∷ []) 0) (subscribe (times 201 97) ∷ subscribe (deep 16) ∷ subscribe (128 ∷ []) ∷ []) (refusedEdit 14)
    ∷ edits (lent "" (blank ∷ []) 0) (subscribe (times 200 97) ∷ subscribe (deep 15) ∷ sub "a" ∷ []) (refusedEdit 15)
    ∷ edits (lent "a??????" (at 0x0011 0 1 ∷ blank ∷ []) 1) (subs ("a/b" ∷ "a/b/c" ∷ [])) (refusedEdit 14)
    ∷ edits (lent "a???" (at 0x0011 0 1 ∷ blank ∷ []) 1) (sub "a-b" ∷ []) (leaves (lent "aa-b" (at 0x0011 0 1 ∷ at 0x0002 1 3 ∷ []) 2))
    ∷ edits (lent "a/b??????" (at 0x0011 0 3 ∷ blank ∷ []) 1) (sub "a" ∷ []) (leaves (lent "a/ba?????" (at 0x0002 3 1 ∷ at 0x0011 0 3 ∷ []) 2))
    ∷ edits (lent "b?" (at 0x0001 0 1 ∷ []) 1) (subs ("a" ∷ "c" ∷ [])) (refusedEdit 15)
    ∷ edits (lent "b?" (at 0x0001 0 1 ∷ []) 1) (sub "a%" ∷ sub "" ∷ []) (refusedEdit 14)
    ∷ edits (lent "a" (at 0x0011 0 1 ∷ []) 1) (sub "a/b" ∷ []) (refusedEdit 14)
    ∷ edits (lent "b" (at 0x0001 0 1 ∷ []) 1) (sub "b" ∷ []) (leaves (lent "b" (at 0x0003 0 1 ∷ []) 1))
    ∷ edits b_and_d (subs ("aaaa" ∷ "zzzz" ∷ [])) (refusedEdit 15)
    ∷ edits (lent "?b??d?" (at 0x0001 1 1 ∷ at 0x0001 4 1 ∷ blank ∷ []) 2) (sub "aaa" ∷ []) (refusedEdit 15)
    ∷ []

-- the lowest free run that is long enough, the name at its start; bytes free on either side of a freed name, or under spare records, are one run
abbrev pub edits_layout : List Case
edits_layout =
    edits (gaps (at 0xFFFF 0 2 ∷ at 0xFFFF 5 4 ∷ []) 3 "??a?b????c??") (sub "d" ∷ [])
    (leaves (gaps (at 0x0002 0 1 ∷ at 0xFFFF 5 4 ∷ []) 4 "d?a?b????c??"))
    ∷ edits (gaps (at 0xFFFF 0 2 ∷ at 0xFFFF 5 4 ∷ []) 3 "??a?b????c??") (sub "dd" ∷ [])
    (leaves (gaps (at 0x0002 0 2 ∷ at 0xFFFF 5 4 ∷ []) 4 "dda?b????c??"))
    ∷ edits (gaps (at 0xFFFF 0 2 ∷ at 0xFFFF 5 4 ∷ []) 3 "??a?b????c??") (sub "ddd" ∷ [])
    (leaves (gaps (at 0x0002 5 3 ∷ at 0xFFFF 5 4 ∷ []) 4 "??a?bddd?c??"))
    ∷ edits (gaps (at 0xFFFF 0 2 ∷ []) 3 "??a?b????c?????") (sub "ddddd" ∷ []) (leaves (gaps (at 0x0002 10 5 ∷ []) 4 "??a?b????cddddd"))
    ∷ edits (gaps (at 0xFFFF 0 2 ∷ []) 3 "??a?b????c????") (sub "ddddd" ∷ []) (refusedEdit 15)
    ∷ edits (record { area = text "a?" ++ (0 ∷ 0 ∷ text "?c"); records = at 0x0001 0 1 ∷ at 0x0001 5 1 ∷ blank ∷ []; count = 2 }) (sub "bbbb" ∷ [])
    (leaves (lent "abbbbc" (at 0x0001 0 1 ∷ at 0x0002 1 4 ∷ at 0x0001 5 1 ∷ []) 3))
    ∷ edits (lent "???" (blank ∷ []) 0) (sub "abc" ∷ []) (leaves (lent "abc" (at 0x0002 0 3 ∷ []) 1))
    ∷ []

-- a row is put in where there are 511, and none where there are 512, though a record is spare and a byte is free: breaks a limit of 511 or 513
abbrev pub insertion_at_512_rows : List Case
insertion_at_512_rows =
    inserts (one_byte_free 511) (text "a") (leaves (record
    { area = text "a"; records = replicate 511 blank ++ (at 0x0002 0 1 ∷ blank ∷ []); count = 512 }))
    ∷ inserts (one_byte_free 512) (text "a") (refusedEdit 15)
    ∷ []

-- W6 as commands: the word in any case, the name bare, quoted or a literal; the OK line alone; other commands leave everything as it is
abbrev pub edits_commanded : List Case
edits_commanded =
    commands b_and_d 11 [] (lines ("a SUBSCRIBE {1}" ∷ "b" ∷ []) ∷ map sends ("a SUBSCRIBE b" ∷ "a subscribe \"b\"" ∷ []))
    (answered (sends "a OK done"))
    (lent "bd???" (at 0x0003 0 1 ∷ at 0x0001 1 1 ∷ at 0xFFFF 9 9 ∷ at 0xFFFF 0 5 ∷ []) 2)
    ∷ commands b_alone 16384 [] (lines ("+ UNSUBSCRIBE {1}" ∷ "d" ∷ []) ∷ []) (refusal 4) b_alone
    ∷ commands b_alone 16384 [] (lines ("z UNSUBSCRIBE {1}" ∷ "d" ∷ []) ∷ map sends ("z Unsubscribe d" ∷ "z UNSUBSCRIBE \"d\"" ∷ []))
    (answered (sends "z OK done"))
    (lent "%ad%bb%" (at 0x0013 1 1 ∷ at 0x0002 4 2 ∷ at 0x0001 2 1 ∷ at 0xFFFF 3 9 ∷ []) 3)
    ∷ commands b_alone 16384 [] (map sends ("a LIST \"\" x" ∷ "a LSUB \"\" x" ∷ "a UNSUBSCRIBE x" ∷ "a UNSUBSCRIBE \"a%\"" ∷ "a UNSUBSCRIBE \"\"" ∷
    "a SUBSCRIBE bb" ∷ []))
    (answered (sends "a OK done")) b_alone
    ∷ refuses 4 (map sends ("a SUBSCRIBE" ∷ "a SUBSCRIBE " ∷ "a SUBSCRIBE  b" ∷ "a SUBSCRIBE a%" ∷ "a SUBSCRIBE b " ∷ "a SUBSCRIBE b c" ∷
    "a SUBSCRIBE (b)"
    ∷ "a SUBSCRIBE \"\" b" ∷ "a UNSUBSCRIBE" ∷ "a UNSUBSCRIBE a*" ∷ "a UNSUBSCRIBE \"a" ∷ "a UNSUBSCRIBE a RETURN ()" ∷ []))
    ∷ refuses 5 (map sends ("a SUBSCRIBED b" ∷ "a SUBSCRIB b" ∷ "a UNSUBSCRIBES b" ∷ "a UN b" ∷ []))
    ∷ []

-- 1, 2, 3, 4, 14, 15, then 9, and a refusal changes nothing
abbrev pub edits_in_order : List Case
edits_in_order =
    commands (lent "a" (at 0x0001 0 1 ∷ []) 2) 0 (9 ∷ []) (text "a SUBSCRIBE a" ∷ []) (refusal 1) (lent "a" (at 0x0001 0 1 ∷ []) 2)
    ∷ commands b_and_d 0 (9 ∷ []) (sends "a SUBSCRIBE b" ∷ sends "a SUBSCRIBE \"\"" ∷ text "a SUBSCRIBE b" ∷ []) (refusal 2) b_and_d
    ∷ commands b_and_d 0 [] (text "a SUBSCRIBE \"\"" ∷ []) (refusal 3) b_and_d
    ∷ commands b_and_d 0 [] (sends "a SUBSCRIBE a%" ∷ []) (refusal 4) b_and_d
    ∷ commands (lent "b" (at 0x0011 0 1 ∷ []) 1) 0 [] (map sends ("a SUBSCRIBE \"a%\"" ∷ "a SUBSCRIBE \"\"" ∷ "a SUBSCRIBE b/c" ∷ [])) (refusal 14)
    (lent "b" (at 0x0011 0 1 ∷ []) 1)
    ∷ commands (lent "b?" (at 0x0001 0 1 ∷ []) 1) 0 [] (sends "a SUBSCRIBE a" ∷ []) (refusal 15) (lent "b?" (at 0x0001 0 1 ∷ []) 1)
    ∷ commands b_and_d 10 [] (map sends ("a SUBSCRIBE b" ∷ "a SUBSCRIBE c" ∷ "a UNSUBSCRIBE b" ∷ "a UNSUBSCRIBE x" ∷ [])) (refusal 9) b_and_d
    ∷ []

-- edits one after the other, each over what the one before left, with other commands and refusals (14, 15, and 9 for a tag of 55 bytes) between
-- them: the names of a plain set that is given the accepted ones
abbrev pub edits_in_series : List Case
edits_in_series =
    series (inbox_lent 0x0001) (map sends ("a SUBSCRIBE inbox/x" ∷ "b LIST \"\" *" ∷ "c SUBSCRIBE Inbox" ∷ "d SUBSCRIBE INBOX/y" ∷
    "e UNSUBSCRIBE inbox/y" ∷ []))
    (text "INBOX" ∷ text "INBOX/x" ∷ [])
    ∷ series b_alone (map sends ("a UNSUBSCRIBE bb" ∷ "b SUBSCRIBE a/x" ∷ "c SUBSCRIBE \"c%\"" ∷ "d SUBSCRIBE zzzzz" ∷ "e SUBSCRIBE cccc" ∷
    "f UNSUBSCRIBE d" ∷ []))
    (text "a" ∷ text "cccc" ∷ [])
    ∷ series b_and_d
    ((times 55 116 ++ sends " SUBSCRIBE b") ∷ (times 54 116 ++ sends " SUBSCRIBE d") ∷ sends "a SUBSCRIBE c" ∷ sends "b SUBSCRIBE a" ∷
    sends "c SUBSCRIBE e"
    ∷ sends "d UNSUBSCRIBE a" ∷ sends "e SUBSCRIBE f" ∷ (times 55 116 ++ sends " UNSUBSCRIBE c") ∷ [])
    (text "c" ∷ text "d" ∷ text "f" ∷ [])
    ∷ []

-- W7: rubbish before, between and after names, and copies of names in it; names that lie in another order than that of the records; spare records with
-- rubbish, over names and past the area; no rows; an area that is full, and one that is in order already; 1 for a table that does not pass
abbrev pub compactions : List Case
compactions =
    compacts (lent "??a?b??" (at 0x0003 2 1 ∷ at 0x0002 4 1 ∷ []) 2) 0 (together "ab" 5 (at 0x0003 0 1 ∷ at 0x0002 1 1 ∷ []) 2)
    ∷ compacts (lent "ab?ab" (at 0x0001 3 1 ∷ at 0x0001 1 1 ∷ []) 2) 0 (together "ba" 3 (at 0x0001 1 1 ∷ at 0x0001 0 1 ∷ []) 2)
    ∷ compacts moo_and_foo 0 (together "MooFoo/Bar" 2 (at 0x0003 3 7 ∷ at 0x0001 0 3 ∷ at 0xFFFF 0 255 ∷ []) 2)
    ∷ compacts (lent "c?INBOX?bb" (at 0x7F3D 2 5 ∷ at 0x0001 8 2 ∷ at 0x0002 0 1 ∷ []) 3) 0
    (together "cINBOXbb" 2 (at 0x7F3D 1 5 ∷ at 0x0001 6 2 ∷ at 0x0002 0 1 ∷ []) 3)
    ∷ compacts b_alone 0 (together "adbb" 3 (at 0x0013 0 1 ∷ at 0x0002 2 2 ∷ at 0x0003 1 1 ∷ at 0xFFFF 3 9 ∷ []) 3)
    ∷ compacts b_and_d 0 (together "bd" 3 (at 0x0001 0 1 ∷ at 0x0001 1 1 ∷ at 0xFFFF 9 9 ∷ at 0xFFFF 0 5 ∷ []) 2)
    ∷ compacts (lent "???" (at 0xFFFF 1 1 ∷ []) 0) 0 (together "" 3 (at 0xFFFF 1 1 ∷ []) 0)
    ∷ compacts (lent "" [] 0) 0 (lent "" [] 0)
    ∷ compacts (lent "MooINBOX" (at 0x0001 3 5 ∷ at 0x0001 0 3 ∷ []) 2) 0 (lent "MooINBOX" (at 0x0001 3 5 ∷ at 0x0001 0 3 ∷ []) 2)
    ∷ compacts (together "ba" 3 (at 0x0001 1 1 ∷ at 0x0001 0 1 ∷ []) 2) 0 (together "ba" 3 (at 0x0001 1 1 ∷ at 0x0001 0 1 ∷ []) 2)
    ∷ compacts (lent "?abc" (at 0x0001 1 2 ∷ at 0x0001 2 2 ∷ []) 2) 1 (lent "?abc" (at 0x0001 1 2 ∷ at 0x0001 2 2 ∷ []) 2)
    ∷ compacts (lent "?a" (at 0x0001 1 1 ∷ []) 2) 1 (lent "?a" (at 0x0001 1 1 ∷ []) 2)
    ∷ compacts (lent "?ba" (at 0x0001 1 1 ∷ at 0x0001 2 1 ∷ []) 2) 1 (lent "?ba" (at 0x0001 1 1 ∷ at 0x0001 2 1 ∷ []) 2)
    ∷ compacts (lent "?a" (at 0x0000 1 1 ∷ []) 1) 1 (lent "?a" (at 0x0000 1 1 ∷ []) 1)
    ∷ []

-- a long name far behind; an area of one byte too many
abbrev pub compactions_size : List Case
compactions_size =
    compacts (over_area 2000 (at 0x0001 1800 200 ∷ []) 1) 0 (record
    { area = times 200 97 ++ times 1800 0; records = at 0x0001 0 200 ∷ []; count = 1 })
    ∷ compacts (over_area 32769 [] 0) 1 (over_area 32769 [] 0)
    ∷ []

-- SUBSCRIBE before and after: the free bytes in all, and one more
abbrev pub compactions_make_room : List Case
compactions_make_room =
    edits (lent "?b??d?" (at 0x0001 1 1 ∷ at 0x0001 4 1 ∷ blank ∷ []) 2) (subs ("aaa" ∷ "aaaa" ∷ "aaaaa" ∷ [])) (refusedEdit 15)
    ∷ compacts (lent "?b??d?" (at 0x0001 1 1 ∷ at 0x0001 4 1 ∷ blank ∷ []) 2) 0 (together "bd" 4 (at 0x0001 0 1 ∷ at 0x0001 1 1 ∷ blank ∷ []) 2)
    ∷ edits (together "bd" 4 (at 0x0001 0 1 ∷ at 0x0001 1 1 ∷ blank ∷ []) 2) (sub "aaaa" ∷ [])
    (leaves (lent "bdaaaa" (at 0x0002 2 4 ∷ at 0x0001 0 1 ∷ at 0x0001 1 1 ∷ []) 3))
    ∷ edits (together "bd" 4 (at 0x0001 0 1 ∷ at 0x0001 1 1 ∷ blank ∷ []) 2) (sub "aaaaa" ∷ []) (refusedEdit 15)
    ∷ []

-- W9: a parent that reader 0 alone sees above a row that reader 3 alone sees, one that all see above a row of reader 7's, a row with no
-- inferiors that nobody sees, and a use for readers 0 and 3
abbrev readers_table : List ℕ
readers_table =
    joined (mailbox_for 0x01 0x0001 "A" ∷ mailbox_for 0x08 0x0003 "A/b" ∷ mailbox_for 0xFF 0x0001 "C" ∷ mailbox_for 0x80 0x0003 "C/d"
    ∷ mailbox_for 0x00 0x0011 "E" ∷ mailbox_for 0x09 0x0101 "S" ∷ [])

-- what a hidden row does not count for: its own line, \HasChildren, CHILDINFO, LSUB; a hidden parent is an implied name without its flags
abbrev pub readers_answered : List Case
readers_answered =
    replies_to 0 readers_table 16384 (sends "a LIST \"\" * RETURN (CHILDREN SPECIAL-USE)" ∷ [])
    (answered (lines ("* LIST (\\HasNoChildren) \"/\" \"A\"" ∷ "* LIST (\\HasNoChildren) \"/\" \"C\"" ∷ "* LIST (\\All \\HasNoChildren) \"/\" \"S\""
    ∷ "a OK done" ∷ [])))
    ∷ replies_to 3 readers_table 16384 (sends "a LIST \"\" % RETURN (CHILDREN)" ∷ [])
    (answered (lines ("* LIST (\\NonExistent \\HasChildren) \"/\" \"A\"" ∷ "* LIST (\\HasNoChildren) \"/\" \"C\"" ∷
    "* LIST (\\HasNoChildren) \"/\" \"S\""
    ∷ "a OK done" ∷ [])))
    ∷ replies_to 7 readers_table 16384 (sends "a LIST \"\" * RETURN (CHILDREN)" ∷ [])
    (answered (lines ("* LIST (\\HasChildren) \"/\" \"C\"" ∷ "* LIST (\\HasNoChildren) \"/\" \"C/d\"" ∷ "a OK done" ∷ [])))
    ∷ replies_to 3 readers_table 16384 (sends "a LIST (SUBSCRIBED RECURSIVEMATCH) \"\" %" ∷ [])
    (answered (lines ("* LIST (\\NonExistent) \"/\" \"A\" (\"CHILDINFO\" (\"SUBSCRIBED\"))" ∷ "a OK done" ∷ [])))
    ∷ replies_to 7 readers_table 16384 (sends "a LIST (SUBSCRIBED RECURSIVEMATCH) \"\" %" ∷ [])
    (answered (lines ("* LIST () \"/\" \"C\" (\"CHILDINFO\" (\"SUBSCRIBED\"))" ∷ "a OK done" ∷ [])))
    ∷ replies_to 0 readers_table 11 (map sends ("a LIST (SUBSCRIBED RECURSIVEMATCH) \"\" %" ∷ "a LSUB \"\" %" ∷ "a LIST \"\" E" ∷ "a LIST \"\" A/b" ∷
    []))
    (answered (sends "a OK done"))
    ∷ replies_to 1 readers_table 16384 (sends "a LIST \"\" *" ∷ []) (answered (lines ("* LIST () \"/\" \"C\"" ∷ "a OK done" ∷ [])))
    ∷ replies_to 3 readers_table 16384 (sends "a LSUB \"\" %" ∷ []) (answered (lines ("* LSUB (\\Noselect) \"/\" \"A\"" ∷ "a OK done" ∷ [])))
    ∷ replies_to 7 readers_table 16384 (sends "a LSUB \"\" *" ∷ []) (answered (lines ("* LSUB () \"/\" \"C/d\"" ∷ "a OK done" ∷ [])))
    -- 9 counts what the reader sees
    ∷ replies_to 1 readers_table 30 (sends "a LIST \"\" *" ∷ []) (answered (lines ("* LIST () \"/\" \"C\"" ∷ "a OK done" ∷ [])))
    ∷ replies_to 1 readers_table 29 (sends "a LIST \"\" *" ∷ []) (refusal 9)
    ∷ []

-- found and the names asked below are those that the reader sees
abbrev pub readers_walked : List Case
readers_walked =
    walks_for 0 readers_table 0 (walked 1 [] [])
    ∷ walks_for 3 readers_table 0 (walked 2 (packed (text "A/b" ∷ [])) (packed (text "A" ∷ [])))
    ∷ walks_for 7 readers_table 0 (walked 2 (packed (text "C/d" ∷ [])) (packed (text "C" ∷ [])))
    ∷ walks_for 3 readers_table 6 (walked 1 (packed (text "S" ∷ [])) [])
    ∷ walks_for 1 readers_table 7 (walked 1 [] [])
    ∷ []

-- 16 above reader 7, before 1, for any line, NAMESPACE too, and for a walk before 6; 1 looks at rows that nobody sees, at any set of readers
abbrev pub readers_refused : List Case
readers_refused =
    replies_to 8 (0 ∷ []) 0 (sends "a NAMESPACE" ∷ sends "a LIST \"\" *" ∷ sends "a FOO" ∷ [] ∷ (0 ∷ []) ∷ []) (refusal 16)
    ∷ replies_to 255 [] 64 (sends "a NAMESPACE" ∷ sends "a LIST \"\" *" ∷ sends "a SUBSCRIBE a" ∷ []) (refusal 16)
    ∷ replies_to 7 (0 ∷ []) 0 (sends "a NAMESPACE" ∷ []) (refusal 1)
    ∷ replies_to 5 (mailbox_for 0x00 0x0011 "E" ++ mailbox_for 0xFF 0x0001 "E/x") 64 (sends "a LIST \"\" *" ∷ []) (refusal 1)
    ∷ replies_to 5 (mailbox_for 0x00 0x0000 "E") 64 (sends "a LIST \"\" *" ∷ []) (refusal 1)
    ∷ walks_for 8 (0 ∷ []) 4 (walk_refused 16)
    ∷ walks_for 8 [] 0 (walk_refused 16)
    ∷ walks_for 7 (0 ∷ []) 4 (walk_refused 1)
    ∷ walks_for 7 [] 4 (walk_refused 6)
    ∷ []

-- a row of these readers, and two free bytes, with a spare record
abbrev a_for : ℕ → ℕ → Lent
a_for readers f = lent "a??" (at_for readers f 0 1 ∷ blank ∷ []) 1

-- Edits come from reader 0: from another they are 16, after the grammar and before 14, 15 and 9, also where nothing would change. They look at all
-- rows: the flag of a row that reader 0 does not see is set and its readers stay; what is inserted all eight see, what is freed is zero.
abbrev pub readers_edits : List Case
readers_edits =
    commands_of 3 (a_for 0x08 0x0001) 0 [] (map sends ("a SUBSCRIBE a" ∷ "a UNSUBSCRIBE a" ∷ "a UNSUBSCRIBE x" ∷ "a SUBSCRIBE \"\"" ∷
    "a SUBSCRIBE aaaa" ∷ "a SUBSCRIBE b" ∷ []))
    (refusal 16) (a_for 0x08 0x0001)
    ∷ commands_of 7 (a_for 0x08 0x0001) 16384 [] (map sends ("a SUBSCRIBE a" ∷ "a UNSUBSCRIBE x" ∷ [])) (refusal 16) (a_for 0x08 0x0001)
    ∷ commands_of 3 (a_for 0x08 0x0001) 0 [] (map sends ("a SUBSCRIBE a%" ∷ "a SUBSCRIBE" ∷ [])) (refusal 4) (a_for 0x08 0x0001)
    ∷ commands_of 3 (a_for 0x08 0x0001) 0 [] (text "a SUBSCRIBE a" ∷ []) (refusal 3) (a_for 0x08 0x0001)
    ∷ commands_of 3 (a_for 0x08 0x0001) 0 (9 ∷ []) (sends "a SUBSCRIBE a" ∷ []) (refusal 2) (a_for 0x08 0x0001)
    ∷ commands_of 3 (a_for 0x08 0x0000) 0 (9 ∷ []) (sends "a SUBSCRIBE a" ∷ []) (refusal 1) (a_for 0x08 0x0000)
    ∷ commands_of 8 (a_for 0x08 0x0000) 0 (9 ∷ []) (sends "a SUBSCRIBE a" ∷ []) (refusal 16) (a_for 0x08 0x0000)
    ∷ commands_of 0 (a_for 0x08 0x0001) 11 [] (sends "a SUBSCRIBE a" ∷ []) (answered (sends "a OK done")) (a_for 0x08 0x0003)
    ∷ commands_of 0 (a_for 0x00 0x0003) 11 [] (sends "a UNSUBSCRIBE a" ∷ []) (answered (sends "a OK done")) (a_for 0x00 0x0001)
    ∷ commands_of 0 (a_for 0x00 0x0011) 11 [] (map sends ("a SUBSCRIBE a/b" ∷ [])) (refusal 14) (a_for 0x00 0x0011)
    ∷ commands_of 0 (a_for 0x08 0x0001) 11 [] (sends "a SUBSCRIBE bb" ∷ []) (answered (sends "a OK done"))
    (lent "abb" (at_for 0x08 0x0001 0 1 ∷ at_for 0xFF 0x0002 1 2 ∷ []) 2)
    ∷ commands_of 0 (lent "ab" (at_for 0x08 0x0002 0 1 ∷ at_for 0x10 0x0001 1 1 ∷ at_for 0x20 0x0003 9 9 ∷ []) 2) 11 [] (sends "a UNSUBSCRIBE a" ∷ [])
    (answered (sends "a OK done"))
    (record { area = 0 ∷ text "b"; records = at_for 0x10 0x0001 1 1 ∷ blank ∷ at_for 0x20 0x0003 9 9 ∷ []; count = 1 })
    ∷ commands_of 3 (a_for 0x08 0x0003) 30 [] (sends "a LSUB \"\" *" ∷ []) (answered (lines ("* LSUB () \"/\" \"a\"" ∷ "a OK done" ∷ [])))
    (a_for 0x08 0x0003)
    ∷ compacts (lent "?b?a" (at_for 0x05 0x0001 3 1 ∷ at_for 0x00 0x0002 1 1 ∷ at_for 0x07 0x0001 0 9 ∷ []) 2) 0
    (together "ba" 2 (at_for 0x05 0x0001 1 1 ∷ at_for 0x00 0x0002 0 1 ∷ at_for 0x07 0x0001 0 9 ∷ []) 2)
    ∷ []

-- the program: a row that reader 3 alone sees, walked from 0 and 3; an edit from 3, after which 4D goes on; a row that nobody sees; edits from 0, whose
-- records keep the readers, one of them a removal; what is then inserted is seen by all
abbrev pub program_readers : List Case
program_readers =
    program (text "4D0003080161\n570000\n570300\n4303612053554253435249424520610D0A\n4D0002000162\n570000\n4300612053554253435249424520630D0A\n4D\n"
    ++ text "570000\n570300\n43006120554E53554253435249424520620D0A\n4300612053554253435249424520620D0A\n570700\n4308\n570800\n")
    (text "570001\n5700010161\n5210\n570001\n4161204F4B20646F6E650D0A\n520D\n"
    ++ text "5700010163\n57000101610163\n4161204F4B20646F6E650D0A\n4161204F4B20646F6E650D0A\n57000101620163\n5210\n5210\n")
    ∷ []

-- namespace entries: class, prefix length, prefix bytes, delimiter
abbrev pub namespace_entries : List Case
namespace_entries =
    spaces (entry 2 (times 64 32) 0 ∷ entry 1 (126 ∷ text "%*") 126 ∷ entry 0 [] 33 ∷ [] ∷ [])
    (entry 3 [] 0 ∷ entry 0 (times 65 97) 0 ∷ entry 0 (31 ∷ []) 0 ∷ entry 0 (127 ∷ []) 0 ∷ entry 0 [] 32 ∷ entry 0 [] 127 ∷ entry 0 [] 1 ∷ [])
    ∷ []

-- classes do not descend; at most 4 entries a class; entries fill the list
abbrev pub namespace_classes : List Case
namespace_classes =
    spaces (joined (map (λ c. entry c [] 47) (0 ∷ 0 ∷ 0 ∷ 0 ∷ 1 ∷ 1 ∷ 1 ∷ 1 ∷ 2 ∷ 2 ∷ 2 ∷ 2 ∷ [])) ∷ (entry 0 [] 47 ++ entry 2 [] 47) ∷ [])
    ((entry 1 [] 47 ++ entry 0 [] 47) ∷ joined (replicate 5 (entry 0 [] 47)) ∷ joined (replicate 5 (entry 1 [] 47))
    ∷ joined (replicate 5 (entry 2 [] 47)) ∷ (0 ∷ []) ∷ (0 ∷ 0 ∷ []) ∷ (0 ∷ 1 ∷ 47 ∷ []) ∷ [])
    ∷ []

-- each use by its name
abbrev pub uses_by_name : List Case
uses_by_name =
    replies 16384
    (joined (mailbox 0x0101 "a" ∷ mailbox 0x0201 "b" ∷ mailbox 0x0401 "c" ∷ mailbox 0x0801 "d" ∷ mailbox 0x1001 "e" ∷ mailbox 0x2001 "f"
    ∷ mailbox 0x4001 "g" ∷ []))
    [] (sends "a LIST \"\" * RETURN (SPECIAL-USE)")
    (answered (lines ("* LIST (\\All) \"/\" \"a\"" ∷ "* LIST (\\Archive) \"/\" \"b\"" ∷ "* LIST (\\Drafts) \"/\" \"c\""
    ∷ "* LIST (\\Flagged) \"/\" \"d\"" ∷ "* LIST (\\Junk) \"/\" \"e\"" ∷ "* LIST (\\Sent) \"/\" \"f\"" ∷ "* LIST (\\Trash) \"/\" \"g\""
    ∷ "a OK done" ∷ [])))
    ∷ []

-- each other flag by its name
abbrev pub flags_by_name : List Case
flags_by_name =
    replies 16384
    (joined (mailbox 0x0005 "a" ∷ mailbox 0x0009 "b" ∷ mailbox 0x0011 "c" ∷ mailbox 0x0021 "d" ∷ mailbox 0x0041 "e" ∷ mailbox 0x0003 "f"
    ∷ mailbox 0x0002 "g" ∷ []))
    [] (sends "a LIST (REMOTE) \"\" *")
    (answered (lines ("* LIST (\\Remote) \"/\" \"a\"" ∷ "* LIST (\\Noselect) \"/\" \"b\"" ∷ "* LIST (\\NoInferiors) \"/\" \"c\""
    ∷ "* LIST (\\Marked) \"/\" \"d\"" ∷ "* LIST (\\Unmarked) \"/\" \"e\"" ∷ "* LIST () \"/\" \"f\"" ∷ "a OK done" ∷ [])))
    ∷ []

-- all that can stand together, in their order; children that are remote or do not exist
abbrev pub attributes_together : List Case
attributes_together =
    replies 16384
    (joined (mailbox 0x7F3F "a" ∷ mailbox 0x0001 "b" ∷ mailbox 0x0007 "b/r" ∷ mailbox 0x0002 "c/s" ∷ []))
    [] (sends "a LIST (REMOTE) \"\" (% b/r c/s) RETURN (SUBSCRIBED CHILDREN SPECIAL-USE)")
    (answered (lines (
    "* LIST (\\Marked \\Noselect \\NoInferiors \\Remote \\Subscribed \\All \\Archive \\Drafts \\Flagged \\Junk \\Sent \\Trash) \"/\" \"a\""
    ∷ "* LIST (\\HasChildren) \"/\" \"b\"" ∷ "* LIST (\\Remote \\Subscribed \\HasNoChildren) \"/\" \"b/r\"" ∷ "a OK done" ∷ [])))
    ∷ replies 16384 (joined (mailbox 0x0001 "b" ∷ mailbox 0x0007 "b/r" ∷ mailbox 0x0002 "c/s" ∷ [])) []
    (sends "a LIST (SUBSCRIBED) \"\" (% c/s b/r) RETURN (CHILDREN)")
    (answered (lines ("* LIST (\\Subscribed \\NonExistent \\HasNoChildren) \"/\" \"c/s\"" ∷ "a OK done" ∷ [])))
    ∷ []

-- children that are local; CHILDINFO and listing by descendants with RECURSIVEMATCH alone; an empty pattern of an extended command
abbrev pub children_and_empty_patterns : List Case
children_and_empty_patterns =
    replies 16384 (joined (mailbox 0x0001 "b" ∷ mailbox 0x0001 "b/l" ∷ mailbox 0x0001 "c" ∷ mailbox 0x0005 "c/r"
    ∷ [])) [] (sends "a LIST \"\" % RETURN (CHILDREN)")
    (answered (lines ("* LIST (\\HasChildren) \"/\" \"b\"" ∷ "* LIST (\\HasNoChildren) \"/\" \"c\"" ∷ "a OK done" ∷ [])))
    ∷ replies 16384 (joined (mailbox 0x0003 "a" ∷ mailbox 0x0003 "a/b" ∷ mailbox 0x0003 "c/d" ∷ [])) [] (sends "a LIST (SUBSCRIBED) \"\" %")
    (answered (lines ("* LIST (\\Subscribed) \"/\" \"a\"" ∷ "a OK done" ∷ [])))
    ∷ replies 16384 [] [] (sends "a LIST \"\" (\"\")") (answered (sends "a OK done"))
    ∷ replies 16384 [] [] (sends "a LIST \"\" \"\" RETURN ()") (answered (sends "a OK done"))
    ∷ []

-- SPECIAL-USE is a criterion; options in any case; a repeat counts once
abbrev pub special_use_selected : List Case
special_use_selected =
    replies 16384 (mailbox 0x0101 "a" ++ mailbox 0x0001 "b") [] (sends "a list (special-use Special-Use) \"\" *")
    (answered (lines ("* LIST (\\All) \"/\" \"a\"" ∷ "a OK done" ∷ [])))
    ∷ []

-- quotes and backslashes; "%" stays in a level, "*" does not; the reference counts, wildcards and all
abbrev pub quotes_and_wildcards : List Case
quotes_and_wildcards =
    replies 16384 (all_named ("a\"\\" ∷ "b/c" ∷ [])) [] (sends "a LIST \"%\" (\"\\\"\\\\\" *c /c)")
    (answered (lines ("* LIST () \"/\" \"a\\\"\\\\\"" ∷ "* LIST () \"/\" \"b/c\"" ∷ "a OK done" ∷ [])))
    ∷ replies 16384 (all_named ("b/c" ∷ [])) [] (sends "a LIST \"\" (* %c)") (answered (lines ("* LIST () \"/\" \"b/c\"" ∷ "a OK done" ∷ [])))
    ∷ replies 16384 (all_named ("b/c" ∷ [])) [] (sends "a LIST \"\" %c") (answered (sends "a OK done"))
    ∷ []

-- CHILDINFO for a descendant, "whether that one matches or not"; a use without SPECIAL-USE, and returned only
abbrev pub childinfo_and_uses_shown : List Case
childinfo_and_uses_shown =
    replies 16384 (mailbox 0x0003 "a" ++ mailbox 0x0003 "a/b") [] (sends "a LIST (SUBSCRIBED RECURSIVEMATCH) \"\" *")
    (answered (lines ("* LIST (\\Subscribed) \"/\" \"a\" (\"CHILDINFO\" (\"SUBSCRIBED\"))" ∷ "* LIST (\\Subscribed) \"/\" \"a/b\"" ∷ "a OK done"
    ∷ [])))
    ∷ replies 16384 (mailbox 0x4001 "a") [] (sends "a LIST (REMOTE) \"\" * RETURN (SUBSCRIBED CHILDREN)")
    (answered (lines ("* LIST (\\HasNoChildren) \"/\" \"a\"" ∷ "a OK done" ∷ [])))
    ∷ replies 16384 (mailbox 0x4001 "a" ++ mailbox 0x0001 "b") [] (sends "a LIST \"\" * RETURN (SPECIAL-USE)")
    (answered (lines ("* LIST (\\Trash) \"/\" \"a\"" ∷ "* LIST () \"/\" \"b\"" ∷ "a OK done" ∷ [])))
    ∷ []

-- W1: levels above what meets the criteria, under a pattern that ends in "%" and matches them; a remote row does not lift its
-- parent unless REMOTE is selected
abbrev pub levels_listed : List Case
levels_listed =
    replies 16384 levels_table [] (sends "a LIST \"\" %")
    (answered (lines ("* LIST (\\NonExistent \\HasChildren) \"/\" \"P\"" ∷ "* LIST () \"/\" \"Q\""
    ∷ "* LIST (\\NonExistent \\HasChildren) \"/\" \"T\"" ∷ "a OK done" ∷ [])))
    ∷ replies 16384 levels_table [] (sends "a LIST (REMOTE) \"\" (*% Q) RETURN (SUBSCRIBED CHILDREN)")
    (answered (lines ("* LIST (\\Subscribed \\NonExistent \\HasChildren) \"/\" \"P\"" ∷ "* LIST (\\HasNoChildren) \"/\" \"P/q\""
    ∷ "* LIST (\\HasNoChildren) \"/\" \"Q\"" ∷ "* LIST (\\NonExistent \\HasChildren) \"/\" \"R\""
    ∷ "* LIST (\\Remote \\HasNoChildren) \"/\" \"R/r\"" ∷ "* LIST (\\NonExistent \\HasChildren) \"/\" \"T\""
    ∷ "* LIST (\\NonExistent \\HasChildren) \"/\" \"T/u\"" ∷ "* LIST (\\HasNoChildren) \"/\" \"T/u/v\"" ∷ "a OK done" ∷ [])))
    ∷ []

-- not under another pattern that matches, nor under SUBSCRIBED or SPECIAL-USE
abbrev pub levels_not_listed : List Case
levels_not_listed =
    replies 16384 levels_table [] (sends "a LIST \"\" (T* P x%)") (answered (lines ("* LIST () \"/\" \"T/u/v\"" ∷ "a OK done" ∷ [])))
    ∷ replies 16384 levels_table [] (sends "a LIST (SUBSCRIBED) \"\" %") (answered (lines ("* LIST (\\Subscribed \\NonExistent) \"/\" \"P\""
    ∷ "a OK done" ∷ [])))
    ∷ replies 16384 (mailbox 0x0101 "a/b") [] (sends "a LIST (SPECIAL-USE) \"\" %") (answered (sends "a OK done"))
    ∷ []

-- 9 counts these lines
abbrev pub levels_counted : List Case
levels_counted =
    replies 55 (all_named ("b/c" ∷ [])) [] (sends "a LIST \"\" %") (answered (lines ("* LIST (\\NonExistent \\HasChildren) \"/\" \"b\""
    ∷ "a OK done" ∷ [])))
    ∷ replies 54 (all_named ("b/c" ∷ [])) [] (sends "a LIST \"\" %") (refusal 9)
    ∷ []

-- the INBOX rule is for the name INBOX alone
abbrev pub inbox_alone : List Case
inbox_alone =
    replies 16384 (all_named ("INBOX" ∷ "INBOX/x" ∷ [])) [] (sends "a LIST inb (ox ox/% ox/x)")
    (answered (lines ("* LIST () \"/\" \"INBOX\"" ∷ "a OK done" ∷ [])))
    ∷ []

-- LSUB (W5): subscribed names that match, existing or not, remote too, with no attribute whatever their flags; under a pattern ending in
-- "%" an unsubscribed candidate, with a row or implied, above a subscribed name that does not match, with \Noselect alone
abbrev pub lsub_lines : List Case
lsub_lines =
    replies 16384 subscriptions_table [] (sends "a LSUB \"\" *")
    (answered (lsub_all ++ sends "a OK done"))
    ∷ replies 16384 subscriptions_table [] (sends "a lSuB \"\" %")
    (answered (lines ("* LSUB (\\Noselect) \"/\" \"Foo\"" ∷ "* LSUB () \"/\" \"INBOX\"" ∷ "* LSUB (\\Noselect) \"/\" \"Moo\""
    ∷ "* LSUB () \"/\" \"Q\"" ∷ "* LSUB (\\Noselect) \"/\" \"R\"" ∷ "a OK done" ∷ [])))
    -- the descendant has to be one that does not match: under "*%" each does, and "*" and a name end in no "%"
    ∷ replies 16384 subscriptions_table [] (sends "a LSUB \"\" *%") (answered (lsub_all ++ sends "a OK done"))
    ∷ replies 16384 subscriptions_table [] (sends "a LSUB \"\" Foo") (answered (sends "a OK done"))
    ∷ replies 16384 subscriptions_table [] (sends "a LSUB Fo o%")
    (answered (lines ("* LSUB (\\Noselect) \"/\" \"Foo\"" ∷ "a OK done" ∷ [])))
    ∷ replies 16384 subscriptions_table [] (sends "a LSUB Foo/ %")
    (answered (lines ("* LSUB () \"/\" \"Foo/Baz\"" ∷ "* LSUB (\\Noselect) \"/\" \"Foo/x\"" ∷ "a OK done" ∷ [])))
    -- INBOX in any case of letters; a subscribed INBOX above a subscribed name is given once
    ∷ replies 16384 subscriptions_table [] (sends "a LSUB \"\" in%") (answered (lines ("* LSUB () \"/\" \"INBOX\"" ∷ "a OK done" ∷ [])))
    -- an implied INBOX
    ∷ replies 16384 (mailbox 0x0003 "INBOX/x") [] (sends "a LSUB i \"N%\"")
    (answered (lines ("* LSUB (\\Noselect) \"/\" \"INBOX\"" ∷ "a OK done" ∷ [])))
    ∷ []

-- LSUB takes a reference and a single pattern: 4 for a selection, parentheses, RETURN or a second pattern; 8 for a canonical pattern of 256
-- bytes; an empty pattern lists nothing and gives no root line, however long the reference is. NAMESPACE and LIST stay what they were.
abbrev pub lsub_grammar : List Case
lsub_grammar =
    refuses 4 (map sends ("a LSUB" ∷ "a LSUB \"\"" ∷ "a LSUB \"\" " ∷ "a LSUB \"\" (%)" ∷ "a LSUB () \"\" %" ∷ "a LSUB (SUBSCRIBED) \"\" %"
    ∷ "a LSUB \"\" % RETURN ()" ∷ "a LSUB \"\" % %" ∷ "a LSUB \"\" % " ∷ "a LSUB  \"\" %" ∷ "a LSUB % %" ∷ "a LSUB(\"\" %" ∷ []))
    ∷ refuses 5 (map sends ("a LSUBS \"\" %" ∷ "a LSU \"\" %" ∷ "a LSUB+ \"\" %" ∷ []))
    ∷ replies 16384 table_e [] (text "a LSUB \"ab\" " ++ (times 253 120 ++ crlf)) (answered (sends "a OK done"))
    ∷ replies 16384 table_e [] (text "a LSUB \"ab\" " ++ (times 254 120 ++ crlf)) (refusal 8)
    ∷ replies 16384 table_e [] (text "a LSUB " ++ (times 300 120 ++ sends " \"\"")) (answered (sends "a OK done"))
    ∷ replies 16384 table_e [] (sends "a LSUB \"\" \"\"") (answered (sends "a OK done"))
    ∷ replies 16384 table_e [] (lines ("a LSUB {4}" ∷ "Foo/ {1}" ∷ "%" ∷ [])) (answered (lines ("* LSUB () \"/\" \"Foo/Baz\"" ∷ "a OK done" ∷ [])))
    -- 9 as for LIST
    ∷ replies 36 table_e [] (sends "a LSUB \"\" *") (answered (lines ("* LSUB () \"/\" \"Foo/Baz\"" ∷ "a OK done" ∷ [])))
    ∷ replies 35 table_e [] (sends "a LSUB \"\" *") (refusal 9)
    -- an LSUB line is none that the reader takes
    ∷ reads (sends "* LIST () \"/\" \"a\"") (line plain (text "a") none_named)
    (map sends ("* LSUB () \"/\" \"a\"" ∷ "* LSUB (\\Noselect) \"/\" \"a\"" ∷ []))
    ∷ []

-- NAMESPACE
abbrev pub namespace_line_lem : List Case
namespace_line_lem =
    replies 16384 [] (entry 0 [] 47 ++ (entry 0 (text "#mh/") 47 ++ (entry 2 (34 ∷ []) 92 ++ entry 2 [] 0))) (sends "a namespace")
    (answered (lines ("* NAMESPACE ((\"\" \"/\")(\"#mh/\" \"/\")) NIL ((\"\\\"\" \"\\\\\")(\"\" NIL))" ∷ "a OK done" ∷ [])))
    ∷ []

-- 1 before 2 before 3
abbrev pub table_then_list_then_line : List Case
table_then_list_then_line =
    replies 16384 (0 ∷ []) (3 ∷ []) [] (refusal 1)
    ∷ replies 16384 [] (3 ∷ []) [] (refusal 2)
    ∷ []

-- 3: no CR LF at the end, and bytes 00 and 80; 01 and 7F are lawful
abbrev pub line_shape : List Case
line_shape =
    refuses 3 ([] ∷ (text "+ LIST" ++ (10 ∷ [])) ∷ (text "a LIST \"" ++ (0x80 ∷ text "\" *" ++ crlf)) ∷ (text "a LIST \"" ++ (0x00
    ∷ text "\" *" ++ crlf)) ∷ (13 ∷ sends "a LIST \"\" *") ∷ [])
    ∷ replies 16384 [] [] (text "a LIST \"" ++ (0x7F ∷ 1 ∷ text "\" *" ++ crlf)) (answered (sends "a OK done"))
    ∷ []

-- tag 4, then 5, then the rest 4
abbrev pub tag_word_rest : List Case
tag_word_rest =
    refuses 4 (sends "" ∷ sends "+a FOO" ∷ sends "a]" ∷ sends "a NAMESPACE " ∷ sends "a LIST" ∷ sends "a LIST( ) \"\" *"
    ∷ sends "a LIST ( ) \"\" *" ∷ sends "a LIST \"\"  *" ∷ sends "a LIST % *" ∷ sends "a LIST \"\" ()" ∷ sends "a LIST \"\" * RETURN"
    ∷ sends "a LIST \"\" * RETURNS ()" ∷ sends "a LIST \"\\a\" *" ∷ [])
    ∷ refuses 5 (sends "a]  " ∷ sends "a " ∷ sends "a LISTS \"" ∷ sends "a LIST+ \"\" *" ∷ sends "a FOO \"" ∷ [])
    ∷ []

-- values nest; 4 before 6 before 7 before 8; RETURN is not beside RECURSIVEMATCH; an option is known in its own list only
abbrev pub values_and_options : List Case
values_and_options =
    refuses 4 (sends "a LIST (FOO (a (b  c) e)) \"\" *" ∷ sends "a LIST (FOO ()) \"\" *" ∷ sends "a LIST (FOO (a) (b)) \"\" *"
    ∷ sends "a LIST (RECURSIVEMATCH FOO) \"\" (a ) RETURN ()" ∷ [])
    ∷ refuses 6 (sends "a LIST (FOO (a (b \"c \\\\\") ]e)) \"\" *" ∷ sends "a LIST (RECURSIVEMATCH) \"\" * RETURN (REMOTE)"
    ∷ sends "a LIST (SUBSCRIBED (x)) \"\" *" ∷ sends "a LIST (CHILDREN) \"\" *" ∷ [])
    ∷ refuses 7 (sends "a LIST (RECURSIVEMATCH REMOTE) \"\" (a b c d e f g h i) RETURN (SUBSCRIBED SPECIAL-USE)" ∷ [])
    ∷ []

-- 9 counts the tagged line; an equal length fits
abbrev pub answer_length_lem : List Case
answer_length_lem =
    replies 32 (all_named ("Moo" ∷ [])) [] (sends "a LIST \"\" *") (answered (lines ("* LIST () \"/\" \"Moo\"" ∷ "a OK done" ∷ [])))
    ∷ replies 31 (all_named ("Moo" ∷ [])) [] (sends "a LIST \"\" *") (refusal 9)
    ∷ []

-- the answer buffer: bytes after the answer stay; a refusal has length 0 and changes no byte
abbrev pub answer_buffer : List Case
answer_buffer =
    answers_into (times 13 7) [] [] (sends "a LIST \"\" *") 0 11 (sends "a OK done" ++ times 2 7)
    ∷ answers_into (times 11 7) [] [] (sends "a LIST \"\" *") 0 11 (sends "a OK done")
    ∷ answers_into (times 10 7) [] [] (sends "a LIST \"\" *") 9 0 (times 10 7)
    ∷ answers_into (times 3 7) (0 ∷ []) [] (sends "a LIST \"\" *") 1 0 (times 3 7)
    ∷ answers_into (times 3 7) [] [] (sends "a FOO") 5 0 (times 3 7)
    ∷ []

-- the walk: 1 before 6; each buffer exactly long enough, and one byte short
abbrev pub walk_buffers_short : List Case
walk_buffers_short =
    walks (0 ∷ []) 4 0 0 0 (walk_refused 1)
    ∷ walks table_e 4 0 0 0 (walk_refused 6)
    ∷ walks table_e 3 0 0 0 (walk_refused 9)
    ∷ walks table_e 0 73 8 4 (walked 2 (packed (text "Foo/Baz" ∷ [])) (packed (text "Foo" ∷ [])))
    ∷ walks table_e 0 72 8 4 (walk_refused 9)
    ∷ walks table_e 0 73 7 4 (walk_refused 10)
    ∷ walks table_e 0 73 8 3 (walk_refused 11)
    ∷ []

-- finds and asks: a remote parent, special uses
abbrev pub walk_finds : List Case
walk_finds =
    walks (joined (mailbox 0x0007 "R" ∷ mailbox 0x0003 "R/a" ∷ mailbox 0x0107 "S" ∷ mailbox 0x0103 "T/u" ∷ [])) 0 16384 64 64
    (walked 3 (packed (text "R/a" ∷ text "T/u" ∷ [])) (packed (text "R" ∷ text "T" ∷ [])))
    ∷ walks (joined (mailbox 0x0007 "R" ∷ mailbox 0x0003 "R/a" ∷ mailbox 0x0107 "S" ∷ mailbox 0x0103 "T/u" ∷ [])) 1 16384 64 64
    (walked 3 (packed (text "R" ∷ text "S" ∷ text "R/a" ∷ text "T/u" ∷ [])) (packed (text "R" ∷ text "T" ∷ [])))
    ∷ walks (joined (mailbox 0x0007 "R" ∷ mailbox 0x0003 "R/a" ∷ mailbox 0x0107 "S" ∷ mailbox 0x0103 "T/u" ∷ [])) 3 16384 64 64
    (walked 2 (packed (text "S" ∷ text "T/u" ∷ [])) (packed (text "T" ∷ [])))
    ∷ []

-- the three buffers: names at the front and zero after them, scratch zero; a refusal gives count 0 and length 0 and zeroes them
abbrev pub walk_buffers_after : List Case
walk_buffers_after =
    walks_into table_e 0 (times 73 7) (times 9 7) (times 6 7) 0 2 8 (7 ∷ text "Foo/Baz" ++ (0 ∷ [])) (3 ∷ text "Foo" ++ (0 ∷ 0 ∷ []))
    ∷ walks_into table_e 0 (times 72 7) (times 9 7) (times 6 7) 9 0 0 (times 9 0) (times 6 0)
    ∷ walks_into table_e 0 (times 73 7) (times 7 7) (times 6 7) 10 0 0 (times 7 0) (times 6 0)
    ∷ walks_into table_e 0 (times 73 7) (times 9 7) (times 3 7) 11 0 0 (times 9 0) (times 3 0)
    ∷ walks_into (0 ∷ []) 0 (times 3 7) (times 2 7) (times 1 7) 1 0 0 (times 2 0) (times 1 0)
    ∷ walks_into table_e 8 (times 3 7) (times 2 7) (times 1 7) 6 0 0 (times 2 0) (times 1 0)
    ∷ []

-- the line writer: criteria that are none, then the other parts, 12, then 9; the root line; marked with unmarked
abbrev pub line_writer : List Case
line_writer =
    writes 0 plain (text "a") 4 (refusal 12)
    ∷ writes 99 plain (text "a") 5 (refusal 12)
    ∷ writes 99 plain (text "a") 255 (refusal 12)
    ∷ writes 99 noselect [] 4 (refusal 12)
    ∷ writes_into (times 21 7) plain (text "a") 0 0 19 (sends "* LIST () \"/\" \"a\"" ++ times 2 7)
    ∷ writes_into (times 18 7) plain (text "a") 0 9 0 (times 18 7)
    ∷ writes_into (times 18 7) plain [] 0 12 0 (times 18 7)
    ∷ writes 0 plain [] 0 (refusal 12)
    ∷ writes 19 plain (text "a") 0 (answered (sends "* LIST () \"/\" \"a\""))
    ∷ writes 18 plain (text "a") 0 (refusal 9)
    ∷ writes 99 both_marked (text "a") 1 (answered (sends "* LIST (\\Marked \\Unmarked) \"/\" \"a\" (\"CHILDINFO\" (\"SUBSCRIBED\"))"))
    ∷ writes 99 plain (text "a") 2 (answered (sends "* LIST () \"/\" \"a\" (\"CHILDINFO\" (\"SPECIAL-USE\"))"))
    ∷ writes 62 plain (text "a") 3 (answered (sends "* LIST () \"/\" \"a\" (\"CHILDINFO\" (\"SUBSCRIBED\" \"SPECIAL-USE\"))"))
    ∷ writes 61 plain (text "a") 3 (refusal 9)
    ∷ writes 99 noselect [] 2 (refusal 12)
    ∷ writes 99 noselect [] 0 (answered (sends "* LIST (\\Noselect) \"/\" \"\""))
    ∷ []

-- the reader's parts: a name in 200 bytes, zero after it; a refusal gives no attributes and an empty name
abbrev pub reader_parts : List Case
reader_parts =
    gives (sends "* LIST (\\Marked \\Unmarked) \"/\" \"ab\" (\"CHILDINFO\" (\"SUBSCRIBED\" \"SPECIAL-USE\"))") 0 both_marked 3
    (text "ab" ++ times 198 0)
    ∷ gives (sends "* LIST (\\Noselect) \"/\" \"\"") 0 noselect 0 (times 200 0)
    ∷ gives (sends "* LIST (\\Marked) \"/\" \"a/\" (\"CHILDINFO\" (\"SUBSCRIBED\"))") 12 plain 0 (times 200 0)
    ∷ []

-- the reader: exact bytes
abbrev pub reader_lines : List Case
reader_lines =
    reads (sends "* LIST (\\Noselect) \"/\" \"\"") root (sends "* LIST () \"/\" \"\""
    ∷ sends "* LIST (\\Noselect) \"/\" \"\" (\"CHILDINFO\" (\"SUBSCRIBED\"))" ∷ text "* LIST (\\Noselect) \"/\" \"\"" ∷ [])
    ∷ reads (sends "* LIST (\\Marked \\Unmarked) \"/\" \"a\\\\\" (\"CHILDINFO\" (\"SUBSCRIBED\"))") (line both_marked (text "a\\") subscribed_named)
    (sends "* LIST (\\Unmarked \\Marked) \"/\" \"a\"" ∷ sends "* LIST (\\marked) \"/\" \"a\"" ∷ sends "* LIST (\\Marked) \"/\" a"
    ∷ sends "* LIST () \"/\" \"\\a\"" ∷ sends "* LIST () \"/\" \"inbox\"" ∷ sends "* LIST () \"/\" \"a/\"" ∷ [])
    ∷ reads (sends "* LIST () \"/\" \"a\" (\"CHILDINFO\" (\"SPECIAL-USE\"))") (line plain (text "a") special_named)
    (sends "* LIST () \"/\" \"a\" (\"CHILDINFO\" ())" ∷ sends "* LIST () \"/\" \"a\" (\"CHILDINFO\" (\"special-use\"))"
    ∷ sends "* LIST () \"/\" \"a\" (\"CHILDINFO\" (\"REMOTE\"))" ∷ [])
    ∷ reads (sends "* LIST () \"/\" \"a\" (\"CHILDINFO\" (\"SUBSCRIBED\" \"SPECIAL-USE\"))") (line plain (text "a") both_named)
    (sends "* LIST () \"/\" \"a\" (\"CHILDINFO\" (\"SPECIAL-USE\" \"SUBSCRIBED\"))"
    ∷ sends "* LIST () \"/\" \"a\" (\"CHILDINFO\" (\"SUBSCRIBED\"  \"SPECIAL-USE\"))"
    ∷ sends "* LIST () \"/\" \"a\" (\"CHILDINFO\" (\"SUBSCRIBED\" \"SUBSCRIBED\"))" ∷ [])
    ∷ reads (text "* LIST () \"/\" \"" ++ (times 200 97 ++ sends "\"")) (line plain (times 200 97) none_named)
    ((text "* LIST () \"/\" \"" ++ (times 201 97 ++ sends "\"")) ∷ [])
    ∷ []

-- the program: document 01's whole session; then a table in two frames, each cause of 13, walks, and a last frame without LF
abbrev pub program_frames : List Case
program_frames =
    program (text
    "430061204E414D4553504143450D0A\n4D0003\n4dFf0161\n\n4D0\n43 61\n43\n4300\n57\n5700\n57000000\n58\n570000\n570004\n570800\n4308\n4D00\n570000\n5700")
    (text
    "412A204E414D455350414345204E494C204E494C204E494C0D0A61204F4B20646F6E650D0A\n520D\n520D\n520D\n520D\n5203\n520D\n520D\n520D\n520D\n5700010161\n5206\n5210\n5210\n5201\n520D\n")
    ∷ program (0x34 ∷ 0x44 ∷ times 4100 0x30 ++ (10 ∷ (0x34 ∷ 0x44 ∷ times 4102 0x30 ++ (10 ∷ [])))) (text "520D\n")
    ∷ []

-- digits of either case and their neighbours; stored bytes at both sides of their room, where a 4D without room leaves the list and a 4E without
-- room the table; the count's two bytes
abbrev pub program_digits_and_room : List Case
program_digits_and_room =
    steps 0 0 (text "4D09AFaf") 3 0 []
    ∷ program (text "4D0/\n4D0:\n4D0@\n4D0G\n4D0`\n4D0g\n") (text "520D\n520D\n520D\n520D\n520D\n520D\n")
    ∷ steps 16383 0 (text "4D00") 16384 0 []
    ∷ steps 16383 0 (text "4D0000") 16383 0 (text "5201\n")
    ∷ steps 0 1023 (text "4E00") 0 1024 []
    ∷ steps 0 1023 (text "4E0000") 0 1023 (text "5202\n")
    ∷ steps 16384 3 (text "4D00") 16384 3 (text "5201\n")
    ∷ steps 3 1024 (text "4E00") 3 1024 (text "5202\n")
    ∷ counts 515 (text "570203\n")
    ∷ []

-- the program and edits: 4D goes on after refused edits and is 13 after an accepted one, also where it changed no row; 4E goes on
abbrev pub program_edits : List Case
program_edits =
    program (text "4D0001FF0161\n430061205355425343524942452022220D0A\n4D0011FF0162\n4300612053554253435249424520622F630D0A\n"
    ++ (text "4300612053554253435249424520630D0A\n4D0001FF017A\n4D\n4E00002F\n570000\n4300612053554253435249424520610D0A\n570000\n"
    ++ (text "43006120554E53554253435249424520630D0A\n430061204C535542202222202A0D0A\n570000\n")))
    (text "520E\n520E\n4161204F4B20646F6E650D0A\n520D\n520D\n5700010163\n4161204F4B20646F6E650D0A\n57000101610163\n"
    ++ (text "4161204F4B20646F6E650D0A\n412A204C53554220282920222F22202261220D0A61204F4B20646F6E650D0A\n5700010161\n"))
    ∷ program (text "43006120554E53554253435249424520780D0A\n4D\n570000\n")
    (text "4161204F4B20646F6E650D0A\n520D\n570001\n")
    ∷ program (text "4D0001FF0161\n4D0001FF0161\n4300612053554253435249424520610D0A\n4D\n")
    (text "5201\n")
    ∷ []

-- the program's answer buffer: an answer of 16,384 bytes, and one more
abbrev pub program_answer_room : List Case
program_answer_room =
    answers_frame (long_answer 0) (text "430061204C495354202222202A0D0A") 32771 (text "412A20")
    ∷ answers_frame (long_answer 1) (text "430061204C495354202222202A0D0A") 5 (text "5209\n")
    ∷ []

-- its scratch: an answer of 16,384 bytes, and one more
abbrev pub program_scratch_room : List Case
program_scratch_room =
    answers_frame (long_scratch 0) (text "570000") 15445 (text "570001")
    ∷ answers_frame (long_scratch 1) (text "570000") 5 (text "5209\n")
    ∷ []

-- found of 8,192 bytes, and one more
abbrev pub program_found_room : List Case
program_found_room =
    answers_frame (long_found 0) (text "570000") 16391 (text "570001")
    ∷ answers_frame (long_found 1) (text "570000") 5 (text "520A\n")
    ∷ []

-- pending of 8,192 bytes, after which a find does not fit, and one more
abbrev pub program_pending_room : List Case
program_pending_room =
    answers_frame (long_pending 0) (text "570000") 5 (text "520A\n")
    ∷ answers_frame (long_pending 1) (text "570000") 5 (text "520B\n")
    ∷ []

-- W2: a literal as reference, as pattern, among patterns and as an item of a value; its wildcards count; 80 to FF match no name
abbrev pub literals : List Case
literals =
    replies 16384 table_e [] (lines ("a LIST {0}" ∷ " {3}" ∷ "Moo" ∷ [])) (answered (lines ("* LIST () \"/\" \"Moo\"" ∷ "a OK done" ∷ [])))
    ∷ replies 16384 table_e [] (lines ("a LIST {2}" ∷ "M% (\"x\" {0002}" ∷ "o* {1}" ∷ []) ++ (0xFF
    ∷ sends ")")) (answered (lines ("* LIST () \"/\" \"Moo\"" ∷ "a OK done" ∷ [])))
    ∷ refuses 6 (lines ("a LIST (FOO (a {3}" ∷ "( \\ (b))) \"\" *" ∷ []) ∷ [])
    ∷ replies 16384 [] [] (text "a LIST \"\" {5}" ++ (crlf ++ (13 ∷ 10 ∷ 1 ∷ 128 ∷ 255 ∷ crlf))) (answered (sends "a OK done"))
    ∷ []

-- a literal stands alone, and nowhere else; 5 before what stands behind the word
abbrev pub literals_misplaced : List Case
literals_misplaced =
    refuses 4 (lines ("a LIST \"\" x{1}" ∷ "a" ∷ []) ∷ lines ("a LIST \"\" {1}" ∷ "ax" ∷ []) ∷ lines ("a LIST{0}" ∷ " \"\" *" ∷ []) ∷ lines ("{1}"
    ∷ "a LIST \"\" *" ∷ []) ∷ lines ("a LIST ({10}" ∷ "SUBSCRIBED) \"\" *" ∷ []) ∷ lines ("a LIST \"\" \"{1}" ∷ "a\"" ∷ [])
    ∷ sends "a LIST \"\" {}" ∷ sends "a LIST \"\" {1+}" ∷ sends "a LIST \"\" {1}a" ∷ lines ("a LIST \"\" * RETURN {2}" ∷ "()" ∷ []) ∷ [])
    ∷ refuses 5 (lines ("a {4}" ∷ "LIST" ∷ []) ∷ [])
    ∷ []

-- a literal cut short, bytes behind the command, a larger n, 00 in a literal, and what check 3 says of the text around it
abbrev pub literals_cut_short : List Case
literals_cut_short =
    refuses 3 (sends "a LIST \"\" {3}" ∷ sends "a LIST \"\" {0}" ∷ lines ("a LIST \"\" {3}" ∷ "a" ∷ []) ∷ lines ("a LIST \"\" *" ∷ "" ∷ [])
    ∷ (sends "a LIST \"\" {1025}" ++ (times 1025 97 ++ crlf)) ∷ (sends "a LIST \"\" {1}" ++ (0 ∷ crlf)) ∷ (sends "a LIST \"\" {1}" ++ (97 ∷ 128
    ∷ crlf)) ∷ (sends "a LIST \"\" {1}" ++ (97 ∷ 13 ∷ crlf)) ∷ [])
    ∷ []

-- the limits: n of 1,024 and a canonical pattern of 255 bytes; 2,048 bytes in all, of which one stands in a literal, and one more;
-- parentheses in a literal are none
abbrev pub literal_lengths : List Case
literal_lengths =
    refuses 8 ((sends "a LIST \"\" {1024}" ++ (times 1024 97 ++ crlf)) ∷ (sends "a LIST \"b\" {255}" ++ (times 255 97 ++ crlf))
    ∷ (text "a LIST \"" ++ (times 2030 97 ++ lines ("\" {1}" ∷ "a" ∷ []))) ∷ [])
    ∷ replies 16384 [] [] (sends "a LIST \"\" {255}" ++ (times 255 97 ++ crlf)) (answered (sends "a OK done"))
    ∷ refuses 4 ((sends "a LIST (A {3}" ++ (times 3 41 ++ sends "(a)) \"\" *")) ∷ [])
    ∷ refuses 3 ((text "a LIST \"" ++ (times 2031 97 ++ lines ("\" {1}" ∷ "a" ∷ []))) ∷ [])
    ∷ []

-- the feeder: chunks cut anywhere, zero length too; a header in a literal is none
abbrev pub feeder_chunks : List Case
feeder_chunks =
    feeds (text "a LIST \"\" {3}\r" ∷ [] ∷ text "\n" ∷ text "Mo" ∷ text "o\r\n\r" ∷ text "\n" ∷ text "b" ∷ []) (go_on
    ∷ handed (lines ("a LIST \"\" {3}" ∷ "Moo" ∷ [])) ∷ handed crlf ∷ []) false
    ∷ feeds (lines ("a {7}" ∷ "x{1}" ∷ "y" ∷ []) ∷ []) (go_on ∷ handed (lines ("a {7}" ∷ "x{1}" ∷ "y" ∷ [])) ∷ []) true
    ∷ feeds (lines ("{1}" ∷ "}" ∷ "{ 1}" ∷ "{1+}" ∷ "{}" ∷ []) ∷ []) (go_on ∷ handed (lines ("{1}" ∷ "}" ∷ [])) ∷ handed (sends "{ 1}")
    ∷ handed (sends "{1+}") ∷ handed (sends "{}") ∷ []) true
    ∷ feeds ((sends "{1}" ++ (13 ∷ 10 ∷ sends "")) ∷ []) (go_on ∷ handed (sends "{1}" ++ (13 ∷ 10 ∷ sends "")) ∷ []) true
    ∷ continues (43 ∷ 32 ∷ 103 ∷ 111 ∷ 13 ∷ 10 ∷ [])
    ∷ []

-- a larger n ends the command at its line; leading zeros and many digits
abbrev pub feeder_large_literals : List Case
feeder_large_literals =
    feeds (lines ("{1025}" ∷ "a" ∷ []) ∷ []) (denied 3 ∷ handed (sends "a") ∷ []) true
    ∷ feeds ((text "{" ++ (times 1500 48 ++ sends "1}")) ∷ sends "a" ∷ []) (go_on
    ∷ handed ((text "{" ++ (times 1500 48 ++ sends "1}")) ++ sends "a") ∷ []) true
    ∷ feeds ((text "{" ++ (times 1500 57 ++ sends "}")) ∷ []) (denied 3 ∷ []) true
    ∷ []

-- 00 drops through the next CR LF, in a literal too, of which a CR just before counts
abbrev pub feeder_dropping : List Case
feeder_dropping =
    feeds ((sends "{9}" ++ (97 ∷ 0 ∷ sends "b")) ∷ sends "c" ∷ (0 ∷ []) ∷ text "{1}\r" ∷ text "\r\n" ∷ []) (go_on ∷ denied 3 ∷ handed (sends "c")
    ∷ denied 3 ∷ []) true
    ∷ []

-- 2,048 bytes; the LF of a line, or of a header, as byte 2,049, and the byte behind a header that ends as byte 2,048
abbrev pub feeder_command_length : List Case
feeder_command_length =
    feeds ((times 2046 97 ++ crlf) ∷ (times 2047 97 ++ crlf) ∷ (times 2048 97 ++ crlf) ∷ []) (handed (times 2046 97 ++ crlf) ∷ denied 3 ∷ denied 3
    ∷ []) true
    ∷ feeds ((times 2043 97 ++ sends "{1}") ∷ (13 ∷ []) ∷ sends "" ∷ (times 2044 97 ++ sends "{1}") ∷ []) (go_on ∷ denied 3 ∷ denied 3 ∷ []) true
    ∷ []
