-- The expert's sheet, E1 to E8, with W1's line and cases for W3 and W5, proved from the definitions as one table under one claim
-- (`sheet-holds` of proofs/Tables).
use Rattle.std.specs.Prelude.{List, [], ◌∷◌, ◌++◌, ℕ}
use Rattle.listing_rules.specs.Bytes.{text, crlf}
use Rattle.listing_rules.specs.Server.{Reply, refusal, answered}
use Rattle.listing_rules.specs.Walk.{walk_refused, walked, packed}
use Rattle.listing_rules.specs.Cases.{row, mailbox, times, sends, lines, Case, replies, walks}

-- "Table E: Foo-x 0001, Foo/Bar 0001, Foo/Baz 0003, INBOX 0031, Moo 0001."
abbrev pub table_e : List ℕ
table_e =
    mailbox 0x0001 "Foo-x" ++
    (mailbox 0x0001 "Foo/Bar" ++ (mailbox 0x0003 "Foo/Baz" ++ (mailbox 0x0031 "INBOX" ++ mailbox 0x0001 "Moo")))

-- Table U, for the special folders: A/all 0103, A/plain 0003, R/junk 1005, S 2001, S/old 0201.
abbrev pub table_u : List ℕ
table_u =
    mailbox 0x0103 "A/all" ++
    (mailbox 0x0003 "A/plain" ++ (mailbox 0x1005 "R/junk" ++ (mailbox 0x2001 "S" ++ mailbox 0x0201 "S/old")))

-- a command over a table, with an empty namespace list and the program's buffer
abbrev over : List ℕ → List ℕ → Reply → Case
over t l r = replies 16384 t [] l r

-- a command over table E that lists nothing
abbrev nothing : Reply
nothing = answered (sends "a OK done")

abbrev pub sheet : List Case
sheet =
    -- E1
    over table_e (sends "C04 LIST (SUBSCRIBED RECURSIVEMATCH) \"\" \"%\"")
    (answered (lines ("* LIST (\\NonExistent) \"/\" \"Foo\" (\"CHILDINFO\" (\"SUBSCRIBED\"))" ∷ "C04 OK done" ∷ [])))
    -- E2: the same with "*"
    ∷ over table_e (sends "C04 LIST (SUBSCRIBED RECURSIVEMATCH) \"\" \"*\"")
    (answered (lines ("* LIST (\\Subscribed) \"/\" \"Foo/Baz\"" ∷ "C04 OK done" ∷ [])))
    -- E3, with W1's Foo as its first line
    ∷ over table_e (sends "a LIST \"\" % RETURN (CHILDREN)")
    (answered (lines ("* LIST (\\NonExistent \\HasChildren) \"/\" \"Foo\"" ∷ "* LIST (\\HasNoChildren) \"/\" \"Foo-x\""
    ∷ "* LIST (\\Marked \\NoInferiors) \"/\" \"INBOX\"" ∷ "* LIST (\\HasNoChildren) \"/\" \"Moo\"" ∷ "a OK done" ∷ [])))
    -- E4: "in%" lists INBOX; "moo" lists nothing
    ∷ over table_e (sends "a LIST \"\" \"in%\"")
    (answered (lines ("* LIST (\\Marked \\NoInferiors) \"/\" \"INBOX\"" ∷ "a OK done" ∷ [])))
    ∷ over table_e (sends "a LIST \"\" \"moo\"") nothing
    -- E5: walk, option byte 0: 2 commands, found Foo/Baz; empty table: 1, none. As it is done and as it is declared.
    ∷ walks table_e 0 16384 8192 8192 (walked 2 (packed (text "Foo/Baz" ∷ [])) (packed (text "Foo" ∷ [])))
    ∷ walks [] 0 16384 8192 8192 (walked 1 [] [])
    -- E6: the root line; no line
    ∷ over table_e (sends "a LIST \"\" \"\"") (answered (lines ("* LIST (\\Noselect) \"/\" \"\"" ∷ "a OK done" ∷ [])))
    ∷ over table_e (sends "a LIST () \"\" \"\"") nothing
    -- E7
    ∷ over table_e (sends "a LIST (RECURSIVEMATCH REMOTE) \"\" \"*\"") (refusal 7)
    ∷ over table_e (sends "a LIST (RECURSIVEMATCH FOO) \"\" \"*\"") (refusal 6)
    -- W3: RECURSIVEMATCH beside SPECIAL-USE; CHILDINFO names the criteria selected, "SUBSCRIBED" before "SPECIAL-USE"
    ∷ over table_u (sends "a LIST (RECURSIVEMATCH SPECIAL-USE) \"\" %")
    (answered (lines ("* LIST (\\NonExistent) \"/\" \"A\" (\"CHILDINFO\" (\"SPECIAL-USE\"))"
    ∷ "* LIST (\\Sent) \"/\" \"S\" (\"CHILDINFO\" (\"SPECIAL-USE\"))" ∷ "a OK done" ∷ [])))
    ∷ over table_u (sends "a LIST (SPECIAL-USE SUBSCRIBED RECURSIVEMATCH) \"\" %")
    (answered (lines ("* LIST (\\NonExistent) \"/\" \"A\" (\"CHILDINFO\" (\"SUBSCRIBED\" \"SPECIAL-USE\"))" ∷ "a OK done" ∷ [])))
    ∷ over table_u (sends "a LIST (RECURSIVEMATCH) \"\" % RETURN (SPECIAL-USE SUBSCRIBED)") (refusal 7)
    -- W3: option byte 6 walks for the uses, with 1 the remote ones too; 4 is legal only with 2
    ∷ walks table_u 6 16384 8192 8192 (walked 3 (packed (text "S" ∷ text "A/all" ∷ text "S/old" ∷ [])) (packed (text "A" ∷ text "S" ∷ [])))
    ∷ walks table_u 7 16384 8192 8192 (walked 4 (packed (text "S" ∷ text "A/all" ∷ text "R/junk" ∷ text "S/old" ∷ [])) (packed (text "A"
    ∷ text "R" ∷ text "S" ∷ [])))
    ∷ walks table_u 2 16384 8192 8192 (walked 2 (packed (text "A/all" ∷ [])) (packed (text "A" ∷ [])))
    ∷ walks table_u 4 16384 8192 8192 (walk_refused 6)
    ∷ walks table_u 5 16384 8192 8192 (walk_refused 6)
    ∷ walks table_u 8 16384 8192 8192 (walk_refused 6)
    -- W5: the names with a subscription; under "%" the level above one that does not match, with \Noselect alone; no root line
    ∷ over table_e (sends "a LSUB \"\" \"*\"") (answered (lines ("* LSUB () \"/\" \"Foo/Baz\"" ∷ "a OK done" ∷ [])))
    ∷ over table_e (sends "a LSUB \"\" \"%\"") (answered (lines ("* LSUB (\\Noselect) \"/\" \"Foo\"" ∷ "a OK done" ∷ [])))
    ∷ over table_u (sends "a LSUB \"\" %") (answered (lines ("* LSUB (\\Noselect) \"/\" \"A\"" ∷ "a OK done" ∷ [])))
    ∷ over table_e (sends "a LSUB \"\" \"\"") nothing
    ∷ over table_e (sends "a LSUB (SUBSCRIBED) \"\" %") (refusal 4)
    -- E8: 8 patterns pass, 9 are 8
    ∷ over table_e (sends "a LIST \"\" (a b c d e f \"\" h)") nothing
    ∷ over table_e (sends "a LIST \"\" (a b c d e f \"\" h i)") (refusal 8)
    -- canonical 255 passes, 256 is 8
    ∷ over table_e (text "a LIST \"ab\" " ++ (times 253 120 ++ crlf)) nothing
    ∷ over table_e (text "a LIST \"ab\" " ++ (times 254 120 ++ crlf)) (refusal 8)
    -- name 200 passes, 201 is 1
    ∷ over (row 0x0001 (times 200 97)) (sends "a LIST \"\" \"*\"")
    (answered (text "* LIST () \"/\" \"" ++ (times 200 97 ++ (text "\"" ++ (crlf ++ sends "a OK done")))))
    ∷ over (row 0x0001 (times 201 97)) (sends "a LIST \"\" \"*\"") (refusal 1)
    -- line 2,048 passes, 2,049 is 3
    ∷ over table_e (times 2034 97 ++ sends " LIST \"\" moo") (answered (times 2034 97 ++ sends " OK done"))
    ∷ over table_e (times 2035 97 ++ sends " LIST \"\" moo") (refusal 3)
    ∷ []
