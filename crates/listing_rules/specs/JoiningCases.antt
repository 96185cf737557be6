-- Cases of the line of a joined command: its parts, and the line or the refusal that comes of them (`joining-lines-hold` of proofs/JoiningTables).
use Rattle.std.specs.Prelude.{List, [], ◌∷◌, ◌++◌, map, Bool, cond, length, ℕ, suc}
use Prim.Native.String.{String}
use Rattle.listing_rules.specs.Bytes.{text, crlf}
use Rattle.listing_rules.specs.Lists.{joined}
use Rattle.listing_rules.specs.Server.{Reply, refusal, answered}
use Rattle.listing_rules.specs.Joining.{joined_line, joined_into}
use Rattle.listing_rules.specs.Cases.{times, sends, same_reply}

-- A tag, the number of a set of options, a reference and a lent list of patterns.
pub data JoiningCase : Type 0 where
  -- the joined line
  joins : List ℕ → ℕ → List ℕ → List ℕ → Reply → JoiningCase
  -- the joined line in a buffer of that length
  joins_into : ℕ → List ℕ → ℕ → List ℕ → List ℕ → Reply → JoiningCase

abbrev pub holds_joining : JoiningCase → Bool
holds_joining (joins tag k r list reply) = same_reply (joined_line tag k r list) reply
holds_joining (joins_into n tag k r list reply) = same_reply (joined_into tag k r list (times n 0)) reply

-- the places of the cases that fail, counted from k
abbrev pub failures_of : ℕ → List JoiningCase → List ℕ
failures_of k [] = []
failures_of k (c ∷ cs) = let r = failures_of (suc k) cs in cond (holds_joining c) r (k ∷ r)

-- patterns as they are lent: each after its length
abbrev packs : List (List ℕ) → List ℕ
packs ps = joined (map (λ p. length p ∷ p) ps)

abbrev lent : List String → List ℕ
lent ss = packs (map text ss)

abbrev line : String → Reply
line s = answered (sends s)

-- no options, each of the selection, all of it
abbrev pub lines_joined : List JoiningCase
lines_joined =
    joins (text "a") 0 [] (lent ("%" ∷ "Foo/*" ∷ [])) (line "a LIST () \"\" (\"%\" \"Foo/*\")")
    ∷ joins (text "a2]") 0 (text "Foo/") (lent ("%" ∷ [])) (line "a2] LIST () \"Foo/\" (\"%\")")
    ∷ joins (text "a") 1 [] (lent ("%" ∷ "%" ∷ [])) (line "a LIST (SUBSCRIBED) \"\" (\"%\" \"%\")")
    ∷ joins (text "a") 2 [] (lent ("%" ∷ [])) (line "a LIST (REMOTE) \"\" (\"%\")")
    ∷ joins (text "a") 5 [] (lent ("%" ∷ [])) (line "a LIST (SUBSCRIBED RECURSIVEMATCH) \"\" (\"%\")")
    ∷ joins (text "a") 8 [] (lent ("%" ∷ [])) (line "a LIST (SPECIAL-USE) \"\" (\"%\")")
    ∷ joins (text "a") 15 [] (lent ("%" ∷ [])) (line "a LIST (SUBSCRIBED RECURSIVEMATCH SPECIAL-USE REMOTE) \"\" (\"%\")")
    ∷ []

-- RETURN of each kind, of two and of all
abbrev pub returns_joined : List JoiningCase
returns_joined =
    joins (text "a") 16 [] (lent ("%" ∷ [])) (line "a LIST () \"\" (\"%\") RETURN (SUBSCRIBED)")
    ∷ joins (text "a") 32 [] (lent ("%" ∷ [])) (line "a LIST () \"\" (\"%\") RETURN (CHILDREN)")
    ∷ joins (text "a") 64 [] (lent ("%" ∷ [])) (line "a LIST () \"\" (\"%\") RETURN (SPECIAL-USE)")
    ∷ joins (text "a") 80 [] (lent ("%" ∷ [])) (line "a LIST () \"\" (\"%\") RETURN (SUBSCRIBED SPECIAL-USE)")
    ∷ joins (text "a") 127 [] (lent ("%" ∷ []))
    (line "a LIST (SUBSCRIBED RECURSIVEMATCH SPECIAL-USE REMOTE) \"\" (\"%\") RETURN (SUBSCRIBED CHILDREN SPECIAL-USE)")
    ∷ []

-- quotes and backslashes; a literal for a byte above 7F and for CR LF, at each place; an empty pattern; a string that looks like a literal's header;
-- literals of 9, 10, 99, 100, 1,000 and 1,024 bytes
abbrev high : ℕ → List ℕ
high n = times n 0xC3

abbrev literal_of : ℕ → String → Reply
literal_of n digits = answered (text "a LIST () {" ++ (text digits ++ (text "}" ++ (crlf ++ (high n ++ sends " (\"\")")))))

abbrev pub strings_joined : List JoiningCase
strings_joined =
    joins (text "a") 0 (text "a\"b") (lent ("c\\d" ∷ [])) (line "a LIST () \"a\\\"b\" (\"c\\\\d\")")
    ∷ joins (text "a") 0 (text "Caf" ++ (0xC3 ∷ 0xA9 ∷ [])) (lent ("%" ∷ []))
    (answered (text "a LIST () {5}\r\nCaf" ++ (0xC3 ∷ 0xA9 ∷ sends " (\"%\")")))
    ∷ joins (text "a") 0 [] (packs (text "a\r\nb" ∷ (0xFF ∷ []) ∷ text "%" ∷ []))
    (answered (text "a LIST () \"\" ({4}\r\na\r\nb {1}\r\n" ++ (0xFF ∷ sends " \"%\")")))
    ∷ joins (text "a") 16 [] (packs ((0x80 ∷ []) ∷ [])) (answered (text "a LIST () \"\" ({1}\r\n" ++ (0x80 ∷ sends ") RETURN (SUBSCRIBED)")))
    ∷ joins (text "a") 0 [] (lent ("" ∷ "x" ∷ "" ∷ [])) (line "a LIST () \"\" (\"\" \"x\" \"\")")
    ∷ joins (text "a") 0 (text "{3}") (lent ("{1}" ∷ [])) (line "a LIST () \"{3}\" (\"{1}\")")
    ∷ joins (text "a") 0 (high 9) (lent ("" ∷ [])) (literal_of 9 "9")
    ∷ joins (text "a") 0 (high 10) (lent ("" ∷ [])) (literal_of 10 "10")
    ∷ joins (text "a") 0 (high 99) (lent ("" ∷ [])) (literal_of 99 "99")
    ∷ joins (text "a") 0 (high 100) (lent ("" ∷ [])) (literal_of 100 "100")
    ∷ joins (text "a") 0 (high 1000) (lent ("" ∷ [])) (literal_of 1000 "1000")
    ∷ joins (text "a") 0 (high 1024) (lent ("" ∷ [])) (literal_of 1024 "1024")
    ∷ []

-- 2,048 bytes and 2,049; a literal of 1,025; a byte 00, which no line holds
abbrev pub not_writable : List JoiningCase
not_writable =
    joins (text "a") 0 (times 2029 0x61) (lent ("" ∷ [])) (answered (text "a LIST () \"" ++ (times 2029 0x61 ++ sends "\" (\"\")")))
    ∷ joins (text "a") 0 (times 2030 0x61) (lent ("" ∷ [])) (refusal 3)
    ∷ joins (times 2030 0x61) 0 [] (lent ("" ∷ [])) (answered (times 2030 0x61 ++ sends " LIST () \"\" (\"\")"))
    ∷ joins (times 2031 0x61) 0 [] (lent ("" ∷ [])) (refusal 3)
    ∷ joins (text "a") 0 (high 1025) (lent ("" ∷ [])) (refusal 3)
    ∷ joins (text "a") 0 (0 ∷ []) (lent ("%" ∷ [])) (refusal 3)
    ∷ joins (text "a") 0 [] (packs (text "%" ∷ (0x61 ∷ 0 ∷ []) ∷ [])) (refusal 3)
    ∷ []

-- 8 patterns, empty ones counted, and 9; 255 bytes of a canonical pattern and 256, where an empty pattern has none
abbrev pub patterns_limited : List JoiningCase
patterns_limited =
    joins (text "a") 0 [] (lent ("1" ∷ "2" ∷ "3" ∷ "4" ∷ "5" ∷ "" ∷ "7" ∷ "8" ∷ []))
    (line "a LIST () \"\" (\"1\" \"2\" \"3\" \"4\" \"5\" \"\" \"7\" \"8\")")
    ∷ joins (text "a") 0 [] (lent ("1" ∷ "2" ∷ "3" ∷ "4" ∷ "5" ∷ "" ∷ "7" ∷ "8" ∷ "" ∷ [])) (refusal 8)
    ∷ joins (text "a") 0 (times 200 0x61) (packs (times 55 0x62 ∷ []))
    (answered (text "a LIST () \"" ++ (times 200 0x61 ++ (text "\" (\"" ++ (times 55 0x62 ++ sends "\")")))))
    ∷ joins (text "a") 0 (times 200 0x61) (packs (times 56 0x62 ∷ [])) (refusal 8)
    ∷ joins (text "a") 0 [] (packs (times 255 0x62 ∷ [])) (answered (text "a LIST () \"\" (\"" ++ (times 255 0x62 ++ sends "\")")))
    ∷ joins (text "a") 0 (text "/") (packs (text "%" ∷ times 255 0x62 ∷ [])) (refusal 8)
    ∷ joins (text "a") 0 (times 256 0x61) (lent ("" ∷ [])) (answered (text "a LIST () \"" ++ (times 256 0x61 ++ sends "\" (\"\")")))
    ∷ []

-- no tag; no pattern, and a list whose last pattern runs past its end (4); another bit than the seven (6); RECURSIVEMATCH alone and with REMOTE (7)
abbrev pub parts_refused : List JoiningCase
parts_refused =
    joins [] 0 [] (lent ("%" ∷ [])) (refusal 4)
    ∷ joins (text "a+") 0 [] (lent ("%" ∷ [])) (refusal 4)
    ∷ joins (text "a b") 0 [] (lent ("%" ∷ [])) (refusal 4)
    ∷ joins (text "a") 0 [] [] (refusal 4)
    ∷ joins (text "a") 0 [] (lent ("%" ∷ []) ++ (3 ∷ text "ab")) (refusal 4)
    ∷ joins (text "a") 0 [] (1 ∷ []) (refusal 4)
    ∷ joins (text "a") 128 [] (lent ("%" ∷ [])) (refusal 6)
    ∷ joins (text "a") 4 [] (lent ("%" ∷ [])) (refusal 7)
    ∷ joins (text "a") 6 [] (lent ("%" ∷ [])) (refusal 7)
    ∷ joins (text "a") 12 [] (lent ("%" ∷ [])) (line "a LIST (RECURSIVEMATCH SPECIAL-USE) \"\" (\"%\")")
    ∷ []

-- a buffer of the line's length and one that is a byte short (9)
abbrev pub buffers_joined : List JoiningCase
buffers_joined =
    joins_into 20 (text "a") 0 [] (lent ("%" ∷ [])) (line "a LIST () \"\" (\"%\")")
    ∷ joins_into 19 (text "a") 0 [] (lent ("%" ∷ [])) (refusal 9)
    ∷ joins_into 0 (text "a") 0 [] (lent ("%" ∷ [])) (refusal 9)
    ∷ []

-- two faults: 3 before 4, 4 before 6, 6 before 7, 7 before 8, 8 before 9
abbrev pub order_of_refusals : List JoiningCase
order_of_refusals =
    joins (text "+") 0 (0 ∷ []) (lent ("%" ∷ [])) (refusal 3)
    ∷ joins (text "+") 128 [] (lent ("%" ∷ [])) (refusal 4)
    ∷ joins (text "a") 128 [] [] (refusal 4)
    ∷ joins (text "a") 132 [] (lent ("%" ∷ [])) (refusal 6)
    ∷ joins (text "a") 4 [] (lent ("1" ∷ "2" ∷ "3" ∷ "4" ∷ "5" ∷ "6" ∷ "7" ∷ "8" ∷ "9" ∷ [])) (refusal 7)
    ∷ joins_into 0 (text "a") 0 [] (lent ("1" ∷ "2" ∷ "3" ∷ "4" ∷ "5" ∷ "6" ∷ "7" ∷ "8" ∷ "9" ∷ [])) (refusal 8)
    ∷ []
