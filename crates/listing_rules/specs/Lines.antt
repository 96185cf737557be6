-- The text of an answer's lines.
use Rattle.std.specs.Prelude.{List, [], ◌∷◌, ◌++◌, Bool, cond, ◌||◌, eqb, ℕ}
use Rattle.listing_rules.specs.Bytes.{text, quote, backslash, space, crlf}
use Rattle.listing_rules.specs.Options.{Criteria, is_none}

-- "Attributes, these sixteen, in this order"
unfoldable pub attribute_names : List (List ℕ)
attribute_names =
    text "\\Marked"
    ∷ text "\\Unmarked"
    ∷ text "\\Noselect"
    ∷ text "\\NoInferiors"
    ∷ text "\\Remote"
    ∷ text "\\Subscribed"
    ∷ text "\\NonExistent"
    ∷ text "\\All"
    ∷ text "\\Archive"
    ∷ text "\\Drafts"
    ∷ text "\\Flagged"
    ∷ text "\\Junk"
    ∷ text "\\Sent"
    ∷ text "\\Trash"
    ∷ text "\\HasChildren"
    ∷ text "\\HasNoChildren"
    ∷ []

-- the places of those that the collector asks for (law `places-named`)
abbrev pub remote_place : ℕ
remote_place = 4

abbrev pub subscribed_place : ℕ
subscribed_place = 5

abbrev pub all_place : ℕ
all_place = 7

abbrev pub archive_place : ℕ
archive_place = 8

abbrev pub drafts_place : ℕ
drafts_place = 9

abbrev pub flagged_place : ℕ
flagged_place = 10

abbrev pub junk_place : ℕ
junk_place = 11

abbrev pub sent_place : ℕ
sent_place = 12

abbrev pub trash_place : ℕ
trash_place = 13

-- the names that are shown
unfoldable pub chosen : List Bool → List (List ℕ) → List (List ℕ)
chosen [] ns = []
chosen (b ∷ bs) [] = []
chosen (b ∷ bs) (n ∷ ns) = let r = chosen bs ns in cond b (n ∷ r) r

-- with one space between two
unfoldable pub spaced_tail : List (List ℕ) → List ℕ
spaced_tail [] = []
spaced_tail (x ∷ xs) = space ∷ (x ++ spaced_tail xs)

unfoldable pub spaced : List (List ℕ) → List ℕ
spaced [] = []
spaced (x ∷ xs) = x ++ spaced_tail xs

-- "In quotes, '"' and '\' take a backslash."
unfoldable pub escaped : List ℕ → List ℕ
escaped [] = []
escaped (b ∷ t) = let r = escaped t in cond (eqb b quote || eqb b backslash) (backslash ∷ b ∷ r) (b ∷ r)

unfoldable pub quoted : List ℕ → List ℕ
quoted t = quote ∷ (escaped t ++ (quote ∷ []))

-- "then perhaps ` ("CHILDINFO" ("SUBSCRIBED"))`". W3: "CHILDINFO names the criteria selected, "SUBSCRIBED" before "SPECIAL-USE"".
unfoldable pub criteria_names : List (List ℕ)
criteria_names = text "\"SUBSCRIBED\"" ∷ text "\"SPECIAL-USE\"" ∷ []

unfoldable pub criteria_text : Criteria → List ℕ
criteria_text c = spaced (chosen (c.subscribed ∷ c.special ∷ []) criteria_names)

unfoldable pub child_info_text : Criteria → List ℕ
child_info_text c = cond (is_none c) [] (text " (\"CHILDINFO\" (" ++ (criteria_text c ++ text "))"))

-- "Line: `* LIST (attributes) "/" "name"`, then perhaps ` ("CHILDINFO" ("SUBSCRIBED"))`, CR LF." `start` has the line's word.
unfoldable pub word_line : List ℕ → List Bool → List ℕ → Criteria → List ℕ
word_line start bs n c = start ++ (spaced (chosen bs attribute_names) ++ (text ") \"/\" " ++ (quoted n ++ (child_info_text c ++ crlf))))

unfoldable pub list_line : List Bool → List ℕ → Criteria → List ℕ
list_line bs n c = word_line (text "* LIST (") bs n c

-- "Root line: `* LIST (\Noselect) "/" ""`."
unfoldable pub root_line : List ℕ
root_line = text "* LIST (\\Noselect) \"/\" \"\"" ++ crlf

-- "Every answer ends with the tag and ` OK done`, CR LF."
unfoldable pub ok_line : List ℕ → List ℕ
ok_line tag = tag ++ (text " OK done" ++ crlf)
