-- What the server sends beside the library's answers: each text once.
use Rattle.std.specs.Prelude.{List, [], ◌∷◌, ◌++◌, cond, leb, get_or, ℕ, ◌+◌, ◌-◌, ◌/◌, ◌%◌}
use Rattle.listing_rules.specs.Bytes.{text, within, crlf, space, digit0}

-- "A line without a lawful tag gets `*` in its place."
unfoldable pub no_tag : List ℕ
no_tag = text "*"

-- the three words after a tag
unfoldable pub ok_word : List ℕ
ok_word = text "OK"

unfoldable pub no_word : List ℕ
no_word = text "NO"

unfoldable pub bad_word : List ℕ
bad_word = text "BAD"

-- A line that closes the answer to a command: its tag, one of the three words, and a remark. `closing tag ok_word doneText` is document 01's line
-- of OK (law `ok-closes`).
unfoldable pub closing : List ℕ → List ℕ → List ℕ → List ℕ
closing tag status remark = tag ++ (space ∷ (status ++ (space ∷ (remark ++ crlf))))

-- a line without a tag
unfoldable pub untagged : List ℕ → List ℕ
untagged body = no_tag ++ (space ∷ (body ++ crlf))

unfoldable pub done_text : List ℕ
done_text = text "done"

-- "CAPABILITY: `IMAP4rev1 LIST-EXTENDED SPECIAL-USE CHILDREN NAMESPACE ID`, and OK"
unfoldable pub capabilities : List ℕ
capabilities = text "IMAP4rev1 LIST-EXTENDED SPECIAL-USE CHILDREN NAMESPACE ID"

unfoldable pub capability_text : List ℕ
capability_text = text "CAPABILITY " ++ capabilities

-- "ID (RFC 2971): the server's name and version, and OK"
unfoldable pub version : List ℕ
version = text "0.1.0"

unfoldable pub id_text : List ℕ
id_text = text "ID (\"name\" \"Luspemaro\" \"version\" \"" ++ (version ++ text "\")")

-- "LOGOUT: `* BYE`, OK, and the end"
unfoldable pub bye_text : List ℕ
bye_text = text "BYE Luspemaro"

-- "SELECT, EXAMINE, STATUS and every other word: `NO [CANNOT]`: no messages are served here"
unfoldable pub cannot_text : List ℕ
cannot_text = text "[CANNOT] no messages are served here, only the names of mailboxes: LIST, LSUB, NAMESPACE, SUBSCRIBE, UNSUBSCRIBE, CAPABILITY, ID, NOOP, LOGOUT"

-- "LOGIN, AUTHENTICATE: `NO [CANNOT]`, and that the greeting was PREAUTH"
unfoldable pub no_login_text : List ℕ
no_login_text = text "[CANNOT] PREAUTH was the greeting: this connection needs no login, and none is taken"

-- "AUTHENTICATE stays NO, since it would continue in lines that are no commands"
unfoldable pub no_authenticate_text : List ℕ
no_authenticate_text = text "[CANNOT] PREAUTH was the greeting: this connection needs no login; LOGIN is taken, AUTHENTICATE is not"

-- "LOGIN with `--accept-login`: .. BAD without any"
unfoldable pub login_needs_text : List ℕ
login_needs_text = text "a name and a password come after LOGIN"

-- "one of these four with something else after it, ID without a list or NIL: BAD"
unfoldable pub alone_text : List ℕ
alone_text = text "nothing comes after this word"

unfoldable pub id_needs_text : List ℕ
id_needs_text = text "a list or NIL comes after ID"

-- a number below 100 in decimal digits; of any other the last two digits
unfoldable pub number_text : ℕ → List ℕ
number_text k = let low = (digit0 + k % 10) ∷ [] in cond (leb 10 k) ((digit0 + k / 10 % 10) ∷ low) low

-- "The greeting is `* PREAUTH`, with the capabilities."
unfoldable pub welcome : ℕ → List ℕ
welcome reader = untagged (text "PREAUTH [CAPABILITY " ++ (capabilities ++ (text "] Luspemaro, for reader " ++ number_text reader)))

-- "`* BYE` with the reason, when the server ends a connection"
unfoldable pub farewell : List ℕ → List ℕ
farewell reason = untagged (text "BYE " ++ reason)

-- the meanings of the numbers of refusal, from 1 on, "in the words of `include/luspemaro.h`"
unfoldable pub meanings : List (List ℕ)
meanings =
    text "the mailbox table or its summary does not pass, or count is above the records lent"
    ∷ text "the namespace list does not pass"
    ∷ text "too long, no CR LF at its end, a byte that no line has, a literal cut short or too long"
    ∷ text "the tag, or the rest after a known word, is off the grammar"
    ∷ text "the word is none of LIST, LSUB, NAMESPACE, SUBSCRIBE, UNSUBSCRIBE"
    ∷ text "an unknown option, one with a value, or an unlawful option byte"
    ∷ text "RECURSIVEMATCH with neither SUBSCRIBED nor SPECIAL-USE beside it"
    ∷ text "over 8 patterns, or a canonical pattern of over 255 bytes"
    ∷ text "the answer, or the line, is longer than its buffer"
    ∷ text "a find does not fit"
    ∷ text "a pending name does not fit"
    ∷ text "not a LIST line, or not the parts of one"
    ∷ text "of a replay: a frame that is unreadable or out of turn, or no answer at the end"
    ∷ text "SUBSCRIBE: an unlawful name, or one below a row with no inferiors"
    ∷ text "SUBSCRIBE would insert a row: 512 rows, no spare record, or no free run long enough"
    ∷ text "the reader is above 7, or an edit comes from another reader than 0"
    ∷ []

unfoldable pub meaning : ℕ → List ℕ
meaning k = get_or meanings (k - 1) []

-- "NO if the line is lawful and the answer is no, BAD if the line is wrong": 3 to 8 are about the line
unfoldable pub status_of : ℕ → List ℕ
status_of k = cond (within 3 8 k) bad_word no_word

-- "the number; and its meaning"
unfoldable pub refusal_text : ℕ → List ℕ
refusal_text k = text "[refusal " ++ (number_text k ++ (text "] " ++ meaning k))

-- "A refusal is one line: the tag of the line; NO .. BAD ..; the number; and its meaning"
unfoldable pub refusal_line : List ℕ → ℕ → List ℕ
refusal_line tag k = closing tag (status_of k) (refusal_text k)

-- "an edit that cannot be written to the review file, a command that cannot be recorded or logged: `NO [UNAVAILABLE]`, and nothing was done". The
-- host sends it in place of a reply, with the store as it was; no event of a conversation gives it.
unfoldable pub not_kept : List ℕ → List ℕ → List ℕ
not_kept tag reason = closing tag no_word (text "[UNAVAILABLE] " ++ reason)

-- "If nothing follows such a line for two seconds, or the client closes after it, the server sends once a connection" this line. It depends on time,
-- so the host sends it; no event of a conversation gives it.
unfoldable pub hint : List ℕ
hint = untagged (text "BAD a line ended in LF without CR; a command ends in CR LF, so it is not read yet")
