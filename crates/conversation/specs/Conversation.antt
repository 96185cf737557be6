-- The server's side of a conversation, byte by byte: the reply to each event of the feeder, and what is stored then. The tables of
-- docs/SERVING.md ("What a client is answered") as definitions.
use Rattle.std.specs.Prelude.{List, [], ◌∷◌, ◌++◌, Bool, true, false, cond, ◌&&◌, ◌||◌, not, eqb, ℕ}
use Rattle.std.proofs.Math.Option.{Option, none, some}
use Rattle.listing_rules.specs.Bytes.{text, spells, is_empty, space, crlf}
use Rattle.listing_rules.specs.Tokens.{Got, ◌>>=◌, at, after, tag_byte, run₁, atom}
use Rattle.listing_rules.specs.Table.{passes}
use Rattle.listing_rules.specs.Namespaces.{namespaces_pass}
use Rattle.listing_rules.specs.Readers.{is_reader}
use Rattle.listing_rules.specs.Feeder.{Feeder, first, Event, quiet, handed, go_on, denied, go_on_line, fed_byte}
use Rattle.listing_rules.specs.Command.{line_text, is_some, is_edit, parsed}
use Rattle.listing_rules.specs.Lines.{ok_line}
use Rattle.listing_rules.specs.Server.{refusal, answered, number_of}
use Rattle.listing_rules.specs.Summary.{Summed, SummedCommand, summed_table, summed_seen, summed_over, summed_compaction}
use Rattle.feeder.specs.Feed.{kept_of}
use Rattle.conversation.specs.Texts.{no_tag, bad_word, no_word, closing, untagged, capability_text, id_text, bye_text, cannot_text, alone_text}
use Rattle.conversation.specs.Texts.{no_login_text, no_authenticate_text, login_needs_text, id_needs_text, welcome, farewell, refusal_text, refusal_line}

-- What stays for a connection: its reader, the namespace list, whether names are compacted for a SUBSCRIBE that is refused with 15 ("While a record
-- is written", they "are never compacted"), whether LOGIN is answered OK (`--accept-login`), and the length of the longest answer that is given: at
-- most `LUSPEMARO_ROOM_ANSWER`, so that "none is refused for its length".
pub record Setting : Type 0 where
  pub reader : ℕ
  pub namespaces : List ℕ
  pub compacts : Bool
  pub accepts_login : Bool
  pub longest : ℕ

-- ---- the tag

-- the tag has a space or the end of the line after it
unfoldable pub tag_among : Option (Got (List ℕ)) → List ℕ
tag_among none = no_tag
tag_among (some g) = cond (at space g.rest || is_some (after crlf g.rest)) g.val no_tag

-- "the tag of the line"; "A line without a lawful tag gets `*` in its place." Of a line that is refused before its end, the bytes before the one
-- that it is refused at.
unfoldable pub tag_of : List ℕ → List ℕ
tag_of l = tag_among (run₁ tag_byte l)

-- ---- the words that the server answers itself

-- a line up to the end of its word: tag, word, and what comes after it without the last CR LF
pub record Started : Type 0 where
  pub tag : List ℕ
  pub word : List ℕ
  pub rest : List ℕ

unfoldable pub started : List ℕ → Option Started
started l = do
  t ← line_text l
  g ← run₁ tag_byte t
  u ← after (text " ") g.rest
  w ← atom u
  some (record { tag = g.val; word = w.val; rest = w.rest })

-- what the server itself answers, and whether the connection ends after it
pub record Own : Type 0 where
  pub lines : List ℕ
  pub ends : Bool

unfoldable pub goes_on : List ℕ → Own
goes_on ls = record { lines = ls; ends = false }

-- an untagged line, and OK
unfoldable pub done : List ℕ → List ℕ → List ℕ
done tag body = untagged body ++ ok_line tag

-- a word that stands alone: its answer, else BAD
unfoldable pub alone : Started → Own → Own
alone w o = cond (is_empty w.rest) o (goes_on (closing w.tag bad_word alone_text))

-- "what the client says of itself is ignored"
unfoldable pub identified : Started → Own
identified w =
    cond (is_some (after (text " (") w.rest) || spells w.rest (text " NIL"))
    (goes_on (done w.tag id_text))
    (goes_on (closing w.tag bad_word id_needs_text))

-- "LOGIN with `--accept-login`: OK, whatever name and password; BAD without any"
unfoldable pub logged_in : Bool → Started → Own
logged_in accepts w =
    cond accepts
    (cond (is_empty w.rest) (goes_on (closing w.tag bad_word login_needs_text)) (goes_on (ok_line w.tag)))
    (goes_on (closing w.tag no_word no_login_text))

-- "AUTHENTICATE stays NO"
unfoldable pub authenticated : Bool → Started → Own
authenticated accepts w = goes_on (closing w.tag no_word (cond accepts no_authenticate_text no_login_text))

-- word by word, the first that is spelled so, in any case of letters
unfoldable pub own_answer : Bool → Started → Own
own_answer accepts w =
    cond (spells w.word (text "CAPABILITY")) (alone w (goes_on (done w.tag capability_text)))
    (cond (spells w.word (text "NOOP")) (alone w (goes_on (ok_line w.tag)))
    (cond (spells w.word (text "LOGOUT")) (alone w (record { lines = done w.tag bye_text; ends = true }))
    (cond (spells w.word (text "ID")) (identified w)
    (cond (spells w.word (text "LOGIN")) (logged_in accepts w)
    (cond (spells w.word (text "AUTHENTICATE")) (authenticated accepts w) (goes_on (closing w.tag no_word cannot_text)))))))

-- ---- replies

-- what is sent, what is stored then, whether the connection ends, and whether the command was an accepted edit, also one that changed no row: the
-- host keeps such a command before the reply goes out
pub record Replied : Type 0 where
  pub bytes : List ℕ
  pub store : Summed
  pub ended : Bool
  pub accepted : Bool

-- a reply that is no accepted edit, after which the connection goes on
unfoldable pub says : List ℕ → Summed → Replied
says bs m = record { bytes = bs; store = m; ended = false; accepted = false }

-- "Every command that the feeder hands over goes to the library first."
unfoldable pub decided_over : Setting → Summed → List ℕ → SummedCommand
decided_over w m l = summed_over w.reader m (summed_seen w.reader m) w.namespaces l w.longest

-- "If SUBSCRIBE is refused with 15, the names are compacted .. and it is tried once more." If it is refused again, the compacted names stay.
unfoldable pub decided : Setting → Summed → List ℕ → SummedCommand
decided w m l =
    let c = decided_over w m l in
    let again = decided_over w (summed_compaction m).left l in
    cond (w.compacts && eqb (number_of c.reply) 15) again c

-- 5: "a line without a word; other words are answered as above"
unfoldable pub worded : Bool → Summed → List ℕ → Option Started → Replied
worded accepts m l none = says (refusal_line (tag_of l) 5) m
worded accepts m l (some w) = let o = own_answer accepts w in record { bytes = o.lines; store = m; ended = o.ends; accepted = false }

-- "LIST, LSUB, NAMESPACE, SUBSCRIBE, UNSUBSCRIBE: the library's, byte for byte"; "what is refused: NO or BAD"
unfoldable pub replied : Setting → List ℕ → SummedCommand → Replied
replied w l c =
    elim c.reply [
      | answered a ↦ record { bytes = a; store = c.left; ended = false; accepted = is_edit (parsed l) }
      | refusal k ↦ cond (eqb k 5) (worded w.accepts_login c.left l (started l)) (says (refusal_line (tag_of l) k) c.left)
    ]

-- the reply to an event of the feeder; `kept` are the bytes of the command before the byte of the event. "the header of a literal: the feeder's
-- continuation line"
unfoldable pub reply_to : Setting → Summed → List ℕ → Event → Replied
reply_to w m kept quiet = says [] m
reply_to w m kept (handed l) = replied w l (decided w m l)
reply_to w m kept go_on = says go_on_line m
reply_to w m kept (denied k) = says (refusal_line (tag_of kept) k) m

-- ---- the conversation

-- a connection between two bytes
pub record Talk : Type 0 where
  pub feeder : Feeder
  pub store : Summed
  pub ended : Bool

-- what bytes leave, what is sent for them, and whether an accepted edit is among their commands
pub record Said : Type 0 where
  pub state : Talk
  pub output : List ℕ
  pub edits : Bool

-- nothing is sent
unfoldable pub silent : Talk → Said
silent k = record { state = k; output = []; edits = false }

unfoldable pub replying : Feeder → Replied → Said
replying f r = record { state = record { feeder = f; store = r.store; ended = r.ended }; output = r.bytes; edits = r.accepted }

-- One byte. "LOGOUT: .. and the end": after it nothing is read and nothing is sent.
unfoldable pub heard_byte : Setting → Talk → ℕ → Said
heard_byte w k c =
    let r = fed_byte k.feeder c in
    let said = replying r.state (reply_to w k.store (kept_of k.feeder) r.event) in
    cond k.ended (silent k) said

-- the one, and the other after it
unfoldable pub followed : Said → Said → Said
followed a b = record { state = b.state; output = a.output ++ b.output; edits = a.edits || b.edits }

unfoldable pub conversed : Setting → Talk → List ℕ → Said
conversed w k [] = silent k
conversed w k (c ∷ t) = let r = heard_byte w k c in followed r (conversed w r.state t)

-- pieces one after the other
unfoldable pub conversed_in : Setting → Talk → List (List ℕ) → Said
conversed_in w k [] = silent k
conversed_in w k (x ∷ xs) = let r = conversed w k x in followed r (conversed_in w r.state xs)

-- "A table or list that the library refuses (1, 2) is not served", and neither is a reader above 7 (16): the number, or 0. So every command of a
-- conversation that begins is decided by its line, and LOGOUT is answered (law `logout-answered`).
unfoldable pub unserved : Setting → Summed → ℕ
unserved w m = cond (is_reader w.reader) (cond (passes (summed_table m)) (cond (namespaces_pass w.namespaces) 0 2) 1) 16

unfoldable pub is_served : Setting → Summed → Bool
is_served w m = eqb (unserved w m) 0

-- the first line: the welcome, or `* BYE` with the number and its meaning
unfoldable pub greeting : Setting → Summed → List ℕ
greeting w m = cond (is_served w m) (welcome w.reader) (farewell (refusal_text (unserved w m)))

-- before the first byte; what is not served has ended
unfoldable pub opened : Setting → Summed → Talk
opened w m = record { feeder = first; store = m; ended = not (is_served w m) }

-- A whole conversation: all that the client is sent. A command that is not whole at the end of the input gets no answer.
unfoldable pub conversation : Setting → Summed → List ℕ → List ℕ
conversation w m input = greeting w m ++ (conversed w (opened w m) input).output
