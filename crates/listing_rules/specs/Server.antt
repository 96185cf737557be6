-- The server's answer, its refusals in order, and what they leave in the answer buffer.
use Rattle.std.specs.Prelude.{List, [], ◌∷◌, ◌++◌, map, Bool, true, false, cond, not, eqb, leb, length, drop, ℕ}
use Rattle.listing_rules.specs.Bytes.{text, crlf}
use Rattle.listing_rules.specs.Lists.{joined}
use Rattle.listing_rules.specs.Flags.{subscribed}
use Rattle.listing_rules.specs.Table.{Row, Table, rows, passes, flags_of}
use Rattle.listing_rules.specs.Namespaces.{Entry, entries, namespaces_pass, of_class}
use Rattle.listing_rules.specs.Options.{Options}
use Rattle.listing_rules.specs.Command.{subscribe, unsubscribe, Parsed, refused, namespace, listing, root_of, subscriptions, editing, parsed}
use Rattle.listing_rules.specs.Listing.{listed_names, attributes, child_info}
use Rattle.listing_rules.specs.Lines.{list_line, root_line, ok_line, quoted}
use Rattle.listing_rules.specs.Lsub.{lsub_names, lsub_line}
use Rattle.listing_rules.specs.Readers.{is_reader}
use Rattle.listing_rules.specs.Subscriptions.{Store, Edited, denied, stored, store_seen, store_rows, spelled, edited}

-- a number of refusal, or the bytes of an answer
pub data Reply : Type 0 where
  refusal : ℕ → Reply
  answered : List ℕ → Reply

-- the line of a listed name
unfoldable pub line_of : List Row → Options → List (List ℕ) → List ℕ → List ℕ
line_of rs o ps n = list_line (attributes rs o ps n) n (child_info rs o n)

-- the LIST lines, then the tagged line
unfoldable pub list_answer : List Row → List ℕ → Options → List (List ℕ) → List ℕ
list_answer rs tag o ps = joined (map (line_of rs o ps) (listed_names rs o ps)) ++ ok_line tag

-- the LSUB lines, then the tagged line
unfoldable pub lsub_answer : List Row → List ℕ → List (List ℕ) → List ℕ
lsub_answer rs tag ps = joined (map (lsub_line rs) (lsub_names rs ps)) ++ ok_line tag

-- "a delimiter is quoted or NIL"
unfoldable pub delimiter_text : ℕ → List ℕ
delimiter_text d = cond (eqb d 0) (text "NIL") (quoted (d ∷ []))

-- an entry "such as `("#mh/" "/")`"
unfoldable pub entry_text : Entry → List ℕ
entry_text e = text "(" ++ (quoted e.prefix ++ (text " " ++ (delimiter_text e.delimiter ++ text ")")))

-- "three classes, each NIL or entries"
unfoldable pub class_text : List Entry → List ℕ
class_text [] = text " NIL"
class_text (e ∷ es) = text " (" ++ (joined (map entry_text (e ∷ es)) ++ text ")")

-- "NAMESPACE: `* NAMESPACE` and three classes"
unfoldable pub namespace_answer : List Entry → List ℕ → List ℕ
namespace_answer es tag =
    text "* NAMESPACE" ++ (class_text (of_class 0 es) ++ (class_text (of_class 1 es) ++ (class_text (of_class 2 es) ++ (crlf ++ ok_line tag))))

unfoldable pub answer_to : List Row → List Entry → Parsed → Reply
answer_to rs es (refused k) = refusal k
answer_to rs es (namespace tag) = answered (namespace_answer es tag)
answer_to rs es (listing tag o ps) = answered (list_answer rs tag o ps)
answer_to rs es (root_of tag) = answered (root_line ++ ok_line tag)
answer_to rs es (subscriptions tag ps) = answered (lsub_answer rs tag ps)
answer_to rs es (editing tag e) = answered (ok_line tag)

-- "Server order: 1, 2, 3, tag 4, 5, rest 4, 6, 7, 8, 9." The first eight, over the table that the reader sees; for an edit what is answered if
-- it is not refused (`commandedOver`):
unfoldable pub answer : Table → List ℕ → List ℕ → Reply
answer table spaces l =
    let r = answer_to (rows table) (entries spaces) (parsed l) in
    let e2 = cond (namespaces_pass spaces) r (refusal 2) in
    cond (passes table) e2 (refusal 1)

-- "9: answer longer than its buffer"
unfoldable pub limited : ℕ → Reply → Reply
limited room (refusal k) = refusal k
limited room (answered a) = cond (leb (length a) room) (answered a) (refusal 9)

-- "A refusal has length 0 and no buffer byte changes; on success the bytes behind the answer stay as they were."
unfoldable pub buffer_after : List ℕ → Reply → List ℕ
buffer_after buffer (refusal k) = buffer
buffer_after buffer (answered a) = a ++ drop (length a) buffer

-- the number of a refusal, 0 for none
unfoldable pub number_of : Reply → ℕ
number_of (refusal k) = k
number_of (answered a) = 0

-- whether it is no refusal
unfoldable pub is_answered : Reply → Bool
is_answered (refusal k) = false
is_answered (answered a) = true

unfoldable pub length_of : Reply → ℕ
length_of (refusal k) = 0
length_of (answered a) = length a

-- a command that only reads: the table that the reader sees, the namespace list, the line, and the answer buffer as it was lent
unfoldable pub served : Table → List ℕ → List ℕ → List ℕ → Reply
served table spaces l buffer = limited (length buffer) (answer table spaces l)

-- W9: "each command comes from reader 0 to 7 (above: 16, checked before 1)"
unfoldable pub from_reader : ℕ → Reply → Reply
from_reader reader r = cond (is_reader reader) r (refusal 16)

unfoldable pub served_to : ℕ → Table → List ℕ → List ℕ → List ℕ → Reply
served_to reader table spaces l buffer = from_reader reader (served table spaces l buffer)

-- What a command comes to: its reply, and the store that it leaves.
pub record Commanded : Type 0 where
  pub reply : Reply
  pub store : Store

-- What a command makes of the store, if it is not refused elsewhere: an edit may be denied, another command leaves it as it is. W9: "edits
-- are allowed to reader 0 only (else 16, just before 14)"; they "look at all rows".
unfoldable pub attempted : ℕ → Store → Parsed → Edited
attempted reader s (editing tag e) = cond (eqb reader 0) (edited s e) (denied 16)
attempted reader s (refused k) = stored s
attempted reader s (namespace tag) = stored s
attempted reader s (listing tag o ps) = stored s
attempted reader s (root_of tag) = stored s
attempted reader s (subscriptions tag ps) = stored s

-- the number, and "A refusal changes nothing"
unfoldable pub unchanged_by : Store → ℕ → Commanded
unchanged_by s k = record { reply = refusal k; store = s }

-- the refusals 1 to 8 of a reply first; then "The order is 14, 15, then 9, all before any change."
unfoldable pub concluded : Store → ℕ → Edited → Reply → Commanded
concluded s room e (refusal k) = unchanged_by s k
concluded s room (denied k) (answered a) = unchanged_by s k
concluded s room (stored t) (answered a) = cond (leb (length a) room) (record { reply = answered a; store = t }) (unchanged_by s 9)

-- A reader's command over a store, and over the table that the reader sees of it: the namespace list, the line, and the room of the answer
-- buffer. "above: 16, checked before 1".
unfoldable pub commanded_over : ℕ → Store → Table → List ℕ → List ℕ → ℕ → Commanded
commanded_over reader s table spaces l room =
    cond (is_reader reader) (concluded s room (attempted reader s (parsed l)) (answer table spaces l)) (unchanged_by s 16)

-- one command over a store: its reader, the namespace list, the line, and the answer buffer as it was lent
unfoldable pub commanded : ℕ → Store → List ℕ → List ℕ → List ℕ → Commanded
commanded reader s spaces l buffer = commanded_over reader s (store_seen reader s) spaces l (length buffer)

-- Whether a command changed a row: SUBSCRIBE that was answered did if the name was not subscribed, UNSUBSCRIBE if it was.
unfoldable pub changes : Store → Parsed → Reply → Bool
changes s (editing tag (subscribe n)) (answered a) = not (subscribed (flags_of (store_rows s) (spelled n)))
changes s (editing tag (unsubscribe n)) (answered a) = subscribed (flags_of (store_rows s) (spelled n))
changes s (editing tag e) (refusal k) = false
changes s (refused k) r = false
changes s (namespace tag) r = false
changes s (listing tag o ps) r = false
changes s (root_of tag) r = false
changes s (subscriptions tag ps) r = false
