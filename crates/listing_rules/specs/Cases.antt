-- Cases that the definitions are computed on, for the expert's sheet and the table of limits: a case holds or it does not.
use Rattle.std.specs.Prelude.{List, [], ◌∷◌, ◌++◌, map, Bool, true, false, cond, ◌&&◌, ◌||◌, not, eqb, length, take, replicate, ℕ, suc, ◌+◌, ◌-◌, ◌/◌, ◌%◌}
use Prim.Native.String.{String}
use Rattle.listing_rules.specs.Bytes.{text, crlf, same, is_empty}
use Rattle.listing_rules.specs.Lists.{every, any_of}
use Rattle.listing_rules.specs.Table.{Table, rows, passes, packed_table}
use Rattle.listing_rules.specs.Records.{Record, record_table}
use Rattle.listing_rules.specs.Readers.{is_reader, records_seen, packed_seen}
use Rattle.listing_rules.specs.Command.{Edit}
use Rattle.listing_rules.specs.Subscriptions.{Store, Edited, denied as refusedEdit, stored, edited, insertion, is_in, subscribed_names}
use Rattle.listing_rules.specs.Namespaces.{namespaces_pass}
use Rattle.listing_rules.specs.Feeder.{Event, handed, go_on, denied, quiet, go_on_line, Feeder, reading, in_literal, dropping, first, feed_chunks}
use Rattle.listing_rules.specs.Options.{criteria_number}
use Rattle.listing_rules.specs.Server.{Reply, refusal, answered, answer, limited, from_reader, served_to, number_of, length_of, buffer_after}
use Rattle.listing_rules.specs.Server.{commanded}
use Rattle.listing_rules.specs.Series.{Sent, commanded_all, set_sent}
use Rattle.listing_rules.specs.Compaction.{compaction}
use Rattle.listing_rules.specs.LineReader.{Read, line, root, bad, read_line, read_number, attributes_read, child_info_of, name_bytes, same_bools, line_from}
use Rattle.listing_rules.specs.LineReader.{written}
use Rattle.listing_rules.specs.Walk.{lawful_byte, WalkReply, walk_refused, walked, walk_by, collected_by, walk_number, walk_count, found_length}
use Rattle.listing_rules.specs.Walk.{scratch_after, found_after, pending_after, packed}
use Rattle.listing_rules.specs.Demand3.{meeting_names, meeting_ancestors, too_small}
use Rattle.listing_rules.specs.Frames.{Kept, bytes, records, program_store, program_output, step, walk_line}

-- a row of these readers, one that all eight see, and an entry, in bytes
abbrev pub row_for : ℕ → ℕ → List ℕ → List ℕ
row_for readers f n = f / 256 ∷ f % 256 ∷ readers ∷ length n ∷ n

abbrev pub row : ℕ → List ℕ → List ℕ
row f n = row_for 0xFF f n

abbrev pub mailbox_for : ℕ → ℕ → String → List ℕ
mailbox_for readers f n = row_for readers f (text n)

abbrev pub mailbox : ℕ → String → List ℕ
mailbox f n = row f (text n)

abbrev pub entry : ℕ → List ℕ → ℕ → List ℕ
entry c p d = c ∷ length p ∷ (p ++ (d ∷ []))

-- n times the byte b
abbrev pub times : ℕ → ℕ → List ℕ
times n b = replicate n b

-- a line of the sheet, and several, with their CR LF
abbrev pub sends : String → List ℕ
sends s = text s ++ crlf

abbrev pub lines : List String → List ℕ
lines [] = []
lines (s ∷ ss) = sends s ++ lines ss

-- an area, records over it and their count, as they are lent
pub record Lent : Type 0 where
  pub area : List ℕ
  pub records : List Record
  pub count : ℕ

abbrev pub lent_table : Lent → Table
lent_table t = record_table t.area t.records t.count

abbrev pub lent_seen : ℕ → Lent → Table
lent_seen reader t = records_seen reader t.area t.records t.count

-- Where no reader is named, reader 0 asks.
pub data Case : Type 0 where
  -- a reader, a table and each of these command lines, with an empty namespace list, are answered so, in a buffer of this length
  replies_to : ℕ → List ℕ → ℕ → List (List ℕ) → Reply → Case
  -- a reader, a table and an option byte, with 16,384 bytes of scratch and 64 of found and of pending, are walked so; as demand 3 declares
  walks_for : ℕ → List ℕ → ℕ → WalkReply → Case
  -- of a reader: records, a namespace list and each of these command lines, the others not sent, are answered so, in a buffer of this
  -- length, and leave this
  commands_of : ℕ → Lent → ℕ → List ℕ → List (List ℕ) → Reply → Lent → Case
  -- a table, a namespace list and a command line are answered so, in a buffer of this length
  replies : ℕ → List ℕ → List ℕ → List ℕ → Reply → Case
  -- each of these lines, over an empty table and an empty namespace list, is refused with this number
  refuses : ℕ → List (List ℕ) → Case
  -- a table and an option byte, with the rooms of scratch, found and pending, are walked so; where they are not too small that is
  -- what demand 3 declares
  walks : List ℕ → ℕ → ℕ → ℕ → ℕ → WalkReply → Case
  -- all of these tables pass, and none of those
  tables : List (List ℕ) → List (List ℕ) → Case
  -- all of these records pass, and none of those
  layouts : List Lent → List Lent → Case
  -- records, a namespace list and a command line are answered so, in a buffer of this length
  replies_over : Lent → ℕ → List ℕ → List ℕ → Reply → Case
  -- records and an option byte, with the rooms of scratch, found and pending, are walked so
  walks_over : Lent → ℕ → ℕ → ℕ → ℕ → WalkReply → Case
  -- these records pass, and each of these edits of them, the others not made, comes to this
  edits : Lent → List Edit → Edited → Case
  -- records, a namespace list and each of these command lines, the others not sent, are answered so, in a buffer of this length, and
  -- leave this
  commands : Lent → ℕ → List ℕ → List (List ℕ) → Reply → Lent → Case
  -- records and command lines, one after the other, each with an empty namespace list and a buffer of 64 bytes: the names subscribed then, in
  -- the order of the rows
  series : Lent → List (List ℕ) → List (List ℕ) → Case
  -- a row of this name put into records, whatever their names are: a number, or what is left
  inserts : Lent → List ℕ → Edited → Case
  -- names moved together: the number, and what is left
  compacts : Lent → ℕ → Lent → Case
  -- all of these namespace lists pass, and none of those
  spaces : List (List ℕ) → List (List ℕ) → Case
  -- the same with the answer buffer as it was lent: the number, the length, and the buffer's bytes afterwards
  answers_into : List ℕ → List ℕ → List ℕ → List ℕ → ℕ → ℕ → List ℕ → Case
  -- a walk into scratch, found and pending as they were lent: the number, the count, the length of found, and found's and pending's
  -- bytes afterwards; scratch is zero
  walks_into : List ℕ → ℕ → List ℕ → List ℕ → List ℕ → ℕ → ℕ → ℕ → List ℕ → List ℕ → Case
  -- the line writer gives this, in a buffer of this length
  writes : ℕ → List Bool → List ℕ → ℕ → Reply → Case
  -- the same with the buffer as it was lent: the number, the length, and the buffer's bytes afterwards
  writes_into : List ℕ → List Bool → List ℕ → ℕ → ℕ → ℕ → List ℕ → Case
  -- the reader gives this number, these attributes, these criteria by their number, and these 200 bytes of the name
  gives : List ℕ → ℕ → List Bool → ℕ → List ℕ → Case
  -- the reader reads the line so, and none of those
  reads : List ℕ → Read → List (List ℕ) → Case
  -- the program answers this input so
  program : List ℕ → List ℕ → Case
  -- with these bytes stored, the program takes the frame so: the lengths of what is stored then, and the answer
  steps : ℕ → ℕ → List ℕ → ℕ → ℕ → List ℕ → Case
  -- with this table stored, the program answers the frame with a line of this length that begins so
  answers_frame : List ℕ → List ℕ → ℕ → List ℕ → Case
  -- a walk of so many commands that found nothing is answered so
  counts : ℕ → List ℕ → Case
  -- the feeder, fed these chunks from the first state, says this, and is in the first state again or is not
  feeds : List (List ℕ) → List Event → Bool → Case
  -- the continuation line
  continues : List ℕ → Case
  -- of a reader: a packed table, a namespace list and a command line are answered so, in a buffer of 512 bytes
  serves : ℕ → List ℕ → List ℕ → List ℕ → Reply → Case
  -- of a reader: a packed table and an option byte, with 512 bytes of scratch and 64 of found and of pending, are collected so
  collects : ℕ → List ℕ → ℕ → WalkReply → Case
  -- the program lays packed rows out so: the records of the rows, and the bytes of their names; 512 records and 16,384 bytes, zero after these
  lays_out : List ℕ → List Record → List ℕ → Case
  -- records and commands as they are sent, each with its reader, namespace list and buffer: the names subscribed then, in the order of the rows, which
  -- a plain set has too, and names that it has not
  sent_series : Lent → List Sent → List (List ℕ) → List (List ℕ) → Case

-- what is lent as a store, and what an edit leaves
abbrev pub lent_store : Lent → Store
lent_store t = record { records = t.records; count = t.count; area = t.area }

abbrev pub leaves : Lent → Edited
leaves t = stored (lent_store t)

abbrev pub same_records : List Record → List Record → Bool
same_records [] [] = true
same_records [] (q ∷ qs) = false
same_records (r ∷ rs) [] = false
same_records (r ∷ rs) (q ∷ qs) = eqb r.flags q.flags && eqb r.start q.start && eqb r.len q.len && eqb r.readers q.readers &&
    same_records rs qs

abbrev pub same_store : Store → Store → Bool
same_store s t = same_records s.records t.records && eqb s.count t.count && same s.area t.area

abbrev pub same_edited : Edited → Edited → Bool
same_edited (refusedEdit j) (refusedEdit k) = eqb j k
same_edited (refusedEdit j) (stored t) = false
same_edited (stored s) (refusedEdit k) = false
same_edited (stored s) (stored t) = same_store s t

-- a line as it is sent in a series
abbrev pub sent_line : List ℕ → Sent
sent_line l = record { reader = 0; namespaces = []; line = l; buffer = times 64 0 }

abbrev pub same_names : List (List ℕ) → List (List ℕ) → Bool
same_names [] [] = true
same_names [] (m ∷ ms) = false
same_names (n ∷ ns) [] = false
same_names (n ∷ ns) (m ∷ ms) = same n m && same_names ns ms

abbrev pub same_reply : Reply → Reply → Bool
same_reply (refusal a) (refusal b) = eqb a b
same_reply (refusal a) (answered s) = false
same_reply (answered s) (refusal b) = false
same_reply (answered s) (answered t) = same s t

abbrev pub same_walk : WalkReply → WalkReply → Bool
same_walk (walk_refused a) (walk_refused b) = eqb a b
same_walk (walk_refused a) (walked c f p) = false
same_walk (walked c f p) (walk_refused b) = false
same_walk (walked c f p) (walked c' f' p') = eqb c c' && same f f' && same p p'

abbrev pub same_flag : Bool → Bool → Bool
same_flag a b = cond a b (not b)

abbrev pub same_read : Read → Read → Bool
same_read (line bs n c) (line bs' n' c') = same_bools bs bs' && same n n' && same_flag c.subscribed c'.subscribed && same_flag c.special
    c'.special
same_read (line bs n c) root = false
same_read (line bs n c) bad = false
same_read root (line bs n c) = false
same_read root root = true
same_read root bad = false
same_read bad (line bs n c) = false
same_read bad root = false
same_read bad bad = true

-- events as bytes, to compare them: each begins with its kind, and a command with its length
abbrev pub event_bytes : List Event → List ℕ
event_bytes [] = []
event_bytes (quiet ∷ es) = 0 ∷ event_bytes es
event_bytes (handed l ∷ es) = 1 ∷ length l ∷ (l ++ event_bytes es)
event_bytes (go_on ∷ es) = 2 ∷ event_bytes es
event_bytes (denied k ∷ es) = 3 ∷ k ∷ event_bytes es

abbrev pub is_first : Feeder → Bool
is_first (reading kept l) = is_empty kept
is_first (in_literal kept n) = false
is_first (dropping cr) = false

-- what demand 3 says of a walk with this result, over the table that the reader sees
abbrev pub as_declared : Table → ℕ → ℕ → ℕ → ℕ → WalkReply → Bool
as_declared t o s f p (walk_refused k) = not (passes t) || not (lawful_byte o) || too_small (rows t) o s f p
as_declared t o s f p (walked c fs ps) =
    let ancestors = meeting_ancestors (rows t) o in
    not (too_small (rows t) o s f p) && eqb c (1 + length ancestors) && same fs (packed (meeting_names (rows t) o)) && same ps (packed ancestors)

-- a reader's walk comes to this, and so demand 3 declares it
abbrev pub walks_so : ℕ → Table → ℕ → ℕ → ℕ → ℕ → WalkReply → Bool
walks_so reader t o s f p r = same_walk (walk_by reader t o s f p) r && (not (is_reader reader) || as_declared t o s f p r)

-- how many packed bytes are stored: none once there are records
abbrev pub packed_length : Kept → ℕ
packed_length (bytes t) = length t
packed_length (records s) = 0

abbrev pub holds : Case → Bool
holds (replies_to reader t room ls r) = every (λ l. same_reply (from_reader reader (limited room (answer (packed_seen reader t) [] l))) r) ls
holds (walks_for reader t o r) = walks_so reader (packed_seen reader t) o 16384 64 64 r
holds (commands_of reader t room ns ls r u) =
    every (λ l. let c = commanded reader (lent_store t) ns l (times room 0) in same_reply c.reply r && same_store c.store (lent_store u)) ls
holds (replies room t ns l r) = same_reply (from_reader 0 (limited room (answer (packed_seen 0 t) ns l))) r
holds (refuses k ls) = every (λ l. same_reply (from_reader 0 (answer (packed_seen 0 []) [] l)) (refusal k)) ls
holds (walks t o s f p r) = walks_so 0 (packed_seen 0 t) o s f p r
holds (tables good poor) = every (λ t. passes (packed_table t)) good && not (any_of (λ t. passes (packed_table t)) poor)
holds (layouts good poor) = every passes (map lent_table good) && not (any_of passes (map lent_table poor))
holds (replies_over t room ns l r) = same_reply (from_reader 0 (limited room (answer (lent_seen 0 t) ns l))) r
holds (walks_over t o s f p r) = walks_so 0 (lent_seen 0 t) o s f p r
holds (edits t es r) = passes (lent_table t) && every (λ e. same_edited (edited (lent_store t) e) r) es
holds (commands t room ns ls r u) =
    every (λ l. let c = commanded 0 (lent_store t) ns l (times room 0) in same_reply c.reply r && same_store c.store (lent_store u)) ls
holds (series t ls ns) = same_names (subscribed_names (commanded_all (lent_store t) (map sent_line ls))) ns
holds (inserts t n r) = same_edited (insertion (lent_store t) n) r
holds (compacts t k u) = let c = compaction (lent_store t) in eqb c.number k && same_store c.store (lent_store u)
holds (spaces good poor) = every namespaces_pass good && not (any_of namespaces_pass poor)
holds (answers_into d t ns l k n e) =
    let r = served_to 0 (packed_seen 0 t) ns l d in
    eqb (number_of r) k && eqb (length_of r) n && same (buffer_after d r) e
holds (walks_into t o s f p k c n f' p') =
    let r = collected_by 0 (packed_seen 0 t) o s f p in
    eqb (walk_number r) k && eqb (walk_count r) c && eqb (found_length r) n
    && same (scratch_after (length s) r) (times (length s) 0) && same (found_after (length f) r) f' && same (pending_after (length p) r) p'
holds (writes room bs n c r) = same_reply (limited room (line_from bs n c)) r
holds (writes_into d bs n c k m e) =
    let r = written bs n c d in
    eqb (number_of r) k && eqb (length_of r) m && same (buffer_after d r) e
holds (gives l k bs c n) =
    let r = read_line l in
    eqb (read_number r) k && same_bools (attributes_read r) bs && eqb (criteria_number (child_info_of r)) c && same (name_bytes r) n
holds (reads l r poor) = same_read (read_line l) r && every (λ x. same_read (read_line x) bad) poor
holds (program i o) = same (program_output i) o
holds (steps t n l t' n' o) =
    let r = step (record { table = bytes (times t 0); namespaces = times n 0 }) l in
    eqb (packed_length r.stored.table) t' && eqb (length r.stored.namespaces) n' && same r.output o
holds (answers_frame t l n o) =
    let r = (step (record { table = bytes t; namespaces = [] }) l).output in
    eqb (length r) n && same (take (length o) r) o
holds (counts c o) = same (walk_line (walked c [] [])) o
holds (feeds cs es b) = let f = feed_chunks first cs in same (event_bytes f.events) (event_bytes es) && same_flag (is_first f.state) b
holds (continues l) = same go_on_line l
holds (serves reader t ns l r) = same_reply (served_to reader (packed_seen reader t) ns l (times 512 0)) r
holds (collects reader t o r) = same_walk (collected_by reader (packed_seen reader t) o (times 512 0) (times 64 0) (times 64 0)) r
holds (lays_out t rs a) =
    same_store (program_store t) (record {
      records = rs ++ replicate (512 - length rs) (record { flags = 0; start = 0; len = 0; readers = 0 });
      count = length rs;
      area = a ++ times (16384 - length a) 0;
    })
holds (sent_series t cs ns others) =
    let set = set_sent (lent_store t) (is_in (subscribed_names (lent_store t))) cs in
    same_names (subscribed_names (commanded_all (lent_store t) cs)) ns && every set ns && not (any_of set others)

-- the places of the cases that fail, counted from k
abbrev pub failures : ℕ → List Case → List ℕ
failures k [] = []
failures k (c ∷ cs) = let r = failures (suc k) cs in cond (holds c) r (k ∷ r)
