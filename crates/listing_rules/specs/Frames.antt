-- The frames of the program: one frame's meaning over the stored bytes, and a whole input's meaning.
use Rattle.std.specs.Prelude.{List, [], ◌∷◌, ◌++◌, Bool, cond, ◌&&◌, eqb, leb, length, ℕ, ◌+◌, ◌-◌, ◌*◌, ◌/◌, ◌%◌}
use Rattle.std.proofs.Math.Option.{Option, none, some}
use Rattle.listing_rules.specs.Bytes.{within, is_empty, digit0, digit9, capital_a, capital_f, small_a, small_f, LF}
use Rattle.listing_rules.specs.Lists.{joined, filled_to}
use Rattle.listing_rules.specs.Table.{Table, names, packed_rows}
use Rattle.listing_rules.specs.Records.{Record, packed_records}
use Rattle.listing_rules.specs.Readers.{packed_seen}
use Rattle.listing_rules.specs.Tokens.{◌>>=◌}
use Rattle.listing_rules.specs.Command.{Parsed, is_edit, parsed}
use Rattle.listing_rules.specs.Subscriptions.{Store, zero_record}
use Rattle.listing_rules.specs.Server.{Reply, refusal, answered, is_answered}
use Rattle.listing_rules.specs.Summary.{Summed, summed_seen, counted_first, SummedCommand, summed_over}
use Rattle.listing_rules.specs.Walk.{WalkReply, walk_refused, walked, walk_by}

-- what the digits A to F, or a to f, have over their numbers, 10 to 15
abbrev pub capital_over : ℕ
capital_over = 55

abbrev pub small_over : ℕ
small_over = 87

-- "Lines of hexadecimal, either case"
unfoldable pub digit : ℕ → Option ℕ
digit c =
    cond (within digit0 digit9 c) (some (c - digit0))
    (cond (within capital_a capital_f c) (some (c - capital_over)) (cond (within small_a small_f c) (some (c - small_over)) none))

-- two digits a byte; "an odd number of digits, another character" is no frame
unfoldable pub bytes_of : List ℕ → Option (List ℕ)
bytes_of [] = some []
bytes_of (h ∷ []) = none
bytes_of (h ∷ l ∷ t) =
    let r = bytes_of t in
    digit h >>= λ a. digit l >>= λ b. r >>= λ bs. some ((16 * a + b) ∷ bs)

-- what a frame says
pub data Frame : Type 0 where
  table_bytes : List ℕ → Frame
  namespace_bytes : List ℕ → Frame
  command : ℕ → List ℕ → Frame
  walk_with : ℕ → ℕ → Frame
  bad_frame : Frame

-- W9: "Frames 43 and 57 carry the reader as their first byte (none: 13, as is 57 without exactly one byte more)": a command's reader and
-- line, a walk's reader and option byte
unfoldable pub command_frame : List ℕ → Frame
command_frame [] = bad_frame
command_frame (r ∷ l) = command r l

unfoldable pub walk_frame : List ℕ → Frame
walk_frame [] = bad_frame
walk_frame (r ∷ []) = bad_frame
walk_frame (r ∷ o ∷ []) = walk_with r o
walk_frame (r ∷ o ∷ x ∷ t) = bad_frame

-- "4D and a row, or 4E and an entry"; "43 is a command, 57 one option byte"; "another first byte" is a bad frame, and so is an empty one
unfoldable pub frame_of : Option (List ℕ) → Frame
frame_of none = bad_frame
frame_of (some []) = bad_frame
frame_of (some (k ∷ bs)) =
    cond (eqb k 0x4D) (table_bytes bs)
    (cond (eqb k 0x4E) (namespace_bytes bs) (cond (eqb k 0x43) (command_frame bs) (cond (eqb k 0x57) (walk_frame bs) bad_frame)))

-- W9: "the frame limit becomes 4,102 digits"
unfoldable pub read_frame : List ℕ → Frame
read_frame line = cond (leb (length line) 4102) (frame_of (bytes_of line)) bad_frame

-- "Answers in upper case, LF behind each"
unfoldable pub hex_digit : ℕ → ℕ
hex_digit d = cond (leb d 9) (digit0 + d) (capital_over + d)

unfoldable pub hex : List ℕ → List ℕ
hex [] = []
hex (b ∷ t) = hex_digit (b / 16) ∷ hex_digit (b % 16) ∷ hex t

unfoldable pub answer_line : List ℕ → List ℕ
answer_line bs = hex bs ++ (LF ∷ [])

-- "52 and the number in one byte"
unfoldable pub refusal_line : ℕ → List ℕ
refusal_line k = answer_line (0x52 ∷ k ∷ [])

-- "41 and the bytes"
unfoldable pub reply_line : Reply → List ℕ
reply_line (refusal k) = refusal_line k
reply_line (answered a) = answer_line (0x41 ∷ a)

-- "57, count in 2 bytes, high first, found"
unfoldable pub walk_line : WalkReply → List ℕ
walk_line (walk_refused k) = refusal_line k
walk_line (walked c f p) = answer_line (0x57 ∷ c / 256 % 256 ∷ c % 256 ∷ f)

-- The table as the program keeps it: its packed bytes, and "from the first accepted edit" records (document 02, W6) with their summary (W13).
pub data Kept : Type 0 where
  bytes : List ℕ → Kept
  records : Summed → Kept

-- "names at first in row order without gaps": records, the first name at a place
unfoldable pub records_from : ℕ → List Record → List Record
records_from at [] = []
records_from at (r ∷ rs) = record { flags = r.flags; start = at; len = r.len; readers = r.readers } ∷ records_from (at + r.len) rs

-- "The program keeps 512 records, names at first in row order without gaps from the start of 16,384 bytes"; the others are zero
unfoldable pub program_store : List ℕ → Store
program_store t =
    record {
      records = filled_to 512 zero_record (records_from 0 (packed_records t));
      count = length (packed_records t);
      area = filled_to 16384 0 (joined (names (packed_rows t)));
    }

-- its summary is counted when the packed rows become records
unfoldable pub program_summed : List ℕ → Summed
program_summed t = counted_first (program_store t)

-- the table that a reader sees of it
unfoldable pub kept_seen : ℕ → Kept → Table
kept_seen reader (bytes t) = packed_seen reader t
kept_seen reader (records m) = summed_seen reader m

-- "every edit is judged on them"
unfoldable pub kept_summed : Kept → Summed
kept_summed (bytes t) = program_summed t
kept_summed (records m) = m

-- the stored table and the stored bytes of the namespace list
pub record Stored : Type 0 where
  pub table : Kept
  pub namespaces : List ℕ

-- what a frame leaves stored, and what it answers: one line or nothing
pub record Stepped : Type 0 where
  pub stored : Stored
  pub output : List ℕ

unfoldable pub answering : Stored → List ℕ → Stepped
answering s l = record { stored = s; output = l }

-- "is added behind the stored bytes (16,384 and 1,024; no room: 1 or 2, nothing added) and answers nothing"; after the first accepted
-- edit "4D then is 13"
unfoldable pub add_row_to : Kept → List ℕ → List ℕ → Stepped
add_row_to (records m) spaces bs = answering (record { table = records m; namespaces = spaces }) (refusal_line 13)
add_row_to (bytes t) spaces bs =
    cond (leb (length t + length bs) 16384)
    (answering (record { table = bytes (t ++ bs); namespaces = spaces }) [])
    (answering (record { table = bytes t; namespaces = spaces }) (refusal_line 1))

unfoldable pub add_row : Stored → List ℕ → Stepped
add_row s bs = add_row_to s.table s.namespaces bs

unfoldable pub add_entry : Stored → List ℕ → Stepped
add_entry s bs =
    cond (leb (length s.namespaces + length bs) 1024)
    (answering (record { table = s.table; namespaces = s.namespaces ++ bs }) [])
    (answering s (refusal_line 2))

-- a reader's command over what is kept: its reply, and what an accepted edit leaves
unfoldable pub command_over : ℕ → Kept → List ℕ → List ℕ → SummedCommand
command_over reader k spaces l = summed_over reader (kept_summed k) (kept_seen reader k) spaces l 16384

-- an edit is accepted if it is answered OK, also where it changed no row
unfoldable pub accepted : Parsed → Reply → Bool
accepted p r = is_edit p && is_answered r

-- what a command answers, and what is kept after it
unfoldable pub command_step : Stored → ℕ → List ℕ → Stepped
command_step s reader l =
    let c = command_over reader s.table s.namespaces l in
    record {
      stored = record {
        table = cond (accepted (parsed l) c.reply) (records c.left) s.table;
        namespaces = s.namespaces;
      };
      output = reply_line c.reply;
    }

-- one frame; "Buffers: answer and scratch 16,384, found and pending 8,192 each"; a bad frame "is 13, and the stored bytes stay"
unfoldable pub framed : Stored → Frame → Stepped
framed s (table_bytes bs) = add_row s bs
framed s (namespace_bytes bs) = add_entry s bs
framed s (command reader l) = command_step s reader l
framed s (walk_with reader o) = answering s (walk_line (walk_by reader (kept_seen reader s.table) o 16384 8192 8192))
framed s bad_frame = answering s (refusal_line 13)

-- One frame a line, given by its characters without the LF.
unfoldable pub step : Stored → List ℕ → Stepped
step s line = framed s (read_frame line)

-- The program between two bytes of its input: what is stored, and the characters of the frame so far.
pub record Session : Type 0 where
  pub stored : Stored
  pub partial : List ℕ

unfoldable pub start : Session
start = record { stored = record { table = bytes []; namespaces = [] }; partial = [] }

-- what a byte, or some bytes, of the input come to
pub record Fed : Type 0 where
  pub session : Session
  pub output : List ℕ

-- "one frame a line ending in LF"
unfoldable pub fed : Session → ℕ → Fed
fed s c =
    let r = step s.stored s.partial in
    cond (eqb c LF)
    (record { session = record { stored = r.stored; partial = [] }; output = r.output })
    (record { session = record { stored = s.stored; partial = s.partial ++ (c ∷ []) }; output = [] })

unfoldable pub behind : List ℕ → Fed → Fed
behind out f = record { session = f.session; output = out ++ f.output }

unfoldable pub fed_all : Session → List ℕ → Fed
fed_all s [] = record { session = s; output = [] }
fed_all s (c ∷ t) = let f = fed s c in behind f.output (fed_all f.session t)

-- "a last frame without LF is 13"
unfoldable pub at_end : Session → List ℕ
at_end s = cond (is_empty s.partial) [] (refusal_line 13)

-- a whole input's answers
unfoldable pub program_output : List ℕ → List ℕ
program_output input = let f = fed_all start input in f.output ++ at_end f.session
