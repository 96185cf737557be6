-- Replay of a night (document 02, W14): a log of commands and of what was answered, run again over a table; the same log fed in pieces; and the
-- log that the program's own session makes.
use Rattle.std.specs.Prelude.{◌≡◌, List, [], ◌∷◌, ◌++◌, map, Bool, true, false, cond, eqb, leb, length, take, ℕ, suc, ◌-◌}
use Rattle.std.proofs.Math.Option.{Option, none, some}
use Rattle.listing_rules.specs.Bytes.{same, is_empty, LF}
use Rattle.listing_rules.specs.Feeder.{last_is}
use Rattle.listing_rules.specs.Server.{Reply, refusal, answered}
use Rattle.listing_rules.specs.Summary.{Summed, SummedCommand}
use Rattle.listing_rules.specs.Walk.{lines_of}
use Rattle.listing_rules.specs.Frames.{bytes_of, Frame, table_bytes, namespace_bytes, command, walk_with, bad_frame, read_frame, records, Stored}
use Rattle.listing_rules.specs.Frames.{Session, command_over, step, fed}

-- "Our logs hold frames of 43 with the command and 41 or 52 with what was answered": a reader's command, the answer recorded, or a frame that
-- cannot be read
pub data Logged : Type 0 where
  asked : ℕ → List ℕ → Logged
  recorded : Reply → Logged
  unreadable : Logged

-- W9: 43 carries "the reader as [its] first byte (none: 13 ..)"
unfoldable pub asked_in : List ℕ → Logged
asked_in [] = unreadable
asked_in (r ∷ l) = asked r l

-- "52 with other than one byte too" is unreadable
unfoldable pub number_in : List ℕ → Logged
number_in [] = unreadable
number_in (k ∷ []) = recorded (refusal k)
number_in (k ∷ x ∷ t) = unreadable

-- a frame by its bytes: 43, 41 or 52; 41 without bytes is an empty answer; a row, an entry, a walk or another first byte is unreadable
unfoldable pub logged_of : Option (List ℕ) → Logged
logged_of none = unreadable
logged_of (some []) = unreadable
logged_of (some (k ∷ bs)) =
    cond (eqb k 0x43) (asked_in bs) (cond (eqb k 0x41) (recorded (answered bs)) (cond (eqb k 0x52) (number_in bs) unreadable))

-- "In a log a frame of 41 may have up to 32,770 digits"; others have the program's limit
unfoldable pub log_limit : Logged → ℕ
log_limit (recorded (answered a)) = 32770
log_limit (recorded (refusal k)) = 4102
log_limit (asked reader l) = 4102
log_limit unreadable = 4102

-- a frame by its characters without the LF; digits are of either case, as the program's
unfoldable pub read_logged : List ℕ → Logged
read_logged line = let f = logged_of (bytes_of line) in cond (leb (length line) (log_limit f)) f unreadable

-- "one frame a line ending in LF"; "a last frame without LF" is unreadable
unfoldable pub logged_line : List ℕ → Logged
logged_line l = cond (last_is LF l) (read_logged (take (length l - 1) l)) unreadable

unfoldable pub logged_frames : List ℕ → List Logged
logged_frames log = map logged_line (lines_of log)

-- What a replay reports: "that all agree", "the number of the first frame of 43 whose recorded answer differs", or 13 "(no longer the program's
-- alone) and the number of that frame or that 43": document 01's "program only" in its row of 13 goes.
pub data Verdict : Type 0 where
  all_agree : Verdict
  differs : ℕ → Verdict
  stopped : ℕ → Verdict

-- "and the table at the end", with its summary (W13)
pub record Replayed : Type 0 where
  pub verdict : Verdict
  pub left : Summed

unfoldable pub reporting : Verdict → Summed → Replayed
reporting v m = record { verdict = v; left = m }

unfoldable pub first_of : Option ℕ → Verdict
first_of none = all_agree
first_of (some k) = differs k

-- the answer recorded, and the answer given now: bytes are compared
unfoldable pub same_reply : Reply → Reply → Bool
same_reply (refusal a) (refusal b) = eqb a b
same_reply (refusal a) (answered s) = false
same_reply (answered s) (refusal b) = false
same_reply (answered s) (answered t) = same s t

-- the first difference so far, after the command of frame k
unfoldable pub noted : ℕ → Bool → Option ℕ → Option ℕ
noted k agree (some j) = some j
noted k agree none = cond agree none (some k)

-- "it runs each command, edits included, with an answer buffer of 16,384 bytes": over records, as the program does after its first accepted edit
unfoldable pub rerun : List ℕ → Summed → ℕ → List ℕ → SummedCommand
rerun spaces m reader l = command_over reader (records m) spaces l

-- The frames from number k on, "All frames count, from 1": "A frame out of turn or unreadable .., or an end after 43, stops it with 13 .. and the
-- number of that frame or that 43, whatever differed before. A command is run once its answer is read, and the table is then as those left it."
unfoldable pub replay_from : List ℕ → ℕ → Option ℕ → Summed → List Logged → Replayed
replay_from spaces k first m [] = reporting (first_of first) m
replay_from spaces k first m (recorded r ∷ fs) = reporting (stopped k) m
replay_from spaces k first m (unreadable ∷ fs) = reporting (stopped k) m
replay_from spaces k first m (asked reader l ∷ []) = reporting (stopped k) m
replay_from spaces k first m (asked reader l ∷ asked q n ∷ fs) = reporting (stopped (suc k)) m
replay_from spaces k first m (asked reader l ∷ unreadable ∷ fs) = reporting (stopped (suc k)) m
replay_from spaces k first m (asked reader l ∷ recorded r ∷ fs) =
    let c = rerun spaces m reader l in
    replay_from spaces (suc (suc k)) (noted k (same_reply r c.reply) first) c.left fs

-- "given the starting table, the namespace list and a log"
unfoldable pub replay : Summed → List ℕ → List ℕ → Replayed
replay m spaces log = replay_from spaces 1 none m (logged_frames log)

-- the number of refusal, 13 where it was stopped and else 0; and the number of the frame, 0 where all agree
unfoldable pub replay_number : Verdict → ℕ
replay_number all_agree = 0
replay_number (differs k) = 0
replay_number (stopped k) = 13

unfoldable pub replay_frame : Verdict → ℕ
replay_frame all_agree = 0
replay_frame (differs k) = k
replay_frame (stopped k) = k

-- The same log fed byte by byte, so that it may be cut anywhere (laws `replay-in-pieces` and `replay-cut` of proofs/ReplayPieces). Between two
-- frames a command is due, or the answer to one: to a reader's line.
pub data Due : Type 0 where
  command_due : Due
  answer_due : ℕ → List ℕ → Due

-- A replay between two bytes of its log: how many frames have ended, what is due next, the first difference so far, the frame that stopped it,
-- the table that the commands run so far left, and the characters of the frame so far.
pub record Replaying : Type 0 where
  pub frames : ℕ
  pub due : Due
  pub first : Option ℕ
  pub stop : Option ℕ
  pub left : Summed
  pub partial : List ℕ

unfoldable pub replay_start : Summed → Replaying
replay_start m = record { frames = 0; due = command_due; first = none; stop = none; left = m; partial = [] }

-- between two frames, n of which have ended; and after the frame k that stopped it
unfoldable pub waiting : ℕ → Due → Option ℕ → Summed → Replaying
waiting n d first m = record { frames = n; due = d; first = first; stop = none; left = m; partial = [] }

unfoldable pub stopped_at : ℕ → Option ℕ → Summed → Replaying
stopped_at k first m = record { frames = k; due = command_due; first = first; stop = some k; left = m; partial = [] }

-- A frame ends after n others: its number is one more, and n is the number of the 43 whose answer is due.
unfoldable pub frame_ended : List ℕ → ℕ → Due → Option ℕ → Summed → Logged → Replaying
frame_ended spaces n command_due first m (asked reader l) = waiting (suc n) (answer_due reader l) first m
frame_ended spaces n command_due first m (recorded r) = stopped_at (suc n) first m
frame_ended spaces n command_due first m unreadable = stopped_at (suc n) first m
frame_ended spaces n (answer_due reader l) first m (asked q k) = stopped_at (suc n) first m
frame_ended spaces n (answer_due reader l) first m unreadable = stopped_at (suc n) first m
frame_ended spaces n (answer_due reader l) first m (recorded r) =
    let c = rerun spaces m reader l in waiting (suc n) command_due (noted n (same_reply r c.reply) first) c.left

-- a character of a frame
unfoldable pub with_character : Replaying → ℕ → Replaying
with_character r c =
    record { frames = r.frames; due = r.due; first = r.first; stop = r.stop; left = r.left; partial = r.partial ++ (c ∷ []) }

-- a byte where nothing has stopped it: LF ends the frame
unfoldable pub replay_on : List ℕ → Replaying → ℕ → Replaying
replay_on spaces r c =
    cond (eqb c LF) (frame_ended spaces r.frames r.due r.first r.left (read_logged r.partial)) (with_character r c)

-- one byte; after a stop nothing changes any more
unfoldable pub replay_byte : List ℕ → Replaying → ℕ → Replaying
replay_byte spaces r c = elim r.stop [ none ↦ replay_on spaces r c | some k ↦ r ]

unfoldable pub replay_all : List ℕ → Replaying → List ℕ → Replaying
replay_all spaces r [] = r
replay_all spaces r (c ∷ t) = replay_all spaces (replay_byte spaces r c) t

-- pieces of a log, of any length, each fed to what the one before left
unfoldable pub replay_pieces : List ℕ → Replaying → List (List ℕ) → Replaying
replay_pieces spaces r [] = r
replay_pieces spaces r (p ∷ ps) = replay_pieces spaces (replay_all spaces r p) ps

-- The end of the log: what stopped it before; "a last frame without LF", which is one frame more; "an end after 43", which was the last frame; or
-- the first difference.
unfoldable pub due_at_end : Due → ℕ → Option ℕ → Verdict
due_at_end command_due n first = first_of first
due_at_end (answer_due reader l) n first = stopped n

unfoldable pub verdict_at_end : Option ℕ → Replaying → Verdict
verdict_at_end (some k) r = stopped k
verdict_at_end none r = cond (is_empty r.partial) (due_at_end r.due r.frames r.first) (stopped (suc r.frames))

unfoldable pub replay_end : Replaying → Replayed
replay_end r = reporting (verdict_at_end r.stop r) r.left

-- "A log of our own program's commands and answers": "Frames answered with 13 are not logged, nor walks", and other frames are no commands
unfoldable pub is_command : Frame → Bool
is_command (command reader l) = true
is_command (table_bytes bs) = false
is_command (namespace_bytes bs) = false
is_command (walk_with reader o) = false
is_command bad_frame = false

-- what a frame adds to the log: the frame, and the line that answers it
unfoldable pub logging : Stored → List ℕ → List ℕ
logging s line = cond (is_command (read_frame line)) (line ++ (LF ∷ (step s line).output)) []

-- the log of some bytes of the program's input, from a session on
unfoldable pub session_log : Session → List ℕ → List ℕ
session_log s [] = []
session_log s (c ∷ t) = let here = logging s.stored s.partial in cond (eqb c LF) here [] ++ session_log (fed s c).session t

-- "no row or entry added meanwhile": a frame that is no command leaves what is stored
abbrev pub NoneAdded : Session → List ℕ → Type 0
NoneAdded s [] = Unit {0}
NoneAdded s (c ∷ t) =
    (eqb c LF ≡ true → is_command (read_frame s.partial) ≡ false → (step s.stored s.partial).stored ≡ s.stored) × NoneAdded (fed s c).session t
