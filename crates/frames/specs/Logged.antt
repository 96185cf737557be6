-- A frame of a log that the code read, in document 02's terms (W14).
use Rattle.std.specs.Prelude.{Option, Some, None}
use Rattle.std.specs.Prelude.{◌≡◌, List, [], ◌∷◌, cond, leb, length, ℕ}
use Rattle.std.proofs.lemmas.List.Edits.{sets}
use Rattle.listing_rules.specs.Server.{refusal, answered}
use Rattle.listing_rules.specs.Replay.{Logged, asked, recorded as recordedAs, unreadable, read_logged}
use Rattle.frames.specs.declared.logs.Recorded.{Recorded}
use Rattle.frames.specs.declared.logs.Recorded.TheVariants.{Answer, Number}

-- the code's answer to a frame, as what was answered
unfoldable pub recorded_is : Logged → Option Recorded
recorded_is (asked r l) = None
recorded_is (recordedAs (answered a)) = Some Answer
recorded_is (recordedAs (refusal k)) = Some (Number k)
recorded_is unreadable = None

-- the bytes of a frame as a command: its reader, and its line; none of another frame
unfoldable pub command_bytes : Logged → List ℕ
command_bytes (asked r l) = r ∷ l
command_bytes (recordedAs r) = []
command_bytes unreadable = []

-- those that fit in so many bytes: all or none
unfoldable pub fitting_bytes : ℕ → List ℕ → List ℕ
fitting_bytes room bs = cond (leb (length bs) room) bs []

-- how many they are, where there is one: a command has its reader
unfoldable pub length_some : List ℕ → Option ℕ
length_some [] = None
length_some (b ∷ bs) = Some (length (b ∷ bs))

-- The frame `line` of a log was read as a command over the lent bytes `d`, which leaves `e`; `r` is how many bytes the command has.
pub record CommandRead (line d e : List ℕ) (r : Option ℕ) : Type 0 where
  pub answer : r ≡ length_some (fitting_bytes (length d) (command_bytes (read_logged line)))
  -- every byte
  pub bytes : e ≡ sets d 0 (fitting_bytes (length d) (command_bytes (read_logged line)))
