-- The characters of a frame so far, and what the code keeps of them.
use Rattle.std.specs.Prelude.{Option, Some, None}
use Rattle.std.specs.Prelude.{◌≡◌, List, [], ◌∷◌, ◌++◌, Bool, false, cond, ◌&&◌, eqb, ltb, length, take, set, ℕ, ◌+◌, ◌≤◌, ◌<◌}
use Rattle.listing_rules.specs.Bytes.{is_empty}
use Rattle.listing_rules.specs.Frames.{read_frame}
use Rattle.frames.specs.declared.gathering.Gathered.{Gathered}
use Rattle.frames.specs.declared.reading.Frame.{Frame}
use Rattle.frames.specs.Reading.{frame_is, FrameRead}

-- The line holds the characters `partial` of a frame so far: all of them, or, of more than 4,102, only that they are so many.
abbrev pub HoldsLen : Option ℕ → List ℕ → List ℕ → Type 0
HoldsLen None line partial = 4102 < length partial
HoldsLen (Some len) line partial = (partial ≡ take len line) × (len ≤ length line) × (len ≤ 4102)

abbrev pub Holds : List ℕ → Gathered → List ℕ → Type 0
Holds line g partial = HoldsLen g.len line partial

-- no character yet
abbrev pub gathered_none : Gathered
gathered_none = record { len = Some 0 }

-- there is room for one character more behind some in a line of so many bytes
unfoldable pub has_room : ℕ → ℕ → Bool
has_room room len = ltb len 4102 && ltb len room

-- what is gathered with one character more
abbrev pub len_more : ℕ → Option ℕ → Option ℕ
len_more room None = None
len_more room (Some len) = cond (has_room room len) (Some (len + 1)) None

unfoldable pub gathered_is : ℕ → Gathered → Gathered
gathered_is room g = record { len = len_more room g.len }

-- the line's bytes then: the character behind the others, or no change
abbrev pub line_more : List ℕ → Option ℕ → ℕ → List ℕ
line_more d None c = d
line_more d (Some len) c = cond (has_room (length d) len) (set d len c) d

unfoldable pub gathered_line : List ℕ → Gathered → ℕ → List ℕ
gathered_line d g c = line_more d g.len c

-- The character `c` was added to the line `d`, which leaves `e`; `r` is what is gathered then.
pub record Gathers (d e : List ℕ) (g : Gathered) (c : ℕ) (r : Gathered) : Type 0 where
  -- a line of 4,102 bytes goes on holding the characters
  pub holds : 4102 ≤ length d → (partial : List ℕ) → Holds d g partial → Holds e r (partial ++ (c ∷ []))
  -- whatever is lent: the answer, and every byte
  pub answer : r ≡ gathered_is (length d) g
  pub bytes : e ≡ gathered_line d g c
  pub kept : length e ≡ length d

-- whether there is no character yet
abbrev pub none_yet : Option ℕ → Bool
none_yet None = false
none_yet (Some len) = eqb len 0

pub record IsEmpty (g : Gathered) (r : Bool) : Type 0 where
  pub holds : (line partial : List ℕ) → Holds line g partial → r ≡ is_empty partial
  pub answer : r ≡ none_yet g.len

-- the characters that are read; of too many, or of a length that the line does not have, none, which is as bad a frame
abbrev pub text_of : List ℕ → Option ℕ → List ℕ
text_of line None = []
text_of line (Some len) = cond (ltb (length line) len) [] (take len line)

unfoldable pub gathered_text : List ℕ → Gathered → List ℕ
gathered_text line g = text_of line g.len

-- The characters gathered were read as a frame over the lent bytes `d`, which leaves `e`; `r` is the answer.
pub record GatheredRead (line : List ℕ) (g : Gathered) (d e : List ℕ) (r : Option Frame) : Type 0 where
  pub means : 2050 ≤ length d → (partial : List ℕ) → Holds line g partial → frame_is e r ≡ read_frame partial
  pub read : FrameRead (gathered_text line g) d e r
