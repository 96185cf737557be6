-- A frame that the code read, in document 01's terms.
use Rattle.std.specs.Prelude.{Option, Some, None}
use Rattle.std.specs.Prelude.{◌≡◌, List, [], ◌∷◌, cond, eqb, leb, length, take, drop, ℕ, ◌+◌, ◌-◌, ◌≤◌}
use Rattle.std.proofs.lemmas.List.Edits.{sets}
use Rattle.listing_rules.specs.Frames.{Frame as Meant, table_bytes, namespace_bytes, command, walk_with, bad_frame, read_frame}
use Rattle.frames.specs.declared.reading.Frame.{Frame}
use Rattle.frames.specs.declared.reading.Frame.TheVariants.{Table, Namespaces, Command, Walk}

-- the frame of an answer over the bytes at its side
unfoldable pub frame_is : List ℕ → Option Frame → Meant
frame_is bytes (Some (Table n)) = table_bytes (take n bytes)
frame_is bytes (Some (Namespaces n)) = namespace_bytes (take n bytes)
frame_is bytes (Some (Command r n)) = command r (take n (drop 1 bytes))
frame_is bytes (Some (Walk r o)) = walk_with r o
frame_is bytes None = bad_frame

-- the answer of a frame
unfoldable pub answer_is : Meant → Option Frame
answer_is (table_bytes bs) = Some (Table (length bs))
answer_is (namespace_bytes bs) = Some (Namespaces (length bs))
answer_is (command r l) = Some (Command r (length l))
answer_is (walk_with r o) = Some (Walk r o)
answer_is bad_frame = None

-- the bytes behind a frame's first byte; a bad frame has none
unfoldable pub behind_kind : Meant → List ℕ
behind_kind (table_bytes bs) = bs
behind_kind (namespace_bytes bs) = bs
behind_kind (command r l) = r ∷ l
behind_kind (walk_with r o) = r ∷ o ∷ []
behind_kind bad_frame = []

-- how many of the lent bytes an answer speaks of
unfoldable pub size_of : Option Frame → ℕ
size_of (Some (Table n)) = n
size_of (Some (Namespaces n)) = n
size_of (Some (Command r n)) = n + 1
size_of (Some (Walk r o)) = 2
size_of None = 0

-- a frame whose bytes do not fit is bad
unfoldable pub fitting : ℕ → Meant → Meant
fitting room f = cond (leb (length (behind_kind f)) room) f bad_frame

-- the frame of a line's characters where so many bytes are lent
unfoldable pub read_within : ℕ → List ℕ → Meant
read_within room line = fitting room (read_frame line)

-- the answer of a first byte k with n bytes behind it, of which r and o are the first; a command without a reader is bad, and so is a walk
-- without exactly one byte more
unfoldable pub kind_is : ℕ → ℕ → ℕ → ℕ → Option Frame
kind_is k n r o =
    cond (eqb k 0x4D) (Some (Table n))
    (cond (eqb k 0x4E) (Some (Namespaces n))
    (cond (eqb k 0x43) (cond (eqb n 0) None (Some (Command r (n - 1)))) (cond (eqb k 0x57) (cond (eqb n 2) (Some (Walk r o)) None) None)))

-- The frame `line` was read over the lent bytes `d`, which leaves `e`; `r` is the answer.
pub record FrameRead (line d e : List ℕ) (r : Option Frame) : Type 0 where
  -- 2,050 lent bytes are enough for any frame
  pub means : 2050 ≤ length d → frame_is e r ≡ read_frame line
  -- whatever is lent: the answer, and every byte
  pub answer : r ≡ answer_is (read_within (length d) line)
  pub bytes : e ≡ sets d 0 (behind_kind (read_within (length d) line))
  -- what the answer speaks of is there
  pub inside : size_of r ≤ length e
  pub kept : length e ≡ length d
