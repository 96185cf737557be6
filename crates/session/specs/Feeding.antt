-- The session that the lent memory holds between two pieces of input, and what feeding a piece comes to.
use Rattle.std.specs.Prelude.{Option, Some, None}
use Rattle.std.specs.Prelude.{◌≡◌, List, [], ◌∷◌, ◌++◌, Bool, true, false, cond, ◌&&◌, eqb, leb, ltb, length, take, drop, ℕ, suc}
use Rattle.listing_rules.specs.Frames.{Session, Fed as Meant, refusal_line, read_frame, start, fed_all, at_end}
use Rattle.frames.specs.declared.gathering.Gathered.{Gathered}
use Rattle.frames.specs.Gathering.{Holds as HoldsFrame, gathered_none, gathered_is, gathered_line, none_yet}
use Rattle.kept_table.specs.declared.Lengths.{Lengths}
use Rattle.session.specs.declared.State.{State}
use Rattle.session.specs.declared.Taken.{Taken as Took}
use Rattle.session.specs.declared.gathering.Run.{Run}
use Rattle.kept_table.specs.Kept.{Lent, kept_in, reach, Says}
use Rattle.session.specs.Carrying.{numbers_framed}

-- nothing stored and no frame begun
abbrev pub start_is : State
start_is = record { stored = record { table = 0; namespaces = 0; edited = false }; gathered = gathered_none }

-- no more characters are gathered than a frame may have
abbrev pub len_within : Option ℕ → Bool
len_within None = true
len_within (Some n) = leb n 4102

-- The memory is lent in document 01's sizes, and the state lies within them: stored bytes 16,384 and 1,024, digits 4,102; a line
-- of output has at most 2 digits for each of 1 + 16,384 bytes and a line feed. There are numbers for 512 records and their summary.
abbrev pub ready : ℕ → ℕ → ℕ → ℕ → ℕ → State → Bool
ready table records namespaces line out st =
    leb 16384 table
    && (leb 1024 records
    && (leb 1024 namespaces
    && (leb 4102 line
    && (leb 32771 out
    && (leb st.stored.table 16384
    && (leb st.stored.namespaces 1024 && len_within st.gathered.len))))))

abbrev pub ready_in : Lent → List ℕ → State → Bool
ready_in d line st = ready (length d.table) (length d.records) (length d.namespaces) (length line) (length d.out) st

-- The memory holds the session s: what it has stored at the front of the areas, and the characters of its frame so far in the line.
-- At the start any memory holds `start`, and a ready memory holds some session always (law holds_some).
pub record Holds (d : Lent) (line : List ℕ) (st : State) (s : Session) : Type 0 where
  pub table : kept_in d st.stored ≡ s.stored.table
  pub namespaces : take st.stored.namespaces d.namespaces ≡ s.stored.namespaces
  pub frame : HoldsFrame line st.gathered s.partial

-- What `State::start` promises: nothing is stored and no frame begun, and so any memory holds document 01's session at its start.
pub record Starts (r : State) : Type 0 where
  pub is : r ≡ start_is
  pub holds : (d : Lent) (line : List ℕ) → Holds d line r start

-- how many bytes of a piece are taken at a time: those through the first line feed, or all
unfoldable pub through_line : List ℕ → ℕ
through_line [] = 0
through_line (c ∷ t) = let r = through_line t in cond (eqb c 10) 1 (suc r)

-- the characters before the first line feed
unfoldable pub before_line : List ℕ → List ℕ
before_line [] = []
before_line (c ∷ t) = let r = before_line t in cond (eqb c 10) [] (c ∷ r)

-- there is a line feed: not every character stands before it
abbrev pub has_line : List ℕ → Bool
has_line chunk = ltb (length (before_line chunk)) (length chunk)

-- what is gathered of a frame with some characters more, in a line of so many bytes
unfoldable pub gathered_all : ℕ → Gathered → List ℕ → Gathered
gathered_all room g [] = g
gathered_all room g (c ∷ t) = gathered_all room (gathered_is room g) t

-- the line's bytes then: the characters after the others as far as they are kept, and no other byte changes
unfoldable pub line_after : List ℕ → Gathered → List ℕ → List ℕ
line_after d g [] = d
line_after d g (c ∷ t) = line_after (gathered_line d g c) (gathered_is (length d) g) t

-- The characters of a piece before its first line feed were gathered in the line that was `d` and is `e`.
pub record Runs (chunk d e : List ℕ) (g : Gathered) (r : Run) : Type 0 where
  pub used : r.used ≡ length (before_line chunk)
  pub gathered : r.gathered ≡ gathered_all (length d) g (before_line chunk)
  pub line : e ≡ line_after d g (before_line chunk)

-- what the session's bytes came to is what the memory came to: it holds the session after them, and says their output
pub record Comes (f : Meant) (d e : Lent) (line : List ℕ) (r : Took) : Type 0 where
  pub holds : Holds e line r.state f.session
  pub says : Says f.output d.out e.out r.written

-- Every bit of the numbers after the bytes of a piece through its first line feed, at which the frame is carried out.
unfoldable pub numbers_fed : Session → List ℕ → List ℕ → List ℕ
numbers_fed s chunk numbers = cond (has_line chunk) (numbers_framed s.stored (read_frame (s.partial ++ before_line chunk)) numbers) numbers

-- The bytes of a piece through its first line feed were fed to the memory that was `d` and `line`, and is `e` and `line'`.
pub record Feeds (chunk : List ℕ) (d e : Lent) (line line' : List ℕ) (st : State) (r : Took) : Type 0 where
  pub used : r.used ≡ through_line chunk
  -- whatever session the memory held, it came to what document 01 says of these bytes
  pub comes : (s : Session) → Holds d line st s → Comes (fed_all s (take (through_line chunk) chunk)) d e line' r
  -- and every bit of the numbers is what the definition says
  pub numbers : (s : Session) → Holds d line st s → e.records ≡ numbers_fed s chunk d.records
  -- bytes after what is stored stay, and so do the numbers after the summary, and every number where no records are kept; every byte of the
  -- line, and what is gathered in it, are given by a definition
  pub table_behind : drop (reach r.state.stored) e.table ≡ drop (reach r.state.stored) d.table
  pub records_behind : drop 1024 e.records ≡ drop 1024 d.records
  pub records_stay : r.state.stored.edited ≡ false → e.records ≡ d.records
  pub namespaces_behind : drop r.state.stored.namespaces e.namespaces ≡ drop r.state.stored.namespaces d.namespaces
  pub line_bytes : line' ≡ line_after line st.gathered (before_line chunk)
  pub gathered : r.state.gathered ≡ cond (has_line chunk) gathered_none (gathered_all (length line) st.gathered (before_line chunk))
  -- so the next piece is never refused
  pub ready_on : ready_in d line r.state ≡ true

-- the answer of a piece that was taken
abbrev pub taken_is : Lengths → Gathered → ℕ → ℕ → Option Took
taken_is stored g used written = Some (record { state = record { stored = stored; gathered = g }; used = used; written = written })

-- What `feed` promises: it is refused exactly if the memory and the state are not ready, and then every byte stays.
abbrev pub FeedIs : List ℕ → Lent → Lent → List ℕ → List ℕ → State → Option Took → Type 0
FeedIs chunk d e line line' st (Some r) = (ready_in d line st ≡ true) × Feeds chunk d e line line' st r
FeedIs chunk d e line line' st None = (ready_in d line st ≡ false) × (e ≡ d) × (line' ≡ line)

-- What `finish` promises: whatever session the memory held, the end of the input says what document 01 has it say. Whatever the
-- state is, it decides: 13 is said unless nothing was gathered.
pub record Finishes (o p : List ℕ) (st : State) (r : ℕ) : Type 0 where
  pub says : (d : Lent) (line : List ℕ) (s : Session) → Holds d line st s → Says (at_end s) o p r
  pub answer : Says (cond (none_yet st.gathered.len) [] (refusal_line 13)) o p r
