-- Document 02, W2: the part that is fed bytes from a slow line and hands over whole commands; and check 3 over what it hands over.
use Rattle.std.specs.Prelude.{List, [], ◌∷◌, ◌++◌, Bool, true, false, cond, ◌&&◌, ◌||◌, not, eqb, leb, length, ℕ, suc, ◌-◌}
use Rattle.std.proofs.Math.Option.{Option, none, some}
use Rattle.listing_rules.specs.Bytes.{text, crlf, same, is_empty, brace, CR, LF}
use Rattle.listing_rules.specs.Tokens.{◌>>=◌, number, line_byte}

-- the line ends in CR LF
unfoldable pub ends_line : List ℕ → Bool
ends_line [] = false
ends_line (b ∷ t) = same (b ∷ t) crlf || ends_line t

-- the last byte is b
unfoldable pub last_is : ℕ → List ℕ → Bool
last_is b [] = false
last_is b (c ∷ t) = cond (is_empty t) (eqb c b) (last_is b t)

-- "Any line that ends, outside literals, in `{`, one or more digits and `}`" announces a literal of that number of bytes. t stands
-- behind the "{".
unfoldable pub announced_at : List ℕ → Option ℕ
announced_at t = number t >>= λ n. cond (same n.rest (text "}" ++ crlf)) (some n.val) none

unfoldable pub or_else : Option ℕ → Option ℕ → Option ℕ
or_else (some n) o = some n
or_else none o = o

unfoldable pub announced : List ℕ → Option ℕ
announced [] = none
announced (b ∷ t) = let later = announced t in cond (eqb b brace) (or_else (announced_at t) later) later

-- What comes of a byte: nothing yet; a whole command; "the continuation line `+ go` CR LF"; a refusal.
pub data Event : Type 0 where
  quiet : Event
  handed : List ℕ → Event
  go_on : Event
  denied : ℕ → Event

unfoldable pub go_on_line : List ℕ
go_on_line = text "+ go" ++ crlf

-- The part between two bytes: the command's bytes so far, and of these the line outside literals that has not ended; or the bytes so
-- far, and how many of a literal are to come; or bytes are dropped, and whether the last one was CR.
pub data Feeder : Type 0 where
  reading : List ℕ → List ℕ → Feeder
  in_literal : List ℕ → ℕ → Feeder
  dropping : Bool → Feeder

unfoldable pub first : Feeder
first = reading [] []

-- what a byte leaves, and what comes of it
pub record AfterByte : Type 0 where
  pub state : Feeder
  pub event : Event

unfoldable pub gives : Feeder → Event → AfterByte
gives s e = record { state = s; event = e }

-- "bytes are dropped through the next CR LF"
unfoldable pub dropped : Bool → ℕ → Feeder
dropped cr c = cond (cr && eqb c LF) first (dropping (eqb c CR))

-- "a byte 00 anywhere, or a command over 2,048 bytes in all is refused with 3"
unfoldable pub offends : List ℕ → ℕ → Bool
offends kept c = not (leb (suc (length kept)) 2048) || eqb c 0

-- "dropping counts the offending byte and a CR just before it"
unfoldable pub refusing : List ℕ → ℕ → AfterByte
refusing kept c = gives (dropped (last_is CR kept) c) (denied 3)

-- n bytes of a literal are to come
unfoldable pub awaiting : List ℕ → ℕ → Feeder
awaiting kept n = cond (eqb n 0) (reading kept []) (in_literal kept n)

-- A line outside literals has ended. "`{n}` CR LF with n up to 1,024 asks for the continuation line"; "A larger n .. is refused with 3";
-- "after a larger n the command ends at that line".
unfoldable pub line_ended : List ℕ → Option ℕ → AfterByte
line_ended kept none = gives first (handed kept)
line_ended kept (some n) = cond (leb n 1024) (gives (awaiting kept n) go_on) (gives first (denied 3))

unfoldable pub text_byte : List ℕ → List ℕ → AfterByte
text_byte kept line = cond (ends_line line) (line_ended kept (announced line)) (gives (reading kept line) quiet)

-- One byte. "Where two causes meet, the earlier byte decides, and at one byte the length of the command comes before n".
unfoldable pub fed_byte : Feeder → ℕ → AfterByte
fed_byte (reading kept line) c = cond (offends kept c) (refusing kept c) (text_byte (kept ++ (c ∷ [])) (line ++ (c ∷ [])))
fed_byte (in_literal kept n) c = cond (offends kept c) (refusing kept c) (gives (awaiting (kept ++ (c ∷ [])) (n - 1)) quiet)
fed_byte (dropping cr) c = gives (dropped cr c) quiet

-- A chunk of bytes: what it leaves, and the commands, continuations and refusals that come of it, in order.
pub record Feeding : Type 0 where
  pub state : Feeder
  pub events : List Event

unfoldable pub saying : Event → Feeding → Feeding
saying quiet f = f
saying (handed l) f = record { state = f.state; events = handed l ∷ f.events }
saying go_on f = record { state = f.state; events = go_on ∷ f.events }
saying (denied k) f = record { state = f.state; events = denied k ∷ f.events }

unfoldable pub feed_all : Feeder → List ℕ → Feeding
feed_all s [] = record { state = s; events = [] }
feed_all s (c ∷ t) = let r = fed_byte s c in saying r.event (feed_all r.state t)

-- chunks one after the other
unfoldable pub feed_chunks : Feeder → List (List ℕ) → Feeding
feed_chunks s [] = record { state = s; events = [] }
feed_chunks s (x ∷ xs) =
    let f = feed_all s x in
    let g = feed_chunks f.state xs in
    record { state = g.state; events = f.events ++ g.events }

-- "Check 3 of document 01 now reads over the text outside literals": there only bytes 01 to 7F stand, CR and LF only as the end of a line
unfoldable pub allowed : Feeder → ℕ → Bool
allowed (reading kept line) c = cond (last_is CR line) (eqb c LF) (line_byte c || eqb c CR)
allowed (in_literal kept n) c = true
allowed (dropping cr) c = true

-- whether a line is still one command: it goes on, or it is handed over at its last byte
unfoldable pub still_one : Event → Bool → Bool → Bool
still_one quiet last more = more
still_one go_on last more = more
still_one (handed l) last more = last
still_one (denied k) last more = false

-- The line is one whole command and nothing else; "a literal cut short is 3 too", and so is all that the feeder refuses.
unfoldable pub one_command : Feeder → List ℕ → Bool
one_command s [] = false
one_command s (c ∷ t) = let r = fed_byte s c in allowed s c && still_one r.event (is_empty t) (one_command r.state t)
