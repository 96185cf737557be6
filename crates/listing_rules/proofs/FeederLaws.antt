-- The feeder: how its bytes are cut into chunks does not matter; and a line that announces no literal has document 01's shape. Rests on TokenLaws
-- and ListLaws.
use Rattle.listing_rules.proofs.Prelude.{◌∙◌, ◌≡◌, ap, ap₂, refl, sym, Bool, ◌&&◌, ◌||◌, cond, false, false≢true, not, or-false, true, Option}
use Rattle.listing_rules.proofs.Prelude.{option_none_ne_some, none, some, List, [], ◌++◌, ◌∷◌, append_assoc, append-nil, ◌+◌, ◌-◌, ◌≤◌, suc, ℕ}
use Rattle.listing_rules.proofs.Prelude.{arith, eqb, leb, length, length-append, take, take-append_seam, eq-eqb, eqb-false, eqb-true, le-leb, leb-true}
use Rattle.listing_rules.proofs.Prelude.{ne_eqb, not-true}
use Rattle.listing_rules.specs.Bytes.{crlf, same, all, within, is_empty}
use Rattle.listing_rules.proofs.Keys.{open_bytes, open_tokens}
use Rattle.listing_rules.specs.Lists.{joined}
use Rattle.listing_rules.specs.Tokens.{got, run₁, digit_byte, decimal, number, line_byte}
use Rattle.listing_rules.specs.Feeder.{AfterByte, still_one, gives, offends, refusing, line_ended, text_byte, ends_line, last_is, announced_at}
use Rattle.listing_rules.specs.Feeder.{or_else, announced, Event, quiet, handed, go_on, denied, Feeder, reading, first, fed_byte, Feeding, saying}
use Rattle.listing_rules.specs.Feeder.{feed_all, feed_chunks, allowed, one_command}
use Rattle.listing_rules.specs.Command.{line_text}
use Rattle.listing_rules.proofs.Bools.{and_l, and_r}
use Rattle.listing_rules.proofs.ListLaws.{empty_true, same_true}
use Rattle.listing_rules.proofs.TokenLaws.{bind_some, run₁_split}

-- what is said in two chunks, one after the other
abbrev pub then_fed : List Event → Feeding → Feeding
then_fed es f = record { state = f.state; events = es ++ f.events }

said : (e : Event) (f : Feeding) (es : List Event) (s : Feeder) → saying e (then_fed es f) ≡ then_fed (saying e (record { state = s; events = es })).events f
unfolding saying
said quiet f es s = refl
said (handed l) f es s = refl
said go_on f es s = refl
said (denied k) f es s = refl

said_state : (e : Event) (f : Feeding) → (saying e f).state ≡ f.state
unfolding saying
said_state quiet f = refl
said_state (handed l) f = refl
said_state go_on f = refl
said_state (denied k) f = refl

-- the chunks a and b, one after the other
pub feed_append : (s : Feeder) (a b : List ℕ) → feed_all s (a ++ b) ≡ then_fed (feed_all s a).events (feed_all (feed_all s a).state b)
unfolding feed_all
feed_append s [] b = refl
feed_append s (c ∷ a) b =
    let r = fed_byte s c in
    let g = feed_all r.state a in
    ap (saying r.event) (feed_append r.state a b)
    ∙ said r.event (feed_all g.state b) g.events g.state
    ∙ ap (λ (x : Feeder). then_fed (saying r.event g).events (feed_all x b)) (sym (said_state r.event g))

-- "From the first state, however the bytes are cut, commands, refusals, continuations and the state at the end are the same": and from
-- any other state.
pub cut_anywhere : (s : Feeder) (chunks : List (List ℕ)) → feed_chunks s chunks ≡ feed_all s (joined chunks)
unfolding feed_chunks feed_all joined
cut_anywhere s [] = refl
cut_anywhere s (x ∷ xs) =
    ap (then_fed (feed_all s x).events) (cut_anywhere (feed_all s x).state xs)
    ∙ sym (feed_append s x (joined xs))

-- the last byte, and the last two
pub last_snoc : (b : ℕ) (l : List ℕ) (c : ℕ) → last_is b (l ++ (c ∷ [])) ≡ eqb c b
unfolding last_is is_empty
last_snoc b [] c = refl
last_snoc b (x ∷ []) c = refl
last_snoc b (x ∷ y ∷ l) c = last_snoc b (y ∷ l) c

pub ends_snoc : (l : List ℕ) (c : ℕ) → ends_line (l ++ (c ∷ [])) ≡ (last_is 13 l && eqb c 10)
unfolding ends_line last_is is_empty same crlf
ends_snoc [] c = or-false _ ∙ no_pair_lem (eqb c 13)
  where
    no_pair_lem : (b : Bool) → (b && false) ≡ false
    no_pair_lem true = refl
    no_pair_lem false = refl
ends_snoc (x ∷ []) c = pair (eqb x 13) (eqb c 10) (eqb c 13)
  where
    pair : (a b d : Bool) → ((a && (b && true)) || ((d && false) || false)) ≡ (a && b)
    pair true true d = refl
    pair true false true = refl
    pair true false false = refl
    pair false b true = refl
    pair false b false = refl
ends_snoc (x ∷ y ∷ l) c =
    ap (λ (o : Bool). (eqb x 13 && (eqb y 10 && same (l ++ (c ∷ [])) [])) || o) (ends_snoc (y ∷ l) c)
    ∙ ap (λ (o : Bool). (eqb x 13 && (eqb y 10 && o)) || (last_is 13 (y ∷ l) && eqb c 10)) (more l)
    ∙ none_here (eqb x 13) (eqb y 10) (last_is 13 (y ∷ l) && eqb c 10)
  where
    more : (m : List ℕ) → same (m ++ (c ∷ [])) [] ≡ false
    more [] = refl
    more (z ∷ m) = refl

    none_here : (a b d : Bool) → ((a && (b && false)) || d) ≡ d
    none_here true true d = refl
    none_here true false d = refl
    none_here false b d = refl

-- bytes of a line of text are no CR, LF or 00
line_byte_parts : (b : ℕ) → line_byte b ≡ true → (eqb b 13 ≡ false) × (eqb b 10 ≡ false) × (eqb b 0 ≡ false)
unfolding line_byte within
line_byte_parts b h =
    let no13 = not-true (eqb b 13) (and_r (leb 1 b && leb b 0x7F) (not (eqb b 13)) (and_l ((leb 1 b && leb b 0x7F) && not (eqb b 13)) (not (eqb b 10)) h)) in
    let no10 = not-true (eqb b 10) (and_r ((leb 1 b && leb b 0x7F) && not (eqb b 13)) (not (eqb b 10)) h) in
    let low = leb-true 1 b (and_l (leb 1 b) (leb b 0x7F) (and_l (leb 1 b && leb b 0x7F) (not (eqb b 13)) (and_l ((leb 1 b && leb b 0x7F) && not (eqb b 13)) (not (eqb b 10)) h))) in
    (no13, no10, ne_eqb b 0 (λ e. omega (arith, low)))

-- a byte of text that ends no line, and one that ends the last
text_goes_on : (kept line : List ℕ) (c : ℕ) (t : List ℕ) → allowed (reading kept line) c ≡ true → offends kept c ≡ false
    → ends_line (line ++ (c ∷ [])) ≡ false → one_command (reading kept line) (c ∷ t) ≡ one_command (reading (kept ++ (c ∷ [])) (line ++ (c ∷ []))) t
unfolding one_command still_one gives
text_goes_on kept line c t a o e =
    ap (λ (r : AfterByte). allowed (reading kept line) c && still_one r.event (is_empty t) (one_command r.state t)) quiet_step ∙ rw a
  where
    quiet_step : fed_byte (reading kept line) c ≡ gives (reading (kept ++ (c ∷ [])) (line ++ (c ∷ []))) quiet
    quiet_step = unfold fed_byte text_byte in rw (o, e)

-- whether it is still one command after a byte, with t to come
abbrev pub still_after : AfterByte → List ℕ → Bool
still_after r t = still_one r.event (is_empty t) (one_command r.state t)

text_ends : (kept line : List ℕ) (c : ℕ) (t : List ℕ) → allowed (reading kept line) c ≡ true → offends kept c ≡ false
    → ends_line (line ++ (c ∷ [])) ≡ true
    → one_command (reading kept line) (c ∷ t) ≡ still_after (line_ended (kept ++ (c ∷ [])) (announced (line ++ (c ∷ [])))) t
unfolding one_command
text_ends kept line c t a o e = ap (λ (r : AfterByte). allowed (reading kept line) c && still_after r t) last_step ∙ rw a
  where
    last_step : fed_byte (reading kept line) c ≡ line_ended (kept ++ (c ∷ [])) (announced (line ++ (c ∷ [])))
    last_step = unfold fed_byte text_byte in rw (o, e)

pub within_room : (kept : List ℕ) (c : ℕ) → suc (length kept) ≤ 2048 → eqb c 0 ≡ false → offends kept c ≡ false
unfolding offends
within_room kept c h e = rw (le-leb (suc (length kept)) 2048 h, e)

-- text adds to the line
pub text_runs : (u kept line t : List ℕ) → all line_byte u ≡ true → last_is 13 line ≡ false → length kept + length u ≤ 2048
    → (last_is 13 (line ++ u) ≡ false) × (one_command (reading kept line) (u ++ t) ≡ one_command (reading (kept ++ u) (line ++ u)) t)
unfolding all allowed
text_runs [] kept line t h n s =
    (ap (last_is 13) (append-nil line) ∙ n, ap₂ (λ (k l : List ℕ). one_command (reading k l) t) (sym (append-nil kept)) (sym (append-nil line)))
text_runs (c ∷ u) kept line t h n s =
    let w = text_runs u (kept ++ (c ∷ [])) (line ++ (c ∷ [])) t (and_r (line_byte c) (all line_byte u) h) (last_snoc 13 line c ∙ p.0) room in (
      ap (last_is 13) (sym (append_assoc line (c ∷ []) u)) ∙ w.0,
      step ∙ w.1 ∙ ap₂ (λ (k l : List ℕ). one_command (reading k l) t) (append_assoc kept (c ∷ []) u) (append_assoc line (c ∷ []) u),
    )
  where
    this : line_byte c ≡ true
    this = and_l (line_byte c) (all line_byte u) h

    p : (eqb c 13 ≡ false) × (eqb c 10 ≡ false) × (eqb c 0 ≡ false)
    p = line_byte_parts c this

    room : length (kept ++ (c ∷ [])) + length u ≤ 2048
    room = omega (arith, length-append kept (c ∷ []))

    step : one_command (reading kept line) (c ∷ (u ++ t)) ≡ one_command (reading (kept ++ (c ∷ [])) (line ++ (c ∷ []))) (u ++ t)
    step =
        text_goes_on kept line c (u ++ t) (rw (n, this)) (within_room kept c (omega arith) p.2)
        (ends_snoc line c ∙ ap (λ (o : Bool). o && eqb c 10) n)

-- CR LF ends it
pub crlf_ends : (kept line t : List ℕ) → last_is 13 line ≡ false → length kept + 2 ≤ 2048
    → one_command (reading kept line) (crlf ++ t) ≡ still_after (line_ended (kept ++ crlf) (announced (line ++ crlf))) t
unfolding crlf allowed line_byte within
crlf_ends kept line t n s =
    text_goes_on kept line 13 (10 ∷ t) (rw n) (within_room kept 13 (omega arith) refl) (ends_snoc line 13 ∙ ap (λ (o : Bool). o && false) n)
    ∙ text_ends (kept ++ (13 ∷ [])) (line ++ (13 ∷ [])) 10 t (rw (last_snoc 13 line 13))
    (within_room (kept ++ (13 ∷ [])) 10 (omega (arith, length-append kept (13 ∷ []))) refl)
    (ends_snoc (line ++ (13 ∷ [])) 10 ∙ ap (λ (o : Bool). o && true) (last_snoc 13 line 13))
    ∙ ap₂ (λ (k l : List ℕ). still_after (line_ended k (announced l)) t) (append_assoc kept (13 ∷ []) (10 ∷ [])) (append_assoc line (13 ∷ []) (10 ∷ []))

-- text, then CR LF, where nothing is announced
pub run_out : (kept line x : List ℕ) → all line_byte x ≡ true → last_is 13 line ≡ false → length kept + length x + 2 ≤ 2048
    → announced ((line ++ x) ++ crlf) ≡ none → one_command (reading kept line) (x ++ crlf) ≡ true
unfolding crlf line_ended gives still_one is_empty
run_out kept line x h n s a =
    let w = text_runs x kept line crlf h n (omega arith) in
    w.1 ∙ crlf_ends (kept ++ x) (line ++ x) [] w.0 (omega (arith, length-append kept x)) ∙ rw a

-- A line that announces no literal has document 01's shape: at most 2,048 bytes, CR LF at its end, and before that only such bytes.
pub plain_line : (x : List ℕ) → all line_byte x ≡ true → length (x ++ crlf) ≤ 2048 → announced (x ++ crlf) ≡ none → line_text (x ++ crlf) ≡ some x
unfolding line_text first last_is crlf
plain_line x h s a =
    let n : length (x ++ crlf) - 2 ≡ length x = omega (arith, length-append x crlf) in
    rw (run_out [] [] x h refl (omega (arith, length-append x crlf)) a, n) (ap some (take-append_seam x crlf))

-- a continuation is asked for
abbrev pub asks : List Event → Bool
asks [] = false
asks (quiet ∷ es) = asks es
asks (handed l ∷ es) = asks es
asks (go_on ∷ es) = true
asks (denied k ∷ es) = asks es

-- Document 01's shape of the line l: its text, CR LF, and no more than 2,048 bytes; x of its bytes are read.
abbrev Shaped : List ℕ → List ℕ → Type 0
Shaped x t = (y : List ℕ) × (t ≡ y ++ crlf) × (all line_byte (x ++ y) ≡ true) × (length x + length t ≤ 2048)

last_of_text : (x : List ℕ) → all line_byte x ≡ true → last_is 13 x ≡ false
unfolding last_is is_empty all
last_of_text [] h = refl
last_of_text (c ∷ []) h = (line_byte_parts c (and_l (line_byte c) true h)).0
last_of_text (c ∷ d ∷ x) h = last_of_text (d ∷ x) (and_r (line_byte c) (all line_byte (d ∷ x)) h)

all_snoc : (x : List ℕ) (c : ℕ) → all line_byte x ≡ true → line_byte c ≡ true → all line_byte (x ++ (c ∷ [])) ≡ true
unfolding all
all_snoc [] c h e = rw e
all_snoc (b ∷ x) c h e = rw (and_l (line_byte b) (all line_byte x) h, all_snoc x c (and_r (line_byte b) (all line_byte x) h) e)

-- what a line that is still one command owes at its next byte: the byte is allowed, and the feeder does not refuse it
next_parts : (kept line : List ℕ) (c : ℕ) (t : List ℕ) → one_command (reading kept line) (c ∷ t) ≡ true → (allowed (reading kept line) c ≡ true) × (offends kept c ≡ false)
unfolding one_command still_one
next_parts kept line c t e = (and_l (allowed (reading kept line) c) (more (fed_byte (reading kept line) c)) e, go (offends kept c) refl)
  where
    more : AfterByte → Bool
    more r = still_one r.event (is_empty t) (one_command r.state t)

    denies : offends kept c ≡ true → (fed_byte (reading kept line) c).event ≡ denied 3
    denies o = unfold fed_byte refusing gives in rw o

    go : (o : Bool) → offends kept c ≡ o → o ≡ false
    go false o = refl
    go true o = absurd (false≢true (sym (ap (λ (v : Event). still_one v (is_empty t) (one_command (fed_byte (reading kept line) c).state t)) (denies o))
        ∙ and_r (allowed (reading kept line) c) (more (fed_byte (reading kept line) c)) e))

room_left : (kept : List ℕ) (c : ℕ) → offends kept c ≡ false → suc (length kept) ≤ 2048
unfolding offends
room_left kept c o = leb-true (suc (length kept)) 2048 (go (leb (suc (length kept)) 2048) (eqb c 0) o)
  where
    go : (a b : Bool) → (not a || b) ≡ false → a ≡ true
    go true b e = refl
    go false b e = absurd (false≢true (sym e))

-- a byte of text that ends no line leaves the line read, and nothing is said
quiet_step : (kept line : List ℕ) (c : ℕ) → offends kept c ≡ false → ends_line (line ++ (c ∷ [])) ≡ false → fed_byte (reading kept line) c ≡ gives (reading (kept ++ (c ∷ [])) (line ++ (c ∷ []))) quiet
unfolding fed_byte text_byte
quiet_step kept line c o e = rw (o, e)

quiet_on : (kept line : List ℕ) (c : ℕ) (t : List ℕ) → offends kept c ≡ false → ends_line (line ++ (c ∷ [])) ≡ false
    → feed_all (reading kept line) (c ∷ t) ≡ feed_all (reading (kept ++ (c ∷ [])) (line ++ (c ∷ []))) t
unfolding feed_all gives saying
quiet_on kept line c t o e = ap (λ (r : AfterByte). saying r.event (feed_all r.state t)) (quiet_step kept line c o e)

-- after CR only the LF of the last line is left
after_cr : (x t : List ℕ) → one_command (reading (x ++ (13 ∷ [])) (x ++ (13 ∷ []))) t ≡ true
    → asks (feed_all (reading (x ++ (13 ∷ [])) (x ++ (13 ∷ []))) t).events ≡ false → (t ≡ 10 ∷ []) × (length x + 1 + length t ≤ 2048)
after_cr x [] e a = absurd (false≢true (unfold one_command in e))
after_cr x (c ∷ t) e a = go (announced (kept ++ (c ∷ []))) refl
  where
    kept : List ℕ
    kept = x ++ (13 ∷ [])

    parts : (allowed (reading kept kept) c ≡ true) × (offends kept c ≡ false)
    parts = next_parts kept kept c t e

    is_lf : c ≡ 10
    is_lf = eqb-true c 10 (sym (ap (λ (b : Bool). cond b (eqb c 10) (line_byte c || eqb c 13)) (last_snoc 13 x 13)) ∙ (unfold allowed in parts.0))

    ends : ends_line (kept ++ (c ∷ [])) ≡ true
    ends = ends_snoc kept c ∙ ap (λ (b : Bool). b && eqb c 10) (last_snoc 13 x 13) ∙ eq-eqb c 10 is_lf

    ended : fed_byte (reading kept kept) c ≡ line_ended (kept ++ (c ∷ [])) (announced (kept ++ (c ∷ [])))
    ended = unfold fed_byte text_byte in rw (parts.1, ends)

    still : still_one (fed_byte (reading kept kept) c).event (is_empty t) (one_command (fed_byte (reading kept kept) c).state t) ≡ true
    still = and_r (allowed (reading kept kept) c) (still_one (fed_byte (reading kept kept) c).event (is_empty t) (one_command (fed_byte (reading kept kept) c).state t)) (unfold one_command in e)

    last : still_one (line_ended (kept ++ (c ∷ [])) (announced (kept ++ (c ∷ [])))).event (is_empty t) (one_command (line_ended (kept ++ (c ∷ [])) (announced (kept ++ (c ∷ [])))).state t) ≡ true
    last = sym (ap (λ (r : AfterByte). still_one r.event (is_empty t) (one_command r.state t)) ended) ∙ still

    told : asks (saying (line_ended (kept ++ (c ∷ [])) (announced (kept ++ (c ∷ [])))).event (feed_all (line_ended (kept ++ (c ∷ [])) (announced (kept ++ (c ∷ [])))).state t)).events ≡ false
    told = sym (ap (λ (r : AfterByte). asks (saying r.event (feed_all r.state t)).events) ended) ∙ (unfold feed_all in a)

    size : length kept ≡ length x + 1
    size = length-append x (13 ∷ [])

    done : is_empty t ≡ true → (c ∷ t ≡ 10 ∷ []) × (length x + 1 + length (c ∷ t) ≤ 2048)
    done n = rw (is_lf, empty_true t n) (refl, omega (arith, room_left kept c parts.1, size))

    go : (o : Option ℕ) → announced (kept ++ (c ∷ [])) ≡ o → (c ∷ t ≡ 10 ∷ []) × (length x + 1 + length (c ∷ t) ≤ 2048)
    go none o = done (unfold line_ended gives still_one in rw o at last)
    go (some n) o = absurd (large (leb n 1024) refl)
      where
        large : (b : Bool) → leb n 1024 ≡ b → ⊥
        large true b = false≢true (sym (unfold line_ended gives saying in rw (o, b) at told))
        large false b = false≢true (unfold line_ended gives still_one in rw (o, b) at last)

shaped_from : (x t : List ℕ) → all line_byte x ≡ true → one_command (reading x x) t ≡ true → asks (feed_all (reading x x) t).events ≡ false → Shaped x t
shaped_from x [] h e a = absurd (false≢true (unfold one_command in e))
shaped_from x (c ∷ t) h e a = go (shaped_from (x ++ (c ∷ [])) t) (eqb c 13) refl
  where
    parts : (allowed (reading x x) c ≡ true) × (offends x c ≡ false)
    parts = next_parts x x c t e

    open_line : ends_line (x ++ (c ∷ [])) ≡ false
    open_line = ends_snoc x c ∙ ap (λ (b : Bool). b && eqb c 10) (last_of_text x h)

    on : one_command (reading (x ++ (c ∷ [])) (x ++ (c ∷ []))) t ≡ true
    on = sym (text_goes_on x x c t parts.0 parts.1 open_line) ∙ e

    said_on : asks (feed_all (reading (x ++ (c ∷ [])) (x ++ (c ∷ []))) t).events ≡ false
    said_on = sym (ap (λ (f : Feeding). asks f.events) (quiet_on x x c t parts.1 open_line)) ∙ a

    of_line_lem : eqb c 13 ≡ false → line_byte c ≡ true
    of_line_lem n = sym (or-false (line_byte c)) ∙ sym (ap (λ (b : Bool). line_byte c || b) n)
        ∙ sym (ap (λ (b : Bool). cond b (eqb c 10) (line_byte c || eqb c 13)) (last_of_text x h)) ∙ (unfold allowed in parts.0)

    size : length (x ++ (c ∷ [])) ≡ length x + 1
    size = length-append x (c ∷ [])

    go : (all line_byte (x ++ (c ∷ [])) ≡ true → one_command (reading (x ++ (c ∷ [])) (x ++ (c ∷ []))) t ≡ true
        → asks (feed_all (reading (x ++ (c ∷ [])) (x ++ (c ∷ []))) t).events ≡ false → Shaped (x ++ (c ∷ [])) t) → (b : Bool)
        → eqb c 13 ≡ b → Shaped x (c ∷ t)
    go rest true b =
        let cr = eqb-true c 13 b in
        let w = after_cr x t (rw cr at on) (rw cr at said_on) in
        ([], (unfold crlf in rw (cr, w.0)), rw append-nil h, omega (arith, w.1))
    go rest false b =
        let w = rest (all_snoc x c h (of_line_lem b)) on said_on in
        (c ∷ w.0, ap (λ (l : List ℕ). c ∷ l) w.1, sym (ap (all line_byte) (append_assoc x (c ∷ []) w.0)) ∙ w.2, omega (arith, w.3, size))

-- The converse of `plain-line`: a line that is accepted and for which no continuation is asked has document 01's shape.
pub plain_shape : (l t : List ℕ) → line_text l ≡ some t → asks (feed_all first l).events ≡ false → (l ≡ t ++ crlf) × (all line_byte t ≡ true) × (length l ≤ 2048)
unfolding line_text first crlf
plain_shape l t e a = go (one_command (reading [] []) l) refl
  where
    go : (b : Bool) → one_command (reading [] []) l ≡ b → (l ≡ t ++ crlf) × (all line_byte t ≡ true) × (length l ≤ 2048)
    go false b = absurd (option_none_ne_some _ (rw b at e))
    go true b =
        let w = shaped_from [] l (unfold all in refl) b a in
        let n : length l - 2 ≡ length w.0 = omega (arith, ap length w.1, length-append w.0 crlf) in
        let is : w.0 ≡ t = sym (take-append_seam w.0 crlf) ∙ ap (take (length w.0)) (sym w.1) ∙ sym (ap (λ (k : ℕ). take k l) n) ∙ some_is (rw b at e) in
        (w.1 ∙ ap (λ (y : List ℕ). y ++ crlf) is, sym (ap (all line_byte) is) ∙ w.2, omega (arith, w.3))
      where
        some_is : {u v : List ℕ} → some u ≡ some v → u ≡ v
        some_is f = cc

-- a line whose last byte c before CR LF is not "}" announces none
module _ (c : ℕ) (other : eqb c 125 ≡ false) where
  clash : (v w : List ℕ) → v ++ (125 ∷ 13 ∷ 10 ∷ []) ≡ w ++ (c ∷ 13 ∷ 10 ∷ []) → ⊥
  clash [] [] e = eqb-false c 125 other (sym (ap first_of e))
    where
      first_of : List ℕ → ℕ
      first_of [] = 0
      first_of (z ∷ l) = z
  clash [] (y ∷ w) e = absurd (omega (arith, ap length e, length-append w (c ∷ 13 ∷ 10 ∷ [])))
  clash (x ∷ v) [] e = absurd (omega (arith, ap length e, length-append v (125 ∷ 13 ∷ 10 ∷ [])))
  clash (x ∷ v) (y ∷ w) e = clash v w (ap tail e)
    where
      tail : List ℕ → List ℕ
      tail [] = []
      tail (z ∷ l) = l

  not_at : (x : List ℕ) → announced_at (x ++ (c ∷ 13 ∷ 10 ∷ [])) ≡ none
  unfolding announced_at number got open_bytes
  not_at x = go (announced_at (x ++ (c ∷ 13 ∷ 10 ∷ []))) refl
    where
      go : (o : Option ℕ) → announced_at (x ++ (c ∷ 13 ∷ 10 ∷ [])) ≡ o → o ≡ none
      go none e = refl
      go (some k) e =
          let w = bind_some (number (x ++ (c ∷ 13 ∷ 10 ∷ []))) (λ n. cond (same n.rest (125 ∷ 13 ∷ 10 ∷ [])) (some n.val) none) k e in
          let v = bind_some (run₁ digit_byte (x ++ (c ∷ 13 ∷ 10 ∷ []))) (λ g. some (got (decimal 0 g.val) g.rest)) w.0 w.1 in
          let r : v.0.rest ≡ w.0.rest = cc in
          let y = yes w.0.val (same w.0.rest (125 ∷ 13 ∷ 10 ∷ [])) w.2 in
          let s : w.0.rest ≡ 125 ∷ 13 ∷ 10 ∷ [] = same_true w.0.rest (125 ∷ 13 ∷ 10 ∷ []) y in
          let split = run₁_split digit_byte (x ++ (c ∷ 13 ∷ 10 ∷ [])) v.0 v.1 in
          absurd (clash v.0.val x (sym (split ∙ ap (λ (l : List ℕ). v.0.val ++ l) (r ∙ s))))
        where
          yes : (m : ℕ) (b : Bool) → cond b (some m) none ≡ some k → b ≡ true
          yes m true f = refl
          yes m false f = absurd (option_none_ne_some _ f)

  none_at_the_end : announced_at crlf ≡ none
  unfolding open_bytes open_tokens announced_at
  none_at_the_end = refl

  pub other_announces_none : (x : List ℕ) → announced (x ++ (c ∷ crlf)) ≡ none
  unfolding announced or_else open_bytes
  other_announces_none [] = go (eqb c 123)
    where
      go : (o : Bool) → cond o (or_else (announced_at crlf) none) none ≡ none
      go false = refl
      go true = rw none_at_the_end
  other_announces_none (b ∷ x) = go (eqb b 123) (other_announces_none x)
    where
      go : (o : Bool) → announced (x ++ (c ∷ crlf)) ≡ none
          → cond o (or_else (announced_at (x ++ (c ∷ crlf))) (announced (x ++ (c ∷ crlf)))) (announced (x ++ (c ∷ crlf))) ≡ none
      go false e = e
      go true e = rw (not_at x, e)
