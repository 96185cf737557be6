-- Feeding a chunk: the code's way byte by byte is the feeder's. Rests on MachineLaws.
use Rattle.listing_rules.proofs.Prelude.{◌∙◌, ◌≡◌, ap, refl, sym, Bool, ◌&&◌, ◌||◌, cond, false, false≢true, not, true, Option, none, some, List, []}
use Rattle.listing_rules.proofs.Prelude.{◌++◌, ◌∷◌, ◌+◌, ◌-◌, ◌<◌, ◌^◌, ◌≤◌, min, suc, ℕ, add-zero, add-one, arith, eqb, leb, drop, drop_of_length-le}
use Rattle.listing_rules.proofs.Prelude.{get_or, length, length-append, length-set, set, take, drop-cons, take-suc-set, leb-true}
use Rattle.listing_rules.specs.Feeder.{Feeder, reading, in_literal, dropping, first, last_is, ends_line, announced, Event as Meant, quiet, handed, go_on}
use Rattle.listing_rules.specs.Feeder.{denied, AfterByte, gives, dropped, offends, refusing, awaiting, line_ended, text_byte, fed_byte, Feeding, saying}
use Rattle.listing_rules.specs.Feeder.{feed_all}
use Rattle.command_shape.specs.declared.machine.Machine.{Machine}
use Rattle.command_shape.specs.declared.machine.Stepped.{Stepped}
use Rattle.feeder.specs.declared.Event.{Event}
use Rattle.feeder.specs.declared.Event.TheVariants.{Quiet, Command, GoOn, Refused, TooSmall}
use Rattle.feeder.specs.declared.Fed.{Fed}
use Rattle.command_shape.specs.Machine.{offending, takes, step_is, machine_of, signal_of}
use Rattle.feeder.specs.Feed.{stored_is, event_is, next_place, answers, byte_is, FedByte, Outcome, outcome, is_quiet, feed_from, kept_of, Holds}
use Rattle.feeder.specs.Feed.{events_of, nothing, through_event}
use Rattle.command_shape.proofs.Steps.{step_is_lem, offending_is}

-- ---- the code, byte by byte

pub fed_byte_lem : (m : Machine) (d e : List ℕ) (c : ℕ) (s : Stepped) (ev : Event) (n : ℕ) → s ≡ step_is m c → e ≡ stored_is m d c →
    n ≡ min (m.size + 1) (2 ^ 64 - 1) → ev ≡ event_is s.signal n → FedByte m d e c (record { state = s.machine; used = 1; event = ev })
unfolding byte_is answers next_place
fed_byte_lem m d e c s ev n p q r k = record { answer = rw (k, r, p); bytes = q }

loud : (v : Event) → (v ≡ Quiet → ⊥) → is_quiet v ≡ false
unfolding is_quiet
loud Quiet p = absurd (p refl)
loud (Command n) p = refl
loud GoOn p = refl
loud (Refused k) p = refl
loud TooSmall p = refl

-- the byte at a place of the chunk, and what is left behind it
module _ (chunk : List ℕ) (i : ℕ) (m : Machine) (d e : List ℕ) (r : Fed) where
  pub feed_on : i < length chunk → FedByte m d e (get_or chunk i 0) r → r.event ≡ Quiet → feed_from i m d (drop i chunk) ≡ feed_from (i + 1) r.state e (drop (i + 1) chunk)
  unfolding feed_from is_quiet
  feed_on h f q = rw (drop-cons chunk i 0 h, f.bytes, sym f.answer, q, add-one)

  pub feed_stop : i < length chunk → FedByte m d e (get_or chunk i 0) r → (r.event ≡ Quiet → ⊥) → feed_from i m d (drop i chunk) ≡ outcome r.state (i + 1) r.event e
  unfolding feed_from
  feed_stop h f q = rw (drop-cons chunk i 0 h, f.bytes, sym f.answer, loud r.event q)

  pub feed_end : i ≡ length chunk → feed_from i m d (drop i chunk) ≡ outcome m (length chunk) Quiet d
  unfolding feed_from
  feed_end e = let h : length chunk ≤ i = omega arith in rw (drop_of_length-le chunk h) (ap (λ (n : ℕ). outcome m n Quiet d) e)

-- ---- one byte, in document 02's terms

pub size_is : (s : Feeder) → (machine_of s).size ≡ length (kept_of s)
unfolding machine_of kept_of
size_is (reading kept line) = refl
size_is (in_literal kept n) = refl
size_is (dropping cr) = refl

-- the memory holds these bytes at its front
abbrev Front : List ℕ → List ℕ → Type 0
Front d k = k ≡ take (length k) d

front_as : (d k l : List ℕ) → k ≡ l → Front d l → Front d k
front_as d k l e h = e ∙ h ∙ sym (ap (λ (x : List ℕ). take (length x) d) e)

front_more : (d kept : List ℕ) (c : ℕ) → Front d kept → length kept < length d → Front (set d (length kept) c) (kept ++ (c ∷ []))
front_more d kept c e h =
    let n : suc (length kept) ≡ length (kept ++ (c ∷ [])) = omega (arith, length-append kept (c ∷ [])) in
    ap (λ (x : List ℕ). x ++ (c ∷ [])) e ∙ sym (take-suc-set d (length kept) c h) ∙ ap (λ (k : ℕ). take k (set d (length kept) c)) n

-- the events of one byte
abbrev pub said_of : Meant → List Meant
said_of quiet = []
said_of (handed l) = handed l ∷ []
said_of go_on = go_on ∷ []
said_of (denied k) = denied k ∷ []

-- A step that leaves the memory d, as the command's byte of number n: the memory holds what is kept then, and the code's event is
-- the feeder's.
pub record Follows (d : List ℕ) (n : ℕ) (r : AfterByte) : Type 0 where
  pub front : Front d (kept_of r.state)
  pub bound : length (kept_of r.state) ≤ 2048
  pub event : events_of d (event_is (signal_of r.event) n) ≡ said_of r.event

-- nothing is kept
follows_none : (d : List ℕ) (n : ℕ) (s : Feeder) (v : Meant) → kept_of s ≡ [] → events_of d (event_is (signal_of v) n) ≡ said_of v → Follows d n (gives s v)
unfolding gives
follows_none d n s v e h = record { front = front_as d (kept_of s) [] e refl; bound = omega (arith, ap length e); event = h }

-- these bytes are kept
follows_kept : (d : List ℕ) (n : ℕ) (s : Feeder) (v : Meant) (k : List ℕ) → kept_of s ≡ k → Front d k → length k ≤ 2048 → events_of d (event_is (signal_of v) n) ≡ said_of v → Follows d n (gives s v)
unfolding gives
follows_kept d n s v k e f b h = record { front = front_as d (kept_of s) k e f; bound = omega (arith, ap length e); event = h }

kept_first : kept_of first ≡ []
unfolding kept_of first
kept_first = refl

kept_dropped : (cr : Bool) (c : ℕ) → kept_of (dropped cr c) ≡ []
unfolding dropped kept_of first
kept_dropped cr c = go (cr && eqb c 10)
  where
    go : (o : Bool) → kept_of (cond o first (dropping (eqb c 13))) ≡ []
    go true = refl
    go false = refl

kept_awaiting : (k : List ℕ) (n : ℕ) → kept_of (awaiting k n) ≡ k
unfolding awaiting kept_of
kept_awaiting k n = go (eqb n 0)
  where
    go : (o : Bool) → kept_of (cond o (reading k []) (in_literal k n)) ≡ k
    go true = refl
    go false = refl

said_quiet : (d : List ℕ) (n : ℕ) → events_of d (event_is (signal_of quiet) n) ≡ said_of quiet
unfolding events_of event_is signal_of
said_quiet d n = refl

said_on : (d : List ℕ) (n : ℕ) → events_of d (event_is (signal_of go_on) n) ≡ said_of go_on
unfolding events_of event_is signal_of
said_on d n = refl

said_denied : (d : List ℕ) (n : ℕ) → events_of d (event_is (signal_of (denied 3)) n) ≡ said_of (denied 3)
unfolding events_of event_is signal_of
said_denied d n = refl

said_handed : (d : List ℕ) (n : ℕ) (l : List ℕ) → take n d ≡ l → events_of d (event_is (signal_of (handed l)) n) ≡ said_of (handed l)
unfolding events_of event_is signal_of
said_handed d n l e = ap (λ (x : List ℕ). handed x ∷ []) e

kept_reading : (k l : List ℕ) → kept_of (reading k l) ≡ k
unfolding kept_of
kept_reading k l = refl

module _ (d : List ℕ) (n : ℕ) where
  follows_refusing : (kept : List ℕ) (c : ℕ) → Follows d n (refusing kept c)
  unfolding refusing
  follows_refusing kept c = follows_none d n (dropped (last_is 13 kept) c) (denied 3) (kept_dropped (last_is 13 kept) c) (said_denied d n)

  module _ (k : List ℕ) (f : Front d k) (b : length k ≤ 2048) (e : n ≡ length k) where
    follows_ended : (o : Option ℕ) → Follows d n (line_ended k o)
    unfolding line_ended
    follows_ended none = follows_none d n first (handed k) kept_first (said_handed d n k (ap (λ (x : ℕ). take x d) e ∙ sym f))
    follows_ended (some v) = go (leb v 1024)
      where
        go : (o : Bool) → Follows d n (cond o (gives (awaiting k v) go_on) (gives first (denied 3)))
        go true = follows_kept d n (awaiting k v) go_on k (kept_awaiting k v) f b (said_on d n)
        go false = follows_none d n first (denied 3) kept_first (said_denied d n)

    follows_text : (line : List ℕ) → Follows d n (text_byte k line)
    unfolding text_byte
    follows_text line = go (ends_line line)
      where
        go : (o : Bool) → Follows d n (cond o (line_ended k (announced line)) (gives (reading k line) quiet))
        go true = follows_ended (announced line)
        go false = follows_kept d n (reading k line) quiet k (kept_reading k line) f b (said_quiet d n)

    follows_literal : (v : ℕ) → Follows d n (gives (awaiting k v) quiet)
    follows_literal v = follows_kept d n (awaiting k v) quiet k (kept_awaiting k v) f b (said_quiet d n)

next_place_lem : (n : ℕ) → n ≤ 2048 → next_place n ≡ n + 1
unfolding next_place
next_place_lem n h = omega arith

-- a byte is stored exactly where the command takes it
stored_kept : (kept d : List ℕ) (c : ℕ) → cond (not (offending (length kept) c)) (set d (length kept) c) d ≡ cond (offends kept c) d (set d (length kept) c)
stored_kept kept d c = rw (offending_is kept c) (go (offends kept c))
  where
    go : (o : Bool) → cond (not o) (set d (length kept) c) d ≡ cond o d (set d (length kept) c)
    go true = refl
    go false = refl

stored_reading : (kept line d : List ℕ) (c : ℕ) → stored_is (machine_of (reading kept line)) d c ≡ cond (offends kept c) d (set d (length kept) c)
unfolding stored_is machine_of
stored_reading kept line d c = stored_kept kept d c

stored_literal : (kept : List ℕ) (n : ℕ) (d : List ℕ) (c : ℕ) → stored_is (machine_of (in_literal kept n)) d c ≡ cond (offends kept c) d (set d (length kept) c)
unfolding stored_is machine_of
stored_literal kept n d c = stored_kept kept d c

room_left : (kept : List ℕ) (c : ℕ) → offends kept c ≡ false → length kept < 2048
unfolding offends
room_left kept c e = go (leb (suc (length kept)) 2048) refl e
  where
    go : (o : Bool) → leb (suc (length kept)) 2048 ≡ o → (not o || eqb c 0) ≡ false → length kept < 2048
    go true h g = omega (arith, leb-true (suc (length kept)) 2048 h)
    go false h g = let z : ◌≡◌ {A = ℕ} 0 1 = cc in omega arith

follows_byte : (s : Feeder) (d : List ℕ) (c : ℕ) → Front d (kept_of s) → length (kept_of s) ≤ 2048 → 2048 ≤ length d →
    Follows (stored_is (machine_of s) d c) (next_place (machine_of s).size) (fed_byte s c)
unfolding fed_byte kept_of machine_of
follows_byte (reading kept line) d c f b h = rw (stored_reading kept line d c, next_place_lem (length kept) b) (go (offends kept c) refl)
  where
    go : (o : Bool) → offends kept c ≡ o → Follows (cond o d (set d (length kept) c)) (length kept + 1) (cond o (refusing kept c) (text_byte (kept ++ (c ∷ [])) (line ++ (c ∷ []))))
    go true e = follows_refusing d (length kept + 1) kept c
    go false e =
        follows_text (set d (length kept) c) (length kept + 1) (kept ++ (c ∷ [])) (front_more d kept c f (omega (arith, room_left kept c e)))
        (omega (arith, room_left kept c e, length-append kept (c ∷ []))) (omega (arith, length-append kept (c ∷ []))) (line ++ (c ∷ []))
follows_byte (in_literal kept n) d c f b h = rw (stored_literal kept n d c, next_place_lem (length kept) b) (go (offends kept c) refl)
  where
    go : (o : Bool) → offends kept c ≡ o → Follows (cond o d (set d (length kept) c)) (length kept + 1) (cond o (refusing kept c) (gives (awaiting (kept ++ (c ∷ [])) (n - 1)) quiet))
    go true e = follows_refusing d (length kept + 1) kept c
    go false e =
        follows_literal (set d (length kept) c) (length kept + 1) (kept ++ (c ∷ [])) (front_more d kept c f (omega (arith, room_left kept c e)))
        (omega (arith, room_left kept c e, length-append kept (c ∷ []))) (omega (arith, length-append kept (c ∷ []))) (n - 1)
follows_byte (dropping cr) d c f b h = follows_none _ _ (dropped cr c) quiet (kept_dropped cr c) (said_quiet _ _)

-- ---- a chunk, in document 02's terms

quiet_is : (v : Meant) → nothing v ≡ true → v ≡ quiet
unfolding nothing
quiet_is quiet e = refl
quiet_is (handed l) e = absurd (false≢true e)
quiet_is go_on e = absurd (false≢true e)
quiet_is (denied k) e = absurd (false≢true e)

quiet_event : (v : Meant) (n : ℕ) → is_quiet (event_is (signal_of v) n) ≡ nothing v
unfolding is_quiet event_is signal_of nothing
quiet_event quiet n = refl
quiet_event (handed l) n = refl
quiet_event go_on n = refl
quiet_event (denied k) n = refl

said_one : (v : Meant) (s : Feeder) → saying v (record { state = s; events = [] }) ≡ record { state = s; events = said_of v }
unfolding saying
said_one quiet s = refl
said_one (handed l) s = refl
said_one go_on s = refl
said_one (denied k) s = refl

feed_one : (s : Feeder) (c : ℕ) → feed_all s (c ∷ []) ≡ record { state = (fed_byte s c).state; events = said_of (fed_byte s c).event }
unfolding feed_all
feed_one s c = said_one (fed_byte s c).event (fed_byte s c).state

feed_quiet : (s : Feeder) (c : ℕ) (t : List ℕ) → (fed_byte s c).event ≡ quiet → feed_all s (c ∷ t) ≡ feed_all (fed_byte s c).state t
unfolding feed_all saying
feed_quiet s c t e = ap (λ (v : Meant). saying v (feed_all (fed_byte s c).state t)) e

one_byte : (s : Feeder) (c : ℕ) (t : List ℕ) → nothing (fed_byte s c).event ≡ false → through_event s (c ∷ t) ≡ 1
unfolding through_event
one_byte s c t e = rw e

more_bytes : (s : Feeder) (c : ℕ) (t : List ℕ) → nothing (fed_byte s c).event ≡ true → through_event s (c ∷ t) ≡ suc (through_event (fed_byte s c).state t)
unfolding through_event
more_bytes s c t e = rw e

stored_length : (m : Machine) (d : List ℕ) (c : ℕ) → length (stored_is m d c) ≡ length d
unfolding stored_is
stored_length m d c = go (takes m c)
  where
    go : (o : Bool) → length (cond o (set d m.size c) d) ≡ length d
    go true = length-set d m.size c
    go false = refl

-- the answer to a byte, told by the feeder's step
byte_is_lem : (s : Feeder) (c : ℕ) → byte_is (machine_of s) c ≡ answers (machine_of (fed_byte s c).state) 1 (event_is (signal_of (fed_byte s c).event) (next_place (machine_of s).size))
unfolding byte_is
byte_is_lem s c = ap (λ (x : Stepped). answers x.machine 1 (event_is x.signal (next_place (machine_of s).size))) (step_is_lem s c)

-- What the bytes t behind so many others come to, from the state s: as `Means`.
pub record Follow (before : ℕ) (s : Feeder) (t : List ℕ) (o : Outcome) : Type 0 where
  pub used : o.fed.used ≡ before + through_event s t
  pub events : (feed_all s (take (through_event s t) t)).events ≡ events_of o.memory o.fed.event
  pub holds : Holds o.memory o.fed.state (feed_all s (take (through_event s t) t)).state

held_is : (s : Feeder) (d : List ℕ) → Front d (kept_of s) → Holds d (machine_of s) s
held_is s d f = (refl, f ∙ ap (λ (k : ℕ). take k d) (sym (size_is s)))

-- no byte is left
follow_end : (used : ℕ) (s : Feeder) (d : List ℕ) → Front d (kept_of s) → Follow used s [] (outcome (machine_of s) used Quiet d)
unfolding outcome answers through_event feed_all events_of
follow_end used s d f = record { used = sym (add-zero used); events = refl; holds = held_is s d f }

-- something comes of the byte
follow_stop : (used : ℕ) (s : Feeder) (c : ℕ) (t d : List ℕ) (n : ℕ) → Follows d n (fed_byte s c) → nothing (fed_byte s c).event ≡ false →
    Follow used s (c ∷ t) (outcome (machine_of (fed_byte s c).state) (used + 1) (event_is (signal_of (fed_byte s c).event) n) d)
unfolding outcome answers
follow_stop used s c t d n g e =
    record {
      used = ap (λ (k : ℕ). used + k) (sym one);
      events = ap (λ (x : Feeding). x.events) only ∙ sym g.event;
      holds = rw only (held_is (fed_byte s c).state d g.front);
    }
  where
    one : through_event s (c ∷ t) ≡ 1
    one = one_byte s c t e

    only : feed_all s (take (through_event s (c ∷ t)) (c ∷ t)) ≡ record { state = (fed_byte s c).state; events = said_of (fed_byte s c).event }
    only = ap (λ (k : ℕ). feed_all s (take k (c ∷ t))) one ∙ feed_one s c

-- nothing comes of the byte
follow_on : (used : ℕ) (s : Feeder) (c : ℕ) (t : List ℕ) (o : Outcome) → nothing (fed_byte s c).event ≡ true → Follow (used + 1) (fed_byte s c).state t o → Follow used s (c ∷ t) o
follow_on used s c t o e f =
    record {
      used = f.used ∙ omega (arith, more);
      events = ap (λ (x : Feeding). x.events) on ∙ f.events;
      holds = rw on f.holds;
    }
  where
    more : through_event s (c ∷ t) ≡ suc (through_event (fed_byte s c).state t)
    more = more_bytes s c t e

    on : feed_all s (take (through_event s (c ∷ t)) (c ∷ t)) ≡ feed_all (fed_byte s c).state (take (through_event (fed_byte s c).state t) t)
    on = ap (λ (k : ℕ). feed_all s (take k (c ∷ t))) more ∙ feed_quiet s c (take (through_event (fed_byte s c).state t) t) (quiet_is (fed_byte s c).event e)

-- the two ways on from a byte, as `feedFrom` takes them
module _ (used : ℕ) (s : Feeder) (c : ℕ) (t d : List ℕ) (n : ℕ) where
  abbrev byte_way : Outcome
  byte_way =
      let r = answers (machine_of (fed_byte s c).state) 1 (event_is (signal_of (fed_byte s c).event) n) in
      cond (is_quiet r.event) (feed_from (used + 1) r.state d t) (outcome r.state (used + 1) r.event d)

  step_on : nothing (fed_byte s c).event ≡ true → Follow (used + 1) (fed_byte s c).state t (feed_from (used + 1) (machine_of (fed_byte s c).state) d t) → Follow used s (c ∷ t) byte_way
  unfolding answers
  step_on e ih = rw (quiet_event (fed_byte s c).event n ∙ e) (follow_on used s c t _ e ih)

  step_stop : nothing (fed_byte s c).event ≡ false → Follows d n (fed_byte s c) → Follow used s (c ∷ t) byte_way
  unfolding answers
  step_stop e g = rw (quiet_event (fed_byte s c).event n ∙ e) (follow_stop used s c t d n g e)

pub feed_follows : (t : List ℕ) (used : ℕ) (s : Feeder) (d : List ℕ) → Front d (kept_of s) → length (kept_of s) ≤ 2048 → 2048 ≤ length d → Follow used s t (feed_from used (machine_of s) d t)
unfolding feed_from
feed_follows [] used s d f b h = follow_end used s d f
feed_follows (c ∷ t) used s d f b h = rw (byte_is_lem s c) (step (nothing (fed_byte s c).event) refl
    (feed_follows t (used + 1) (fed_byte s c).state (stored_is (machine_of s) d c) g.front g.bound
    (omega (arith, stored_length (machine_of s) d c))))
  where
    n : ℕ
    n = next_place (machine_of s).size

    g : Follows (stored_is (machine_of s) d c) n (fed_byte s c)
    g = follows_byte s d c f b h

    step : (o : Bool) → nothing (fed_byte s c).event ≡ o →
        Follow (used + 1) (fed_byte s c).state t (feed_from (used + 1) (machine_of (fed_byte s c).state) (stored_is (machine_of s) d c) t) →
        Follow used s (c ∷ t) (byte_way used s c t (stored_is (machine_of s) d c) n)
    step true e ih = step_on used s c t (stored_is (machine_of s) d c) n e ih
    step false e ih = step_stop used s c t (stored_is (machine_of s) d c) n e g
