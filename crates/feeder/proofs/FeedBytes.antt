-- The lent memory of a feeder: the bytes stored lie one behind the other, all else stays, and the state goes on to fit; and with that
-- the whole promise of `feed`. Rests on FeedLaws.
use Rattle.listing_rules.proofs.Prelude.{◌∙◌, ◌≡◌, ap, refl, subst, sym, Bool, ◌&&◌, cond, false, false≢true, true, List, [], ◌∷◌, ◌+◌, ◌-◌, ◌<◌, ◌≤◌}
use Rattle.listing_rules.proofs.Prelude.{suc, ℕ, zero-add, add-one, arith, eqb, leb, length, take, length-sets, sets, le-leb, lt-leb}
use Rattle.listing_rules.specs.Feeder.{Feeder, feed_all}
use Rattle.command_shape.specs.declared.machine.Machine.{Machine}
use Rattle.command_shape.specs.declared.machine.Place.{Place}
use Rattle.command_shape.specs.declared.machine.Place.TheVariants.{Line, Literal, Dropping}
use Rattle.command_shape.specs.declared.machine.Tail.{Tail}
use Rattle.command_shape.specs.declared.machine.Tail.TheVariants.{Text, Cr, Open, Digits, Closed, Ending}
use Rattle.command_shape.specs.declared.machine.Stepped.{Stepped}
use Rattle.command_shape.specs.declared.machine.Signal.{Signal}
use Rattle.command_shape.specs.declared.machine.Signal.TheVariants.{Quiet as quietly, GoOn as going_on, Whole, Refused as refusing}
use Rattle.feeder.specs.declared.Event.TheVariants.{TooSmall}
use Rattle.feeder.specs.declared.Fed.{Fed}
use Rattle.command_shape.specs.Machine.{is_dropping, offending, takes, first_is, steps, standing, text_is, awaiting_is, announced_is, line_is, dropped_is}
use Rattle.command_shape.specs.Machine.{step_at, step_is}
use Rattle.feeder.specs.Feed.{stored_is, event_is, next_place, answers, byte_is, Outcome, outcome, is_quiet, feed_from, start_of, put_from, kept_of}
use Rattle.feeder.specs.Feed.{Holds, through_event, Means, ready, Feeds}
use Rattle.command_shape.proofs.Steps.{room_left}
use Rattle.feeder.proofs.FeedLaws.{Follow, feed_follows, size_is}

-- ---- where a step leaves the state

-- A step that leaves a command's byte of number n: a state at that place, or an event, or the first state.
abbrev Next : ℕ → Stepped → Type 0
Next n r = (r.machine.size ≤ n) × (is_quiet (event_is r.signal n) ≡ true → start_of r.machine ≡ n)

next_text : (t : Tail) (n c : ℕ) → Next n (text_is t n c)
unfolding start_of
next_text t n c = (omega arith, λ q. refl)

next_awaiting : (k n c : ℕ) (v : Signal) → Next n (steps (standing (awaiting_is k) n c) v)
unfolding start_of awaiting_is
next_awaiting k n c v = (omega arith, λ q. go (eqb k 0))
  where
    go : (o : Bool) → cond (is_dropping (cond o (Line Text) (Literal k))) 0 n ≡ n
    go true = refl
    go false = refl

-- the first state, and something came
next_first : (n : ℕ) (v : Signal) → is_quiet (event_is v n) ≡ false → Next n (steps first_is v)
next_first n v e = (omega arith, λ q. absurd (false≢true (sym e ∙ q)))

loud_whole : (n : ℕ) → is_quiet (event_is Whole n) ≡ false
unfolding is_quiet event_is
loud_whole n = refl

loud_refused : (n : ℕ) → is_quiet (event_is refusing n) ≡ false
unfolding is_quiet event_is
loud_refused n = refl

next_announced : (k n : ℕ) → Next n (announced_is k n)
unfolding announced_is
next_announced k n = go (leb k 1024)
  where
    go : (o : Bool) → Next n (cond o (steps (standing (awaiting_is k) n 10) going_on) (steps first_is refusing))
    go true = next_awaiting k n 10 going_on
    go false = next_first n refusing (loud_refused n)

next_line : (t : Tail) (n c : ℕ) → Next n (line_is t n c)
unfolding line_is
next_line Text n c = next_text Text n c
next_line Cr n c = go (eqb c 10)
  where
    go : (o : Bool) → Next n (cond o (steps first_is Whole) (text_is Cr n c))
    go true = next_first n Whole (loud_whole n)
    go false = next_text Cr n c
next_line Open n c = next_text Open n c
next_line (Digits v) n c = next_text (Digits v) n c
next_line (Closed v) n c = next_text (Closed v) n c
next_line (Ending v) n c = go (eqb c 10)
  where
    go : (o : Bool) → Next n (cond o (announced_is v n) (text_is (Ending v) n c))
    go true = next_announced v n
    go false = next_text (Ending v) n c

dropped_start : (cr : Bool) (c : ℕ) → ((dropped_is cr c).size ≡ 0) × (start_of (dropped_is cr c) ≡ 0)
unfolding dropped_is start_of
dropped_start cr c = go (cr && eqb c 10)
  where
    go : (o : Bool) → ((cond o first_is (record { place = Dropping; size = 0; cr = eqb c 13 })).size ≡ 0) × (start_of (cond o first_is (record { place = Dropping; size = 0; cr = eqb c 13 })) ≡ 0)
    go true = (refl, refl)
    go false = (refl, refl)

-- A byte that the command takes, one that is dropped, one that is refused.
pub data Way (m : Machine) (c : ℕ) : Type 0 where
  taken : takes m c ≡ true → start_of m ≡ m.size → m.size < 2048 → Next (m.size + 1) (step_is m c) → Way m c
  dropped : takes m c ≡ false → start_of m ≡ 0 → step_is m c ≡ steps (dropped_is m.cr c) quietly → Way m c
  refused : takes m c ≡ false → step_is m c ≡ steps (dropped_is m.cr c) refusing → Way m c

way_at : (p : Place) (size : ℕ) (cr : Bool) (c : ℕ) → Way (record { place = p; size = size; cr = cr }) c
unfolding step_at start_of
way_at (Line t) size cr c = go (offending size c) refl
  where
    go : (o : Bool) → offending size c ≡ o → Way (record { place = Line t; size = size; cr = cr }) c
    go true e = refused (rw e) (rw e)
    go false e = taken (rw e) refl (room_left size c e) (rw e (next_line t (size + 1) c))
way_at (Literal n) size cr c = go (offending size c) refl
  where
    go : (o : Bool) → offending size c ≡ o → Way (record { place = Literal n; size = size; cr = cr }) c
    go true e = refused (rw e) (rw e)
    go false e = taken (rw e) refl (room_left size c e) (rw e (next_awaiting (n - 1) (size + 1) c quietly))
way_at Dropping size cr c = dropped refl refl refl

way : (m : Machine) (c : ℕ) → Way m c
way m c = way_at m.place m.size m.cr c

-- whether something comes of a byte does not depend on its number
quiet_any : (v : Signal) (a b : ℕ) → is_quiet (event_is v a) ≡ is_quiet (event_is v b)
unfolding is_quiet event_is
quiet_any quietly a b = refl
quiet_any going_on a b = refl
quiet_any Whole a b = refl
quiet_any refusing a b = refl

-- ---- the size

step_size : (m : Machine) (c : ℕ) → m.size ≤ 2048 → (step_is m c).machine.size ≤ 2048
step_size m c h = go (way m c)
  where
    go : Way m c → (step_is m c).machine.size ≤ 2048
    go (taken t s n e) = omega (arith, e.0)
    go (dropped t s e) = rw e (omega (arith, (dropped_start m.cr c).0))
    go (refused t e) = rw e (omega (arith, (dropped_start m.cr c).0))

feed_size : (t : List ℕ) (used : ℕ) (m : Machine) (d : List ℕ) → m.size ≤ 2048 → (feed_from used m d t).fed.state.size ≤ 2048
unfolding feed_from outcome answers byte_is
feed_size [] used m d h = h
feed_size (c ∷ t) used m d h = go (is_quiet (event_is (step_is m c).signal (next_place m.size))) (feed_size t (used + 1) (step_is m c).machine (stored_is m d c) (step_size m c h))
  where
    go : (o : Bool) → (feed_from (used + 1) (step_is m c).machine (stored_is m d c) t).fed.state.size ≤ 2048 →
        (cond o (feed_from (used + 1) (step_is m c).machine (stored_is m d c) t)
        (outcome (step_is m c).machine (used + 1) (event_is (step_is m c).signal (next_place m.size)) (stored_is m d c))).fed.state.size ≤ 2048
    go true ih = ih
    go false ih = step_size m c h

dropped_next : (cr : Bool) (c : ℕ) (r : Stepped) (v : Signal) → r ≡ steps (dropped_is cr c) v → start_of r.machine ≡ 0
dropped_next cr c r v e = ap (λ (x : Stepped). start_of x.machine) e ∙ (dropped_start cr c).1

refused_loud : (cr : Bool) (c : ℕ) (r : Stepped) (n : ℕ) → r ≡ steps (dropped_is cr c) refusing → is_quiet (event_is refusing n) ≡ is_quiet (event_is r.signal n)
refused_loud cr c r n e = ap (λ (x : Stepped). is_quiet (event_is x.signal n)) (sym e)

-- ---- how many bytes are taken

feed_used : (t : List ℕ) (used : ℕ) (m : Machine) (d : List ℕ) → (used ≤ (feed_from used m d t).fed.used) × ((feed_from used m d t).fed.used ≤ used + length t)
unfolding feed_from outcome answers byte_is
feed_used [] used m d = (omega arith, omega arith)
feed_used (c ∷ t) used m d = go (is_quiet (event_is (step_is m c).signal (next_place m.size))) (feed_used t (used + 1) (step_is m c).machine (stored_is m d c))
  where
    more : Outcome
    more = feed_from (used + 1) (step_is m c).machine (stored_is m d c) t

    go : (o : Bool) → (used + 1 ≤ more.fed.used) × (more.fed.used ≤ used + 1 + length t) →
        (used ≤ (cond o more (outcome (step_is m c).machine (used + 1) (event_is (step_is m c).signal (next_place m.size))
        (stored_is m d c))).fed.used) × ((cond o more (outcome (step_is m c).machine (used + 1) (event_is (step_is m c).signal (next_place m.size))
        (stored_is m d c))).fed.used ≤ used + suc (length t))
    go true ih = (omega (arith, ih.0), omega (arith, ih.1))
    go false ih = (omega arith, omega arith)

feed_some : (t : List ℕ) (used : ℕ) (m : Machine) (d : List ℕ) → 0 < length t → used < (feed_from used m d t).fed.used
unfolding feed_from outcome answers byte_is
feed_some [] used m d h = absurd (omega arith)
feed_some (c ∷ t) used m d h = go (is_quiet (event_is (step_is m c).signal (next_place m.size))) (feed_used t (used + 1) (step_is m c).machine (stored_is m d c)).0
  where
    more : Outcome
    more = feed_from (used + 1) (step_is m c).machine (stored_is m d c) t

    go : (o : Bool) → used + 1 ≤ more.fed.used → used < (cond o more (outcome (step_is m c).machine (used + 1) (event_is (step_is m c).signal (next_place m.size)) (stored_is m d c))).fed.used
    go true ih = omega (arith, ih)
    go false ih = omega arith

-- ---- the bytes

-- a byte stored is the first of those stored from there on
put_taken : (m : Machine) (d : List ℕ) (c : ℕ) (xs : List ℕ) → takes m c ≡ true → start_of m ≡ m.size → sets (stored_is m d c) (suc m.size) xs ≡ sets d (start_of m) (cond (takes m c) (c ∷ xs) xs)
unfolding stored_is
put_taken m d c xs t s = rw (t, s)

put_left : (m : Machine) (d : List ℕ) (c k : ℕ) (xs : List ℕ) → takes m c ≡ false → sets (stored_is m d c) k xs ≡ sets d k (cond (takes m c) (c ∷ xs) xs)
unfolding stored_is
put_left m d c k xs t = rw t

memory_is : (t : List ℕ) (used : ℕ) (m : Machine) (d : List ℕ) → (feed_from used m d t).memory ≡ sets d (start_of m) (put_from m t)
unfolding feed_from outcome byte_is answers put_from
memory_is [] used m d = refl
memory_is (c ∷ t) used m d = go (is_quiet (event_is (step_is m c).signal (next_place m.size))) refl (memory_is t (used + 1) (step_is m c).machine (stored_is m d c)) (way m c)
  where
    m' : Machine
    m' = (step_is m c).machine

    d' : List ℕ
    d' = stored_is m d c

    go : (o : Bool) → is_quiet (event_is (step_is m c).signal (next_place m.size)) ≡ o →
        (feed_from (used + 1) m' d' t).memory ≡ sets d' (start_of m') (put_from m' t) → Way m c →
        (cond o (feed_from (used + 1) m' d' t) (outcome m' (used + 1) (event_is (step_is m c).signal (next_place m.size)) d')).memory ≡ sets d
        (start_of m) (cond (takes m c) (c ∷ cond o (put_from m' t) []) (cond o (put_from m' t) []))
    go true q ih (taken k s n e) = ih ∙ ap (λ (x : ℕ). sets d' x (put_from m' t))
        (e.1 (quiet_any (step_is m c).signal (m.size + 1) (next_place m.size) ∙ q) ∙ add-one m.size) ∙ put_taken m d c (put_from m' t) k s
    go true q ih (dropped k s e) = ih ∙ ap (λ (x : ℕ). sets d' x (put_from m' t)) (dropped_next m.cr c (step_is m c) quietly e ∙ sym s) ∙ put_left m d c (start_of m) (put_from m' t) k
    go true q ih (refused k e) = absurd (false≢true (sym (loud_refused (next_place m.size)) ∙ refused_loud m.cr c (step_is m c) (next_place m.size) e ∙ q))
    go false q ih (taken k s n e) = put_taken m d c [] k s
    go false q ih (dropped k s e) = put_left m d c (start_of m) [] k
    go false q ih (refused k e) = put_left m d c (start_of m) [] k

-- ---- the promise

-- nothing is taken
pub feeds_not : (m : Machine) (d chunk : List ℕ) → ready (length d) m.size ≡ false → Feeds m d d chunk (record { state = m; used = 0; event = TooSmall })
unfolding answers
feeds_not m d chunk e =
    record {
      answer = rw e;
      bytes = rw e;
      kept = refl;
      inside = omega arith;
      onward = λ h p. absurd (false≢true (sym e ∙ h));
      means = λ h s p. absurd (false≢true (sym e ∙ h));
      fits = λ h. h;
    }

pub small_memory : (d : List ℕ) (size : ℕ) → length d < 2048 → ready (length d) size ≡ false
unfolding ready
small_memory d size h = rw (lt-leb 2048 (length d) h)

pub large_state : (d : List ℕ) (size : ℕ) → 2048 < size → ready (length d) size ≡ false
unfolding ready
large_state d size h = go (leb 2048 (length d))
  where
    go : (o : Bool) → (o && leb size 2048) ≡ false
    go true = lt-leb size 2048 h
    go false = refl

pub is_ready : (d : List ℕ) (size : ℕ) → 2048 ≤ length d → size ≤ 2048 → ready (length d) size ≡ true
unfolding ready
is_ready d size h g = rw (le-leb 2048 (length d) h, le-leb size 2048 g)

means_of : (s : Feeder) (chunk e : List ℕ) (r : Fed) → Follow 0 s chunk (record { fed = r; memory = e }) → Means s chunk e r
means_of s chunk e r w =
    let u : r.used ≡ through_event s chunk = w.used ∙ zero-add (through_event s chunk) in
    record {
      used = u;
      events = ap (λ (k : ℕ). (feed_all s (take k chunk)).events) u ∙ w.events;
      holds = subst (λ (k : ℕ). Holds e r.state (feed_all s (take k chunk)).state) (sym u) w.holds;
    }

-- the answer and the memory of `feedFrom` are all that is promised
pub feeds : (m : Machine) (d e chunk : List ℕ) (r : Fed) → 2048 ≤ length d → m.size ≤ 2048 → feed_from 0 m d chunk ≡ record { fed = r; memory = e } → Feeds m d e chunk r
feeds m d e chunk r h g f =
    record {
      answer = rw yes (ap (λ (o : Outcome). o.fed) (sym f));
      bytes = rw yes stored;
      kept = kept;
      inside = omega (arith, many.1);
      onward = λ y p. some p;
      means = λ y s p. meant s p;
      fits = λ y. is_ready e r.state.size (omega (arith, kept)) small;
    }
  where
    yes : ready (length d) m.size ≡ true
    yes = is_ready d m.size h g

    stored : e ≡ sets d (start_of m) (put_from m chunk)
    stored = ap (λ (o : Outcome). o.memory) (sym f) ∙ memory_is chunk 0 m d

    kept : length e ≡ length d
    kept = ap length stored ∙ length-sets d (start_of m) (put_from m chunk)

    many : (0 ≤ r.used) × (r.used ≤ 0 + length chunk)
    many = subst (λ (o : Outcome). (0 ≤ o.fed.used) × (o.fed.used ≤ 0 + length chunk)) f (feed_used chunk 0 m d)

    some : 0 < length chunk → 0 < r.used
    some p = subst (λ (o : Outcome). 0 < o.fed.used) f (feed_some chunk 0 m d p)

    small : r.state.size ≤ 2048
    small = subst (λ (o : Outcome). o.fed.state.size ≤ 2048) f (feed_size chunk 0 m d g)

    follow : (s : Feeder) → Holds d m s → Follow 0 s chunk (record { fed = r; memory = e })
    follow s p =
        subst (λ (o : Outcome). Follow 0 s chunk o) (ap (λ (x : Machine). feed_from 0 x d chunk) (sym p.0) ∙ f)
        (feed_follows chunk 0 s d (p.1 ∙ ap (λ (k : ℕ). take k d) (size s p)) (omega (arith, size s p)) h)
      where
        size : (s : Feeder) → Holds d m s → m.size ≡ length (kept_of s)
        size s p = ap (λ (x : Machine). x.size) p.0 ∙ size_is s

    meant : (s : Feeder) → Holds d m s → Means s chunk e r
    meant s p = means_of s chunk e r (follow s p)
