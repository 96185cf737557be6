-- A frame of a log at its line feed, where a command is due and where an answer is. Rests on LogLaws of frames and on RunLaws.
use Rattle.std.specs.Prelude.{Option as Maybe, Some, None}
use Rattle.std.specs.Option.{unwrap_or}
use Rattle.listing_rules.proofs.Prelude.{◌∙◌, ◌≡◌, ap, refl, sym, Bool, cond, false, true, Option, none, some, List, [], ◌∷◌, ◌+◌}
use Rattle.listing_rules.proofs.Prelude.{◌≤◌, suc, ℕ, arith, eqb, leb, drop, get_or, length, length-sets, length-take-le, sets, take, take_all, take_at}
use Rattle.listing_rules.proofs.Prelude.{eq-eqb, ne_eqb, le-leb, leb-true, leb-false}
use Rattle.listing_rules.specs.Bytes.{same, LF}
use Rattle.listing_rules.specs.Server.{Reply, refusal, answered}
use Rattle.listing_rules.specs.Summary.{Summed, SummedCommand}
use Rattle.listing_rules.specs.Replay.{Logged, asked, recorded, unreadable, read_logged, same_reply, noted, rerun, Due, command_due, answer_due}
use Rattle.listing_rules.specs.Replay.{Replaying, waiting, stopped_at, frame_ended, replay_on, replay_byte, replay_all}
use Rattle.octets.proofs.Puts.{front}
use Rattle.frames.specs.declared.logs.Recorded.{Recorded}
use Rattle.frames.specs.declared.logs.Recorded.TheVariants.{Answer, Number}
use Rattle.frames.specs.Logged.{recorded_is, command_bytes, fitting_bytes, length_some, CommandRead}
use Rattle.frames.proofs.LogLaws.{log_long, command_small, answer_digits, recorded_long}
use Rattle.replay.specs.declared.Replaying.{Replaying as State}
use Rattle.replay.specs.declared.run.Ran.{Ran}
use Rattle.replay.specs.Holding.{Memory, memory, table_of, table_in, first_as, due_as, stop_as, Holds, Notes, notes_of, pending_with, note_on, note_byte}
use Rattle.replay.specs.Holding.{notes_after}
use Rattle.replay.specs.Running.{agreeing, TableMemory, table, summed_in, TableKept, rerun_of, Runs}
use Rattle.replay.proofs.HoldLaws.{kept_same}
use Rattle.replay.specs.Framing.{framed_is, Asks, Settles, EndsFrame}

-- a frame of which no more than 32,771 characters are held is read as the whole is
cut_reads : (p : List ℕ) → read_logged (take 32771 p) ≡ read_logged p
cut_reads p = go (leb (length p) 32771) refl
  where
    go : (b : Bool) → leb (length p) 32771 ≡ b → read_logged (take 32771 p) ≡ read_logged p
    go true e = ap read_logged (take_all 32771 p (leb-true (length p) 32771 e))
    go false e =
        let h = leb-false (length p) 32771 e in
        log_long (take 32771 p) (omega (arith, h, length-take-le 32771 p (omega (arith, h)))) ∙ sym (log_long p (omega (arith, h)))

-- what a line feed makes of a replay that nothing has stopped, and what is written of it
feed_ends : (spaces : List ℕ) (r : Replaying) → r.stop ≡ none
    → replay_all spaces r (LF ∷ []) ≡ frame_ended spaces r.frames r.due r.first r.left (read_logged r.partial)
unfolding replay_all replay_byte
feed_ends spaces r e = ap (λ (o : Option ℕ). elim o [ none ↦ replay_on spaces r LF | some j ↦ r ]) e ∙ (unfold replay_on in refl)

feed_notes : (spaces : List ℕ) (r : Replaying) (n : Notes) → r.stop ≡ none
    → notes_after spaces r n (LF ∷ []) ≡ record { pending = pending_with r.due n.pending (read_logged r.partial); line = n.line }
unfolding notes_after note_byte
feed_notes spaces r n e = ap (λ (o : Option ℕ). elim o [ none ↦ note_on r n LF | some j ↦ n ]) e ∙ (unfold note_on in refl)

-- The replay after a frame of the state's own numbers is the one after the frame of whatever replay the memory holds.
module _ (spaces : List ℕ) (d e : Memory) (st su : State) (goes : st.stopped ≡ false) where
  abbrev held_due : Due
  held_due = due_as (take st.due d.pending)

  abbrev held_frame : Logged
  held_frame = read_logged (take st.gathered d.line)

  abbrev ended : Replaying
  ended = frame_ended spaces st.frames held_due (first_as st.first) (table_in d st.rows) held_frame

  pub frame_goes : Holds e su ended → e.pending ≡ pending_with held_due d.pending held_frame → e.line ≡ d.line
      → TableKept (table_of d) (table_of e)
      → length e.pending ≡ length d.pending → su.due ≤ 2050 → su.gathered ≡ 0 → su.frames ≡ st.frames + 1 → EndsFrame spaces d e st su
  frame_goes h p l k long due gathered frames =
      record {
        holds = λ r x. rw (feed_ends spaces r (unstopped r x), x.frames, x.due, x.first, x.left, reads r x) h;
        notes =
            λ r x.
            (λ i. record { pending = p i; line = l i })
            ∙ sym (feed_notes spaces r (notes_of d) (unstopped r x)
            ∙ (λ i. record { pending = pending_with (x.due i) d.pending (reads r x i); line = d.line }));
        kept = k;
        pending_long = long;
        line_long = ap length l;
        due_inside = due;
        due_counted = omega (arith, due, frames);
        gathered_inside = omega (arith, gathered);
        counted = omega (arith, frames);
      }
    where
      unstopped : (r : Replaying) → Holds d st r → r.stop ≡ none
      unstopped r x = unfold stop_as in x.stop ∙ rw goes

      reads : (r : Replaying) → Holds d st r → read_logged r.partial ≡ held_frame
      reads r x = sym (cut_reads r.partial) ∙ ap read_logged x.partial

-- Where a command is due: its bytes lie in `pending` then, and any other frame stopped the replay.
whole_fits : (text pending : List ℕ) → 2050 ≤ length pending
    → fitting_bytes (length pending) (command_bytes (read_logged text)) ≡ command_bytes (read_logged text)
whole_fits text pending h = unfold fitting_bytes in rw (le-leb (length (command_bytes (read_logged text))) (length pending) (omega (arith, h, command_small text)))

module _ (spaces words sums area line : List ℕ) (st : State) where
  asked_holds : (f : Logged) (pending : List ℕ) → length (command_bytes f) ≤ length pending
      → Holds (memory words sums area (sets pending 0 (command_bytes f)) line)
      (framed_is st st.first (length (command_bytes f)) (eqb (length (command_bytes f)) 0) st.rows)
      (frame_ended spaces st.frames command_due (first_as st.first) (summed_in (table words sums area) st.rows) f)
  unfolding command_bytes frame_ended waiting stopped_at due_as stop_as
  asked_holds (asked r l) pending h =
      record {
        frames = omega arith;
        due =
            sym (ap (λ (x : List ℕ). due_as (take (length (r ∷ l)) x)) (front pending (r ∷ l) h) ∙ ap due_as
            (take_at (r ∷ l) (drop (length (r ∷ l)) pending) (length (r ∷ l)) refl));
        first = refl;
        stop = rw (ne_eqb (suc (length l)) 0 (λ z. omega (arith, z)));
        left = refl;
        partial = refl;
      }
  asked_holds (recorded r) pending h = record { frames = omega arith; due = refl; first = refl; stop = ap some (omega arith); left = refl; partial = refl }
  asked_holds unreadable pending h = record { frames = omega arith; due = refl; first = refl; stop = ap some (omega arith); left = refl; partial = refl }

pub asks_goes : (spaces words sums area pending line e : List ℕ) (st su : State) → st.stopped ≡ false → st.due ≡ 0 → 2050 ≤ length pending
    → Asks (take st.gathered line) pending e st su
    → EndsFrame spaces (memory words sums area pending line) (memory words sums area e line) st su
asks_goes spaces words sums area pending line e st su goes none-due room x =
    frame_goes spaces d (memory words sums area e line) st su goes held (bytes ∙ sym pend) refl kept long
    (omega (arith, state_due, command_small text))
    (ap (λ (s : State). s.gathered) x.state) (ap (λ (s : State). s.frames) x.state)
  where
    d : Memory
    d = memory words sums area pending line

    text : List ℕ
    text = take st.gathered line

    f : Logged
    f = read_logged text

    fits : fitting_bytes (length pending) (command_bytes f) ≡ command_bytes f
    fits = whole_fits text pending room

    state_due : su.due ≡ length (command_bytes f)
    state_due = x.due ∙ ap length fits

    bytes : e ≡ sets pending 0 (command_bytes f)
    bytes = x.bytes ∙ ap (sets pending 0) fits

    due_is : due_as (take st.due pending) ≡ command_due
    due_is = ap (λ (n : ℕ). due_as (take n pending)) none-due ∙ (unfold due_as in refl)

    pend : pending_with (due_as (take st.due pending)) pending f ≡ sets pending 0 (command_bytes f)
    pend = ap (λ (q : Due). pending_with q pending f) due_is ∙ (unfold pending_with in refl)

    state_is : su ≡ framed_is st st.first (length (command_bytes f)) (eqb (length (command_bytes f)) 0) st.rows
    state_is = x.state ∙ ap (λ (n : ℕ). framed_is st st.first n (eqb n 0) st.rows) state_due

    held : Holds (memory words sums area e line) su (frame_ended spaces st.frames (due_as (take st.due pending)) (first_as st.first)
        (table_in d st.rows) f)
    held = rw (state_is, bytes, due_is) (asked_holds spaces words sums area line st f pending (omega (arith, room, command_small text)))

    kept : TableKept (table words sums area) (table words sums area)
    kept = kept_same (table words sums area)

    long : length e ≡ length pending
    long = ap length bytes ∙ length-sets pending 0 (command_bytes f)

-- Where an answer is due: what the frame records, as the code reads it.
settled_stop : (f : Logged) → recorded_is f ≡ None → (spaces : List ℕ) (n reader : ℕ) (l : List ℕ) (first : Option ℕ) (m : Summed)
    → frame_ended spaces n (answer_due reader l) first m f ≡ stopped_at (suc n) first m
unfolding recorded_is frame_ended
settled_stop (asked q k) h spaces n reader l first m = refl
settled_stop unreadable h spaces n reader l first m = refl
settled_stop (recorded (answered a)) h spaces n reader l first m = cc
settled_stop (recorded (refusal k)) h spaces n reader l first m = cc

settled_run : (text : List ℕ) (f : Logged) → read_logged text ≡ f → (seen : Recorded) → recorded_is f ≡ Some seen
    → (spaces : List ℕ) (n reader : ℕ) (l : List ℕ) (first : Option ℕ) (m : Summed)
    → frame_ended spaces n (answer_due reader l) first m f
    ≡ waiting (suc n) command_due (noted n (agreeing (rerun spaces m reader l).reply seen (drop 2 text)) first) (rerun spaces m reader l).left
unfolding recorded_is frame_ended
settled_run text (asked q k) e seen h spaces n reader l first m = cc
settled_run text unreadable e seen h spaces n reader l first m = cc
settled_run text (recorded (refusal j)) e seen h spaces n reader l first m =
    ap (λ (b : Bool). waiting (suc n) command_due (noted n b first) (rerun spaces m reader l).left)
    (go (rerun spaces m reader l).reply ∙ ap (λ (r : Recorded). agreeing (rerun spaces m reader l).reply r (drop 2 text)) is)
  where
    is : Number j ≡ seen
    is = cc

    go : (r : Reply) → same_reply (refusal j) r ≡ agreeing r (Number j) (drop 2 text)
    go (refusal k) = unfold same_reply agreeing in refl
    go (answered a) = unfold same_reply agreeing in refl
settled_run text (recorded (answered s)) e seen h spaces n reader l first m =
    ap (λ (b : Bool). waiting (suc n) command_due (noted n b first) (rerun spaces m reader l).left)
    (go (rerun spaces m reader l).reply ∙ ap (λ (r : Recorded). agreeing (rerun spaces m reader l).reply r (drop 2 text)) is)
  where
    is : Answer ≡ seen
    is = cc

    go : (r : Reply) → same_reply (answered s) r ≡ agreeing r Answer (drop 2 text)
    go (refusal k) = unfold same_reply agreeing in refl
    go (answered a) = unfold same_reply agreeing in ap (λ (x : List ℕ). same x a) (sym (answer_digits text s e).1)

-- a frame that records an answer has the two digits of its first byte
pub answer_long : (text : List ℕ) (seen : Recorded) → recorded_is (read_logged text) ≡ Some seen → 2 ≤ length text
answer_long text seen h = go (read_logged text) refl h
  where
    go : (f : Logged) → read_logged text ≡ f → recorded_is f ≡ Some seen → 2 ≤ length text
    go (recorded r) e h = recorded_long text r e
    go (asked q k) e h = unfold recorded_is in cc
    go unreadable e h = unfold recorded_is in cc

-- the command that stands in some bytes
due_command : (command : List ℕ) → 1 ≤ length command → due_as command ≡ answer_due (get_or command 0 0) (drop 1 command)
unfolding due_as
due_command [] h = absurd (omega (arith, h))
due_command (r ∷ l) h = refl

module _ (spaces command text : List ℕ) (d : TableMemory) (st : State) (filled : 1 ≤ length command) where
  abbrev settled : Replaying
  settled = frame_ended spaces st.frames (due_as command) (first_as st.first) (summed_in d st.rows) (read_logged text)

  pub settles_stop : recorded_is (read_logged text) ≡ None → (su : State) → su ≡ framed_is st st.first 0 true st.rows →
      Settles spaces command text d d st su
  unfolding stopped_at due_as stop_as
  settles_stop h su e =
      rw e (record {
        holds = λ pending line. rw is (record { frames = omega arith; due = refl; first = refl; stop = ap some (omega arith); left = refl; partial = refl });
        kept = kept_same d;
        due = refl;
        gathered = refl;
        frames = refl;
      })
    where
      is : settled ≡ stopped_at (suc st.frames) (first_as st.first) (summed_in d st.rows)
      is =
          ap (λ (q : Due). frame_ended spaces st.frames q (first_as st.first) (summed_in d st.rows) (read_logged text)) (due_command command filled)
          ∙ settled_stop (read_logged text) h spaces st.frames (get_or command 0 0) (drop 1 command) (first_as st.first) (summed_in d st.rows)

  pub settles_run : (e : TableMemory) (seen : Recorded) → recorded_is (read_logged text) ≡ Some seen → (digits : List ℕ) → digits ≡ drop 2 text → (ran : Ran) → Runs spaces command seen digits st.rows d e ran
      → (first : ℕ) → first_as first ≡ noted st.frames ran.same (first_as st.first) → (su : State) → su ≡ framed_is st first 0 false ran.rows
      → Settles spaces command text d e st su
  unfolding waiting due_as stop_as
  settles_run e seen h digits p ran x first f su s =
      rw s (record {
        holds = λ pending line. rw is (record { frames = omega arith; due = refl; first = noted_first; stop = refl; left = sym x.left; partial = refl });
        kept = x.kept;
        due = refl;
        gathered = refl;
        frames = refl;
      })
    where
      came : SummedCommand
      came = rerun_of spaces command (summed_in d st.rows)

      agree : Bool
      agree = agreeing came.reply seen (drop 2 text)

      is : settled ≡ waiting (suc st.frames) command_due (noted st.frames agree (first_as st.first)) came.left
      is =
          ap (λ (y : Due). frame_ended spaces st.frames y (first_as st.first) (summed_in d st.rows) (read_logged text)) (due_command command filled)
          ∙ settled_run text (read_logged text) refl seen h spaces st.frames (get_or command 0 0) (drop 1 command) (first_as st.first) (summed_in d st.rows)

      noted_first : noted st.frames agree (first_as st.first) ≡ first_as first
      noted_first =
          ap (λ (b : Bool). noted st.frames b (first_as st.first)) (sym (x.same ∙ ap (agreeing came.reply seen) p)) ∙ sym f

pub settles_goes : (spaces words sums area words' sums' area' pending line : List ℕ) (st su : State) → st.stopped ≡ false → 1 ≤ st.due →
    st.due ≤ length pending
    → Settles spaces (take st.due pending) (take st.gathered line) (table words sums area) (table words' sums' area') st su
    → EndsFrame spaces (memory words sums area pending line) (memory words' sums' area' pending line) st su
settles_goes spaces words sums area words' sums' area' pending line st su goes h inside x =
    frame_goes spaces (memory words sums area pending line) (memory words' sums' area' pending line) st su goes (x.holds pending line) (sym stays)
    refl x.kept refl
    (omega (arith, x.due)) x.gathered x.frames
  where
    due_is : due_as (take st.due pending) ≡ answer_due (get_or (take st.due pending) 0 0) (drop 1 (take st.due pending))
    due_is = due_command (take st.due pending) (omega (arith, h, length-take-le st.due pending inside))

    stays : pending_with (due_as (take st.due pending)) pending (read_logged (take st.gathered line)) ≡ pending
    stays = ap (λ (y : Due). pending_with y pending (read_logged (take st.gathered line))) due_is ∙ (unfold pending_with in refl)

-- the first difference as the code keeps it
first_none : (n : ℕ) → n ≡ 0 → first_as n ≡ none
unfolding first_as
first_none n e = rw (eq-eqb n 0 e)

first_some : (n : ℕ) → (n ≡ 0 → ⊥) → first_as n ≡ some n
unfolding first_as
first_some n e = rw (ne_eqb n 0 e)

pub noted_before : (first frame : ℕ) (agree : Bool) → (first ≡ 0 → ⊥) → first_as first ≡ noted frame agree (first_as first)
unfolding noted
noted_before first frame agree e = first_some first e ∙ sym (ap (noted frame agree) (first_some first e))

pub noted_same : (first frame : ℕ) (agree : Bool) → first ≡ 0 → agree ≡ true → first_as 0 ≡ noted frame agree (first_as first)
unfolding noted
noted_same first frame agree e t =
    first_none 0 refl ∙ sym (ap (noted frame agree) (first_none first e) ∙ ap (λ (b : Bool). cond b none (some frame)) t)

pub noted_now : (first frame : ℕ) (agree : Bool) → first ≡ 0 → agree ≡ false → 1 ≤ frame → first_as frame ≡ noted frame agree (first_as first)
unfolding noted
noted_now first frame agree e t h =
    first_some frame (λ z. omega (arith, h, z)) ∙ sym (ap (noted frame agree) (first_none first e) ∙ ap (λ (b : Bool). cond b none (some frame)) t)

-- how many bytes the command has, or 0
length_or : (xs : List ℕ) → unwrap_or (length_some xs) 0 ≡ length xs
unfolding length_some
length_or [] = refl
length_or (x ∷ xs) = refl

-- what the code's reading and its state come to
pub asks_by : {text d e : List ℕ} {q : Maybe ℕ} {n : ℕ} {st su : State} → CommandRead text d e q → n ≡ unwrap_or q 0
    → su ≡ framed_is st st.first n (eqb n 0) st.rows → Asks text d e st su
asks_by {text} {d} {e} {q} {n} {st} {su} r w s =
    let due_is : n ≡ su.due = sym (ap (λ (x : State). x.due) s) in
    record {
      due =
          sym due_is ∙ w ∙ ap (λ (x : Maybe ℕ). unwrap_or x 0) r.answer
          ∙ length_or (fitting_bytes (length d) (command_bytes (read_logged text)));
      bytes = r.bytes;
      state = s ∙ ap (λ (k : ℕ). framed_is st st.first k (eqb k 0) st.rows) due_is;
    }
