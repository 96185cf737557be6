-- Laws of bytes that are answered: what was fed and sent, the bytes of a read part by part, the end of the input, and a run of reads.
-- Rests on TurnLaws, PartLaws, and on session's FeedLaws and Cut.
use Rattle.std.specs.Prelude.{Ok, Err}
use Rattle.listing_rules.proofs.Prelude.{◌∙◌, ◌≡◌, ap, refl, subst, sym, Bool, false, not, true, List, [], ◌++◌, ◌+◌, ◌-◌, ◌<◌, ◌^◌, ◌≤◌, min, ℕ}
use Rattle.listing_rules.proofs.Prelude.{arith, drop, length, length-append, length-drop, take, length-take-le, take-add, take_all, take-take}
use Rattle.listing_rules.specs.Frames.{Session, start, fed_all, program_output}
use Rattle.session.specs.declared.State.{State}
use Rattle.kept_table.specs.Kept.{Lent, lent, kept_of}
use Rattle.session.specs.Feeding.{start_is, ready, ready_in, Holds, Finishes}
use Rattle.session.proofs.FeedLaws.{sizes, ready_again, holds_start}
use Rattle.session.proofs.Cut.{said_front}
use Rattle.luspemaro.specs.declared.calls.Got.{Got}
use Rattle.luspemaro.specs.declared.calls.Unsent.{Unsent}
use Rattle.luspemaro.specs.declared.calls.Got.TheVariants.{Bytes}
use Rattle.luspemaro.specs.Calling.{GotSome, Sent, is_whole, Sends}
use Rattle.luspemaro.specs.declared.feeding.Turn.{Turn}
use Rattle.luspemaro.specs.declared.serving.Place.{Place}
use Rattle.luspemaro.specs.declared.serving.Round.{Round}
use Rattle.luspemaro.proofs.TurnLaws.{frames_append}
use Rattle.luspemaro.proofs.PartLaws.{through_none, through_part, through_append, in_turn_says}
use Rattle.luspemaro.specs.Serving.{place_made, Sized, frames_in, Turns, Rounds, Serves, Ends, ReadsOn, Memory, memory, HoldsIn, Part, input_of}
use Rattle.luspemaro.specs.Serving.{Through, Finished, Ran}

-- bytes that were read, one at least, lie in the buffer
pub got : {room n : ℕ} {r : Got} → GotSome room r → r ≡ Bytes n → (0 < n) × (n ≤ room)
got {room} x e = subst (GotSome room) e x

-- a ready memory has room for a line
pub room_of : (d : Lent) (line : List ℕ) (st : State) → ready_in d line st ≡ true → 32771 ≤ length d.out
room_of d line st h = (sizes (length d.table) (length d.records) (length d.namespaces) (length line) (length d.out) st h).out

-- what no error came of was sent whole
pub whole_by : (r : Sent) → ((u : Unsent) → r ≡ Err u → ⊥) → is_whole r ≡ true
whole_by (Ok n) h = refl
whole_by (Err u) h = absurd (h u refl)

-- what was fed was sent
pub rounds : {bytes : List ℕ} {d e : Lent} {line line' : List ℕ} {st : State} {t : Turn} {sent : Sent} → Turns bytes d e line line' st t →
    Sends t.written sent → Rounds bytes d e line line' st (record { state = t.state; used = t.used; frames = t.frames; sent = sent })
rounds {e = e} {t = t} x y =
    record {
      inside = x.inside;
      holds = λ s h. (x.came s h).holds;
      sent = λ w s h. ap (λ (n : ℕ). take n e.out) (y.1 w) ∙ (x.came s h).answers;
      frames = x.frames;
      onward = x.onward;
      ready_on = x.ready_on;
    }

-- and so is the end of the input
pub ends : {o p : List ℕ} {st : State} {n : ℕ} (r : Sent) → 32771 ≤ length o → Finishes o p st n → Sends n r → Ends p st r
ends {p = p} r room f y w d line s h =
    let z = f.says d line s h in
    ap (λ (n : ℕ). take n p) (y.1 w) ∙ said_front z (omega (arith, z.fits))

-- the state is held whatever the output is
other_out : {d e : Lent} {line : List ℕ} {st : State} {s : Session} → e.table ≡ d.table → e.records ≡ d.records → e.namespaces ≡ d.namespaces →
    Holds d line st s → Holds e line st s
other_out {st = st} t w n h =
    record {
      table = (λ i. kept_of st.stored (t i) (w i)) ∙ h.table;
      namespaces = ap (take st.stored.namespaces) n ∙ h.namespaces;
      frame = h.frame;
    }

-- Where the loop of `serve` stands: the first `at` of the bytes are answered.
pub record Along (bytes : List ℕ) (d : Lent) (line : List ℕ) (st : State) (f : ℕ) (e : Lent) (line' : List ℕ) (st' : State) (f' at : ℕ) : Type 0 where
  pub inside : at ≤ length bytes
  pub counted : f' ≡ min (f + frames_in (take at bytes)) (2 ^ 64 - 1)
  pub through : Through (take at bytes) (memory d line st) (memory e line' st')
  pub ready_on : ready_in e line' st' ≡ true
  pub table : length e.table ≡ length d.table
  pub records : length e.records ≡ length d.records
  pub namespaces : length e.namespaces ≡ length d.namespaces
  pub digits : length line' ≡ length line
  pub out : length e.out ≡ length d.out

pub along_none : (bytes : List ℕ) (d : Lent) (line : List ℕ) (st : State) (f : ℕ) → f < 2 ^ 64 → ready_in d line st ≡ true →
    Along bytes d line st f d line st f 0
unfolding frames_in
along_none bytes d line st f k h =
    record {
      inside = omega arith;
      counted = omega arith;
      through = through_none (memory d line st);
      ready_on = h;
      table = refl;
      records = refl;
      namespaces = refl;
      digits = refl;
      out = refl;
    }

module _ {bytes : List ℕ} {d : Lent} {line : List ℕ} {st : State} {f : ℕ} {e : Lent} {line' : List ℕ} {st' : State} {f' at : ℕ}
    (p : Along bytes d line st f e line' st' f' at) where
  -- the bytes that are left
  abbrev left : List ℕ
  left = take (length bytes - at) (drop at bytes)

  left_length : length left ≡ length bytes - at
  left_length = length-take-le (length bytes - at) (drop at bytes) (omega (arith, length-drop at bytes))

  -- a round takes a byte at least, and none after the last
  pub along_takes : {e' : Lent} {line'' : List ℕ} {r : Round} → at < length bytes → Rounds left e e' line' line'' st' r →
      (at + r.used ≤ length bytes) × (0 < r.used)
  along_takes less x = (omega (arith, x.inside, left_length), x.onward (omega (arith, left_length)))

  -- a round whose answers were sent whole is a part more
  pub along_more : (e' : Lent) (line'' : List ℕ) (r : Round) → at < length bytes → Rounds left e e' line' line'' st' r → is_whole r.sent ≡ true →
      length e'.table ≡ length e.table → length e'.records ≡ length e.records → length e'.namespaces ≡ length e.namespaces →
      length line'' ≡ length line' → length e'.out ≡ length e.out → (f'' : ℕ) → f'' ≡ min (f' + r.frames) (2 ^ 64 - 1) →
      Along bytes d line st f e' line'' r.state f'' (at + r.used)
  along_more e' line'' r less x w t u m l o f'' q =
      let taken : take (at + r.used) bytes ≡ take at bytes ++ take r.used left = take-add at r.used bytes ∙ ap
      (λ (l : List ℕ). take at bytes ++ l) (sym (take-take r.used (length bytes - at) (drop at bytes)
      (omega (arith, x.inside, left_length)))) in
      let part : Part = record { bytes = take r.used left; left = memory e' line'' r.state; sent = r.sent } in
      record {
        inside = omega (arith, x.inside, left_length);
        counted = omega (arith, q, p.counted, x.frames, ap frames_in taken, frames_append (take at bytes) (take r.used left));
        through =
            subst (λ (l : List ℕ). Through l (memory d line st) (memory e' line'' r.state)) (sym taken)
            (through_part part p.through (record { holds = x.holds; says = x.sent w; whole = w }));
        ready_on = x.ready_on;
        table = t ∙ p.table;
        records = u ∙ p.records;
        namespaces = m ∙ p.namespaces;
        digits = l ∙ p.digits;
        out = o ∙ p.out;
      }

  -- all are answered
  pub serves_all : (q : Place) → q.state ≡ st → q.frames ≡ f → length bytes ≤ at → Serves bytes d e line line' q (place_made st' f' true false)
  serves_all q same so-many all =
      let whole : take at bytes ≡ bytes = take_all at bytes all in
      let answered = subst (λ (l : List ℕ). Through l (memory d line st) (memory e line' st')) whole p.through in
      record {
        answers = λ g. subst (λ (y : State). Through bytes (memory d line y) (memory e line' st')) (sym same) answered;
        frames = λ g. omega (arith, p.counted, so-many, ap frames_in whole);
        onward = refl;
        ready_on = p.ready_on;
      }

-- a call failed
not_so : true ≡ false → ⊥
not_so e = let z : ◌≡◌ {A = ℕ} 0 1 = cc in absurd (omega arith)

pub serves_none : {e : Lent} {line' : List ℕ} {st : State} (bytes : List ℕ) (d : Lent) (line : List ℕ) (q : Place) (frames : ℕ) →
    ready_in e line' st ≡ true → Serves bytes d e line line' q (place_made st frames false true)
serves_none bytes d line q frames r = record { answers = λ f. absurd (not_so f); frames = λ f. absurd (not_so f); onward = refl; ready_on = r }

-- one read: its bytes, the end of the input, or a failure
pub reads_bytes : {bytes : List ℕ} {d e : Lent} {line line' : List ℕ} {p r : Place} → Serves bytes d e line line' p r → 0 < length bytes →
    ReadsOn d e line line' p r
reads_bytes {bytes} x h =
    record {
      reads = λ m. (bytes, (h, x));
      ends = λ m f. absurd (not_so (sym (x.onward ∙ ap not f) ∙ m));
      ready_on = x.ready_on;
    }

module _ (d : Lent) (line : List ℕ) (p : Place) (o : List ℕ) (r : ready_in d line p.state ≡ true) (same : length o ≡ length d.out) where
  -- the output may have changed
  abbrev then : Lent
  then = lent d.table d.records d.namespaces o

  ready_then : ready_in then line p.state ≡ true
  ready_then =
      subst (λ (n : ℕ). ready (length d.table) (length d.records) (length d.namespaces) (length line) n p.state ≡ true) (sym same) r

  pub reads_end : (frames : ℕ) (sent : Sent) → Ends o p.state sent → is_whole sent ≡ true →
      ReadsOn d then line line p (place_made p.state frames false false)
  reads_end frames sent e w =
      record {
        reads = λ m. absurd (not_so (sym m));
        ends =
            λ m f.
            record { sent = sent; holds = λ s h. other_out {d = d} {e = then} refl refl refl h; says = λ s h. e w d line s h; whole = w };
        ready_on = ready_then;
      }

  pub reads_none : (frames : ℕ) → ReadsOn d then line line p (place_made p.state frames false true)
  reads_none frames = record { reads = λ m. absurd (not_so (sym m)); ends = λ m f. absurd (not_so f); ready_on = ready_then }

-- Where the program stands between two reads: some input was answered, of a byte at least for each turn; or it has ended.
pub record Stands (m : Memory) (d : Lent) (line : List ℕ) (p : Place) (turns : ℕ) : Type 0 where
  pub going : p.more ≡ true → (input : List ℕ) × (Through input m (memory d line p.state) × (2 ^ 64 - 1 ≤ turns + length input))
  pub ended : p.more ≡ false → p.failed ≡ false → Ran m (memory d line p.state) false
  pub ready_on : ready_in d line p.state ≡ true

pub stands_first : (d : Lent) (line : List ℕ) → Sized d line → Stands (memory d line start_is) d line (place_made start_is 0 true false) (2 ^ 64 - 1)
stands_first d line z =
    record {
      going = λ m. ([], (through_none (memory d line start_is), omega arith));
      ended = λ m f. absurd (not_so m);
      ready_on = ready_again (length d.table) (length d.records) (length d.namespaces) (length line) (length d.out) start_is
          (record {
            table = z.table;
            records = z.records;
            namespaces = z.namespaces;
            line = z.digits;
            out = z.out;
            rows = omega arith;
            entries = omega arith;
            digits = refl;
          });
    }

-- the session after all that was answered, from the start
holds_after : {input : List ℕ} {d : Lent} {line : List ℕ} {n : Memory} (t : Through input (memory d line start_is) n) →
    HoldsIn n (fed_all start (input_of t.parts)).session
holds_after {d = d} {line = line} t =
    subst (λ (z : Memory). HoldsIn z (fed_all start (input_of t.parts)).session) t.left
    (in_turn_says (memory d line start_is) t.parts t.in_turn start (holds_start d line)).0

-- the end of the input, after all that was answered: what was sent is what document 01 has the program answer
ran : {input : List ℕ} {d : Lent} {line : List ℕ} {n k : Memory} → Through input (memory d line start_is) n → Finished n k →
    Ran (memory d line start_is) k false
unfolding program_output
ran {d = d} {line = line} t f =
    let held = holds_after t in
    let says = (in_turn_says (memory d line start_is) t.parts t.in_turn start (holds_start d line)).1 in
    record {
      parts = t.parts;
      in_turn = t.in_turn;
      holds = f.holds _ held;
      end = λ e. (f.sent, (f.whole, λ i. says i ++ f.says _ held i));
      long = λ e. absurd (not_so (sym e));
    }

goes_on_lem : (failed : Bool) → true ≡ not failed → failed ≡ false
goes_on_lem true e = absurd (not_so e)
goes_on_lem false e = refl

pub stands_on : {d₀ d e : Lent} {line₀ line line' : List ℕ} {p r : Place} {turns : ℕ} → Stands (memory d₀ line₀ start_is) d line p turns →
    p.more ≡ true →
    (rest : ℕ) → turns ≡ rest + 1 → ReadsOn d e line line' p r → Stands (memory d₀ line₀ start_is) e line' r rest
stands_on {r = r} st m rest less x =
    let before = st.going m in
    record {
      going =
          λ k.
          let b = x.reads k in (
            before.0 ++ b.0,
            (
              through_append before.1.0 (b.1.1.answers (goes_on_lem r.failed (sym k ∙ b.1.1.onward))),
              omega (arith, before.1.1, b.1.0, length-append before.0 b.0, less),
            ),
          );
      ended = λ k f. ran before.1.0 (x.ends k f);
      ready_on = x.ready_on;
    }

-- the loop ends: with the input, or when no turn is left
pub stands_ran : {d₀ d : Lent} {line₀ line : List ℕ} {p : Place} {turns : ℕ} → Stands (memory d₀ line₀ start_is) d line p turns →
    (p.more ≡ true → turns ≡ 0) →
    p.failed ≡ false → Ran (memory d₀ line₀ start_is) (memory d line p.state) p.more
stands_ran {d₀} {d} {line₀} {line} {p} {turns} st last f = go p.more refl
  where
    go : (more : Bool) → p.more ≡ more → Ran (memory d₀ line₀ start_is) (memory d line p.state) more
    go false e = st.ended e f
    go true e =
        let g = st.going e in
        let t = g.1.0 in
        record {
          parts = t.parts;
          in_turn = t.in_turn;
          holds = holds_after t;
          end = λ k. absurd (not_so k);
          long = λ k. omega (arith, g.1.1, last e, ap length t.input);
        }
