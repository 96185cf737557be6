-- A replay between two pieces as a state: memory holds the replay that the state resumes, and the state is its own again after the piece. Rests on
-- FeedLaws.
use Rattle.std.specs.Prelude.{Option, Some, None}
use Rattle.listing_rules.proofs.Prelude.{◌∙◌, ◌≡◌, ap, refl, subst, sym, Bool, cond, false, true, none, some, List, [], ◌∷◌, ◌-◌, ◌<◌, ◌^◌, ◌≤◌, min}
use Rattle.listing_rules.proofs.Prelude.{ℕ, arith, eqb, length, length-take, length-take-le, take, take_all, eqb-true}
use Rattle.listing_rules.specs.Replay.{all_agree, Replaying, replay_all, replay_end}
use Rattle.replay.specs.declared.Replaying.{Replaying as State}
use Rattle.replay.specs.declared.verdict.Verdict.{Verdict}
use Rattle.replay.specs.Holding.{Memory, table_in, first_as, due_as, stop_as, Holds, Notes, notes_of, notes_after, Goes}
use Rattle.replay.specs.Reports.{verdict_is, Finishes}
use Rattle.replay.specs.Feeding.{ready_in, FeedIs}
use Rattle.replay.specs.Resuming.{first_number, due_length, has_stopped, state_of, resumed, Pieced, pieced, pieced_in, is_taken, verdict_then, state_then, Resumes}
use Rattle.replay.proofs.FeedLaws.{Sized, sized}

-- each number comes back
first_back : (n : ℕ) → first_number (first_as n) ≡ n
unfolding first_as
first_back n = go (eqb n 0) refl
  where
    go : (b : Bool) → eqb n 0 ≡ b → first_number (cond b none (some n)) ≡ n
    go true q = unfold first_number in sym (eqb-true n 0 q)
    go false q = unfold first_number in refl

due_back : (xs : List ℕ) → due_length (due_as xs) ≡ length xs
unfolding due_length due_as
due_back [] = refl
due_back (r ∷ l) = refl

stop_back : (b : Bool) (k : ℕ) → has_stopped (stop_as b k) ≡ b
unfolding has_stopped stop_as
stop_back true k = refl
stop_back false k = refl

partial_back : (p line : List ℕ) (g : ℕ) → take 32771 p ≡ take g line → g ≤ length line → min 32771 (length p) ≡ g
partial_back p line g h l = sym (length-take 32771 p) ∙ ap length h ∙ length-take-le g line l

-- the state of a replay that memory and a state hold is that state
pub state_held : (d : Memory) (st : State) (x : Replaying) → Holds d st x → st.due ≤ length d.pending → st.gathered ≤ length d.line
    → st ≡ state_of x
unfolding state_of
state_held d st x h due line =
    sym
    (λ i. record {
      frames = h.frames i;
      first = first i;
      due = due_same i;
      stopped = stop i;
      gathered = partial_back x.partial d.line st.gathered h.partial line i;
      rows = (h.left i).store.count;
    })
  where
    first : first_number x.first ≡ st.first
    first = ap first_number h.first ∙ first_back st.first

    due_same : due_length x.due ≡ st.due
    due_same = ap due_length h.due ∙ due_back (take st.due d.pending) ∙ length-take-le st.due d.pending due

    stop : has_stopped x.stop ≡ st.stopped
    stop = ap has_stopped h.stop ∙ stop_back st.stopped st.frames

-- memory holds the replay that the state resumes
holds_resumed : (d : Memory) (st : State) → st.gathered ≤ 32771 → Holds d st (resumed (table_in d st.rows) st d.pending d.line)
unfolding resumed
holds_resumed d st few =
    record {
      frames = refl;
      due = refl;
      first = refl;
      stop = refl;
      left = refl;
      partial = take_all 32771 (take st.gathered d.line) (omega (arith, few, length-take st.gathered d.line));
    }

module _ (spaces piece : List ℕ) (d : Memory) (st : State) where
  abbrev begins : Replaying
  begins = resumed (table_in d st.rows) st d.pending d.line

  abbrev refused : Pieced
  refused = record { taken = false; verdict = all_agree; left = table_in d st.rows; state = st; pending = d.pending; line = d.line }

  abbrev taken : Pieced
  taken =
      let next = replay_all spaces begins piece in
      let notes = notes_after spaces begins (notes_of d) piece in
      record {
        taken = true;
        verdict = (replay_end next).verdict;
        left = next.left;
        state = state_of next;
        pending = notes.pending;
        line = notes.line;
      }

  so : (b : Bool) → ready_in d piece st ≡ b → pieced_in d spaces st piece ≡ cond b taken refused
  so b h = unfold pieced in ap (λ (x : Bool). cond x taken refused) h

  -- a piece that is refused leaves all as it is
  left_so : ready_in d piece st ≡ false → Resumes spaces piece d d st None
  unfolding verdict_is is_taken verdict_then state_then
  left_so h =
      let w = so false h in
      record {
        taken = sym (ap (λ (c : Pieced). c.taken) w);
        verdict = sym (ap (λ (c : Pieced). verdict_is c.verdict) w);
        state = sym (ap (λ (c : Pieced). c.state) w);
        left = sym (ap (λ (c : Pieced). c.left) w);
        pending = sym (ap (λ (c : Pieced). c.pending) w);
        line = sym (ap (λ (c : Pieced). c.line) w);
        kept = record { words_after_lem = refl; sums_after_lem = refl; words_long = refl; sums_long = refl; area_long = refl };
      }

  module _ (e : Memory) (r : Option State) (fed : FeedIs spaces piece d e st r) where
    pub piece_refused : r ≡ None → Resumes spaces piece d e st None
    piece_refused q =
        let x = subst (FeedIs spaces piece d e st) q fed in
        subst (λ (m : Memory). Resumes spaces piece d m st None) (sym x.1) (left_so x.0)

    pub piece_taken : (su : State) → r ≡ Some su → (v : Verdict) → Finishes su v
        → Resumes spaces piece d e st (Some (record { verdict = v; state = su }))
    unfolding is_taken verdict_then state_then
    piece_taken su q v x =
        record {
          taken = sym (ap (λ (c : Pieced). c.taken) w);
          verdict = x.means e next holds due gathered frames ∙ sym (ap (λ (c : Pieced). verdict_is c.verdict) w);
          state = state_held e su next holds due gathered ∙ sym (ap (λ (c : Pieced). c.state) w);
          left = sym holds.left ∙ sym (ap (λ (c : Pieced). c.left) w);
          pending = ap (λ (n : Notes). n.pending) notes ∙ sym (ap (λ (c : Pieced). c.pending) w);
          line = ap (λ (n : Notes). n.line) notes ∙ sym (ap (λ (c : Pieced). c.line) w);
          kept = g.kept;
        }
      where
        y : FeedIs spaces piece d e st (Some su)
        y = subst (FeedIs spaces piece d e st) q fed

        g : Goes spaces piece d e st su
        g = y.1

        z : Sized (length d.pending) (length d.line) (length piece) st
        z = sized (length d.pending) (length d.line) (length piece) st y.0

        w : pieced_in d spaces st piece ≡ taken
        w = so true y.0

        before : Holds d st begins
        before = holds_resumed d st z.few

        next : Replaying
        next = replay_all spaces begins piece

        holds : Holds e su next
        holds = g.holds begins before

        notes : notes_of e ≡ notes_after spaces begins (notes_of d) piece
        notes = g.notes begins before

        due : su.due ≤ length e.pending
        due = omega (arith, g.due_inside, g.pending_long, z.room)

        gathered : su.gathered ≤ length e.line
        gathered = omega (arith, g.gathered_inside, g.line_long, z.long)

        frames : su.frames < 2 ^ 64 - 1
        frames = omega (arith, g.counted, z.count)
