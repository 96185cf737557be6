-- How a log is cut into pieces makes no difference: the calls of `feed` and of `finish` come to what document 02 says of the whole log. And a piece is
-- not refused where the memory is long enough. Rests on FeedLaws, WholeLaws and ReplayPieces of listing_rules.
use Rattle.listing_rules.proofs.Prelude.{◌∙◌, ◌≡◌, ap, refl, subst, sym, Bool, ◌||◌, false, or-true, true, List, [], ◌∷◌, ◌+◌, ◌-◌, ◌<◌, ◌^◌, ◌≤◌, ℕ}
use Rattle.listing_rules.proofs.Prelude.{arith, eqb, ltb, length, eq-eqb, le-leb, lt-ltb, ltb-false}
use Rattle.listing_rules.specs.Lists.{joined}
use Rattle.listing_rules.specs.Replay.{Replayed as Meant, Replaying, replay_start, replay_all, replay_end, replay, reporting}
use Rattle.listing_rules.proofs.ReplayPieces.{replay_cut, replay_in_pieces}
use Rattle.replay.specs.declared.Replaying.{Replaying as State}
use Rattle.replay.specs.declared.verdict.Verdict.{Verdict}
use Rattle.replay.specs.Holding.{Memory, table_in, due_as, Holds, Goes}
use Rattle.replay.specs.Reports.{verdict_is, Finishes}
use Rattle.replay.specs.Feeding.{start_is, ready_in}
use Rattle.replay.specs.Cutting.{Call, LentAgain, Calls, chunks_of, state_after, memory_after}
use Rattle.replay.proofs.FeedLaws.{sized}
use Rattle.replay.proofs.WholeLaws.{holds_start}

-- memory that is lent again holds the same replay
holds_again : {d e : Memory} {st : State} {r : Replaying} → LentAgain st d e → Holds d st r → Holds e st r
holds_again a h =
    record {
      frames = h.frames;
      due = h.due ∙ ap due_as (sym a.pending);
      first = h.first;
      stop = h.stop;
      left = h.left ∙ sym a.table;
      partial = h.partial ∙ sym a.line;
    }

-- the state lies within the memory, and can count a frame more
pub record Inside (d : Memory) (st : State) : Type 0 where
  pub due : st.due ≤ length d.pending
  pub gathered : st.gathered ≤ length d.line
  pub frames : st.frames < 2 ^ 64 - 1

inside_after : {spaces chunk : List ℕ} {d e : Memory} {st su : State} → ready_in d chunk st ≡ true → Goes spaces chunk d e st su → Inside e su
inside_after {spaces} {chunk} {d} {e} {st} {su} h g =
    let z = sized (length d.pending) (length d.line) (length chunk) st h in
    record {
      due = omega (arith, g.due_inside, g.pending_long, z.room);
      gathered = omega (arith, g.gathered_inside, g.line_long, z.long);
      frames = omega (arith, g.counted, z.count);
    }

-- what calls come to
abbrev Come : List ℕ → Replaying → List ℕ → Memory → State → Type 0
Come spaces r log d st = Holds d st (replay_all spaces r log) × Inside d st

calls_come : (spaces : List ℕ) (xs : List Call) (st : State) (d : Memory) (r : Replaying) → Holds d st r → Inside d st → Calls spaces st d xs
    → Come spaces r (joined (chunks_of xs)) (memory_after d xs) (state_after st xs)
unfolding state_after memory_after joined
calls_come spaces [] st d r h i c = (unfold replay_all in h, i)
calls_come spaces (x ∷ xs) st d r h i c =
    subst (λ (y : Replaying). Holds (memory_after x.after xs) (state_after x.state xs) y × Inside (memory_after x.after xs) (state_after x.state xs))
    (sym (replay_cut spaces r x.chunk (joined (chunks_of xs))))
    (calls_come spaces xs x.state x.after (replay_all spaces r x.chunk) (c.1.1.holds r (holds_again c.0 h))
    (inside_after c.1.0 c.1.1) c.2)

-- Theorem: the verdict and the table at the end are those of the whole log, however it was cut.
pub cut_anyhow : (spaces : List ℕ) (d : Memory) (rows : ℕ) (xs : List Call) → Calls spaces (start_is rows) d xs
    → (v : Verdict) → Finishes (state_after (start_is rows) xs) v
    → (v ≡ verdict_is (replay (table_in d rows) spaces (joined (chunks_of xs))).verdict)
    × (table_in (memory_after d xs) (state_after (start_is rows) xs).rows ≡ (replay (table_in d rows) spaces (joined (chunks_of xs))).left)
cut_anyhow spaces d rows xs c v f = (
  f.means (memory_after d xs) came w.0 w.1.due w.1.gathered w.1.frames ∙ ap (λ (m : Meant). verdict_is m.verdict) whole,
  sym w.0.left ∙ (unfold replay_end reporting in ap (λ (m : Meant). m.left) whole),
)
  where
    log : List ℕ
    log = joined (chunks_of xs)

    came : Replaying
    came = replay_all spaces (replay_start (table_in d rows)) log

    w : Come spaces (replay_start (table_in d rows)) log (memory_after d xs) (state_after (start_is rows) xs)
    w = calls_come spaces xs (start_is rows) d (replay_start (table_in d rows)) (holds_start d rows)
        (record { due = omega arith; gathered = omega arith; frames = omega arith }) c

    whole : replay_end came ≡ replay (table_in d rows) spaces log
    whole = replay_in_pieces (table_in d rows) spaces log

-- Theorem: lent the same memory, the next piece is not refused, as long as the frames can be counted that so many bytes might end.
pub ready_next : {spaces chunk : List ℕ} {d e : Memory} {st su : State} → ready_in d chunk st ≡ true → Goes spaces chunk d e st su → (next : List ℕ)
    → st.frames + length chunk + length next < 2 ^ 64 - 1 → ready_in e next su ≡ true
ready_next {spaces} {chunk} {d} {e} {st} {su} h g next few =
    let z = sized (length d.pending) (length d.line) (length chunk) st h in
    rw (
      le-leb 2050 (length e.pending) (omega (arith, z.room, g.pending_long)),
      le-leb 32771 (length e.line) (omega (arith, z.long, g.line_long)),
      le-leb su.due 2050 g.due_inside,
      counted_due (ltb 0 su.frames) refl,
      le-leb su.gathered 32771 g.gathered_inside,
    ) (lt-ltb su.frames (2 ^ 64 - 1 - length next) (omega (arith, few, g.counted)))
  where
    counted_due : (b : Bool) → ltb 0 su.frames ≡ b → (eqb su.due 0 || ltb 0 su.frames) ≡ true
    counted_due true q = ap (λ (b : Bool). eqb su.due 0 || b) q ∙ or-true (eqb su.due 0)
    counted_due false q = ap (λ (b : Bool). b || ltb 0 su.frames) (eq-eqb su.due 0 (omega (arith, g.due_counted, ltb-false 0 su.frames q)))
