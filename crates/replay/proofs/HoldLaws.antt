-- Bytes of a log that were taken, one run after the other; none; and any after a stop. Rests on ReplayPieces of listing_rules.
use Rattle.listing_rules.proofs.Prelude.{◌∙◌, ◌≡◌, ap, refl, sym, true, Option, none, some, List, [], ◌++◌, ◌∷◌, ◌*◌, ◌≤◌, min, ℕ, arith, drop}
use Rattle.listing_rules.proofs.Prelude.{length-append}
use Rattle.listing_rules.specs.Replay.{Replaying, replay_on, replay_byte, replay_all}
use Rattle.listing_rules.proofs.ReplayPieces.{replay_cut}
use Rattle.replay.specs.declared.Replaying.{Replaying as State}
use Rattle.replay.specs.Running.{TableMemory, lent_rows, TableKept}
use Rattle.replay.specs.Holding.{Memory, table_of, stop_as, Holds, Notes, notes_of, note_on, note_byte, notes_after, Goes}

notes_cut : (spaces : List ℕ) (r : Replaying) (n : Notes) (a b : List ℕ)
    → notes_after spaces r n (a ++ b) ≡ notes_after spaces (replay_all spaces r a) (notes_after spaces r n a) b
unfolding notes_after replay_all
notes_cut spaces r n [] b = refl
notes_cut spaces r n (c ∷ a) b = notes_cut spaces (replay_byte spaces r c) (note_byte r n c) a b

-- a table that is kept twice is kept
kept_then : {d e f : TableMemory} → TableKept d e → TableKept e f → TableKept d f
kept_then {d} {e} {f} x y =
    let lent : lent_rows e ≡ lent_rows d = λ i. min (x.words_long i) (min (x.words_long i) (x.sums_long i)) in
    record {
      words_after_lem = ap (λ (n : ℕ). drop n f.words) (sym lent) ∙ y.words_after_lem ∙ ap (λ (n : ℕ). drop n e.words) lent ∙ x.words_after_lem;
      sums_after_lem = ap (λ (n : ℕ). drop n f.sums) (sym lent) ∙ y.sums_after_lem ∙ ap (λ (n : ℕ). drop n e.sums) lent ∙ x.sums_after_lem;
      words_long = y.words_long ∙ x.words_long;
      sums_long = y.sums_long ∙ x.sums_long;
      area_long = y.area_long ∙ x.area_long;
    }

pub kept_same : (d : TableMemory) → TableKept d d
kept_same d = record { words_after_lem = refl; sums_after_lem = refl; words_long = refl; sums_long = refl; area_long = refl }

pub goes_then : {spaces a b : List ℕ} {d e f : Memory} {st su sv : State} → Goes spaces a d e st su → Goes spaces b e f su sv
    → Goes spaces (a ++ b) d f st sv
goes_then {spaces} {a} {b} {d} {e} {f} {st} {su} {sv} x y =
    record {
      holds = λ r h. rw (replay_cut spaces r a b) (y.holds (replay_all spaces r a) (x.holds r h));
      notes =
          λ r h.
          y.notes (replay_all spaces r a) (x.holds r h)
          ∙ ap (λ (n : Notes). notes_after spaces (replay_all spaces r a) n b) (x.notes r h)
          ∙ sym (notes_cut spaces r (notes_of d) a b);
      kept = kept_then x.kept y.kept;
      pending_long = y.pending_long ∙ x.pending_long;
      line_long = y.line_long ∙ x.line_long;
      due_inside = y.due_inside;
      due_counted = y.due_counted;
      gathered_inside = y.gathered_inside;
      counted = omega (arith, x.counted, y.counted, length-append a b);
    }

-- where the state lies within the memory, no byte, and any bytes after a stop, leave all as it is
module _ (spaces : List ℕ) (d : Memory) (st : State) (due : st.due ≤ 2050) (asked : st.due ≤ 2050 * st.frames) (few : st.gathered ≤ 32771) where
  left_alone : (bytes : List ℕ) → ((r : Replaying) → Holds d st r → replay_all spaces r bytes ≡ r)
      → ((r : Replaying) → Holds d st r → notes_after spaces r (notes_of d) bytes ≡ notes_of d) → Goes spaces bytes d d st st
  left_alone bytes same alike =
      record {
        holds = λ r h. rw (same r h) h;
        notes = λ r h. sym (alike r h);
        kept = kept_same (table_of d);
        pending_long = refl;
        line_long = refl;
        due_inside = due;
        due_counted = asked;
        gathered_inside = few;
        counted = omega arith;
      }

  pub goes_none : Goes spaces [] d d st st
  goes_none = left_alone [] (λ r h. unfold replay_all in refl) (λ r h. unfold notes_after in refl)

  stays : (r : Replaying) (k : ℕ) → r.stop ≡ some k → (bytes : List ℕ) → replay_all spaces r bytes ≡ r
  unfolding replay_all
  stays r k e [] = refl
  stays r k e (c ∷ t) = ap (λ (x : Replaying). replay_all spaces x t) one ∙ stays r k e t
    where
      one : replay_byte spaces r c ≡ r
      one = unfold replay_byte in ap (λ (o : Option ℕ). elim o [ none ↦ replay_on spaces r c | some j ↦ r ]) e

  unwritten : (r : Replaying) (k : ℕ) → r.stop ≡ some k → (n : Notes) (bytes : List ℕ) → notes_after spaces r n bytes ≡ n
  unfolding notes_after
  unwritten r k e n [] = refl
  unwritten r k e n (c ∷ t) =
      (λ i. notes_after spaces (same i) (one i) t) ∙ unwritten r k e n t
    where
      same : replay_byte spaces r c ≡ r
      same = unfold replay_byte in ap (λ (o : Option ℕ). elim o [ none ↦ replay_on spaces r c | some j ↦ r ]) e

      one : note_byte r n c ≡ n
      one = unfold note_byte in ap (λ (o : Option ℕ). elim o [ none ↦ note_on r n c | some j ↦ n ]) e

  pub goes_stopped : st.stopped ≡ true → (bytes : List ℕ) → Goes spaces bytes d d st st
  goes_stopped s bytes =
      left_alone bytes (λ r h. stays r st.frames (held r h) bytes) (λ r h. unwritten r st.frames (held r h) (notes_of d) bytes)
    where
      held : (r : Replaying) → Holds d st r → r.stop ≡ some st.frames
      held r h = unfold stop_as in h.stop ∙ rw s
