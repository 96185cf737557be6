-- A whole log is one piece of it: from the first state, which any memory holds, to the end. Rests on ReplayPieces of listing_rules.
use Rattle.std.specs.Prelude.{Option, Some, None}
use Rattle.listing_rules.proofs.Prelude.{◌∙◌, ◌≡◌, ap, refl, subst, sym, false≢true, true, List, ◌-◌, ◌<◌, ◌^◌, ◌≤◌, ℕ, arith, length, le-leb}
use Rattle.listing_rules.proofs.Prelude.{lt-ltb}
use Rattle.listing_rules.specs.Replay.{Replayed as Meant, Replaying, replay_start, replay_all, replay_end, replay, reporting}
use Rattle.listing_rules.proofs.ReplayPieces.{replay_in_pieces}
use Rattle.replay.specs.declared.Replaying.{Replaying as State}
use Rattle.replay.specs.declared.verdict.Verdict.{Verdict}
use Rattle.replay.specs.Holding.{Memory, memory, table_in, first_as, due_as, stop_as, Holds, Goes}
use Rattle.replay.specs.Running.{table}
use Rattle.replay.specs.Reports.{verdict_is, Finishes}
use Rattle.replay.specs.Feeding.{start_is, ready, ready_in, FeedIs}
use Rattle.replay.specs.Whole.{Replays}

-- any memory holds the first state
pub holds_start : (d : Memory) (rows : ℕ) → Holds d (start_is rows) (replay_start (table_in d rows))
unfolding replay_start first_as due_as stop_as
holds_start d rows = record { frames = refl; due = refl; first = refl; stop = refl; left = refl; partial = refl }

-- and none is refused that is long enough
pub ready_start : (pending line chunk rows : ℕ) → 2050 ≤ pending → 32771 ≤ line → chunk < 2 ^ 64 - 1 → ready pending line chunk (start_is rows) ≡ true
ready_start pending line chunk rows p l c = rw (le-leb 2050 pending p, le-leb 32771 line l, lt-ltb 0 (2 ^ 64 - 1 - chunk) (omega (arith, c)))

module _ (spaces log words sums area pending line : List ℕ) (count : ℕ) (words' sums' area' pending' line' : List ℕ)
    (room : 2050 ≤ length pending) (long : 32771 ≤ length line) (few : length log < 2 ^ 64 - 1) (st : State) (begins : st ≡ start_is count)
    (r : Option State) (fed : FeedIs spaces log (memory words sums area pending line) (memory words' sums' area' pending' line') st r) where
  abbrev d : Memory
  d = memory words sums area pending line

  abbrev e : Memory
  e = memory words' sums' area' pending' line'

  f : FeedIs spaces log d e (start_is count) r
  f = subst (λ (s : State). FeedIs spaces log d e s r) begins fed

  is_ready : ready_in d log (start_is count) ≡ true
  is_ready = ready_start (length pending) (length line) (length log) count room long few

  pub never_refused : r ≡ None → ⊥
  never_refused q = false≢true (sym (subst (FeedIs spaces log d e (start_is count)) q f).0 ∙ is_ready)

  pub whole_taken : (su : State) → r ≡ Some su → (v : Verdict) → Finishes su v →
      Replays spaces log count (table words sums area) (table words' sums' area') (record { verdict = v; count = su.rows })
  whole_taken su q v x =
      record {
        verdict =
            x.means e came held (omega (arith, g.due_inside, g.pending_long, room)) (omega (arith, g.gathered_inside, g.line_long, long))
            (omega (arith, g.counted, few))
            ∙ ap (λ (m : Meant). verdict_is m.verdict) whole;
        left = sym held.left ∙ (unfold replay_end reporting in ap (λ (m : Meant). m.left) whole);
        kept = g.kept;
      }
    where
      g : Goes spaces log d e (start_is count) su
      g = (subst (FeedIs spaces log d e (start_is count)) q f).1

      came : Replaying
      came = replay_all spaces (replay_start (table_in d count)) log

      held : Holds e su came
      held = g.holds (replay_start (table_in d count)) (holds_start d count)

      whole : replay_end came ≡ replay (table_in d count) spaces log
      whole = replay_in_pieces (table_in d count) spaces log
