-- A whole log, and a piece of one, over words of which some are lent: what `replay` promises of those is what is promised of all. Rests on WordLaws and
-- LeftLaws.
use Rattle.listing_rules.proofs.Prelude.{◌∙◌, ◌≡◌, ap, refl, List, [], ◌++◌, map, min, ℕ, drop, length, take}
use Rattle.listing_rules.specs.Summary.{Summed}
use Rattle.listing_rules.specs.Replay.{Verdict, all_agree, differs, stopped, replay, replay_number, replay_frame}
use Rattle.records.specs.Words.{record_of}
use Rattle.records.specs.Numbers.{summary_of}
use Rattle.records.specs.Lent.{lent_of, word_summed}
use Rattle.records.specs.Stores.{Between}
use Rattle.replay.specs.declared.Replaying.{Replaying}
use Rattle.replay.specs.declared.whole.Replayed.{Replayed}
use Rattle.replay.specs.declared.piece.Piece.{Piece}
use Rattle.replay.specs.Running.{table, summed_in}
use Rattle.replay.specs.Holding.{memory}
use Rattle.replay.specs.Reports.{verdict_is, meant_by}
use Rattle.replay.specs.Whole.{Replays}
use Rattle.std.specs.Prelude.{Option as Maybe, Some, None, unwrap_or, is_some}
use Rattle.replay.specs.declared.verdict.Verdict.TheVariants.{Agrees}
use Rattle.replay.specs.Resuming.{Pieced, pieced, Resumes, is_taken, verdict_then, state_then}
use Rattle.exports.specs.Outcomes.{as_number}
use Rattle.exports.specs.declared.replaying.ReplayState.{ReplayState}
use Rattle.exports.specs.Replays.{HandedReplay, word_replay, replay_report, report_case, HandedPiece, word_piece, piece_report, fed_case, state_in}
use Rattle.exports.specs.Replays.{state_back}
use Rattle.exports.proofs.WordLaws.{summed_same}
use Rattle.exports.proofs.LeftLaws as left

-- the code's verdict means what it is the answer of
meant_back : (v : Verdict) → meant_by (verdict_is v) ≡ v
unfolding meant_by verdict_is
meant_back all_agree = refl
meant_back (differs k) = refl
meant_back (stopped k) = refl

-- what is read of a piece that may not have been taken
pub piece_then : (st : Replaying) (p : Maybe Piece) → unwrap_or p (record { verdict = Agrees; state = st }) ≡ record { verdict = verdict_then p; state = state_then st p }
unfolding verdict_then state_then
piece_then st None = refl
piece_then st (Some p) = refl

pub taken_is : (p : Maybe Piece) → is_some p ≡ is_taken p
unfolding is_taken
taken_is None = refl
taken_is (Some p) = refl

module _ (ws : List ℕ) (lent count : ℕ) (area sums spaces : List ℕ) (n : ℕ) (n-is : n ≡ min lent (length ws)) where
  abbrev few : Summed
  few = summed_in (table (take n ws) sums area) count

  abbrev all : Summed
  all = word_summed ws lent count area sums

  same : few ≡ all
  same = summed_same ws lent count 0 area sums spaces [] [] n n-is

  module _ (log es ts us : List ℕ) (r : Replayed) (x : Replays spaces log count (table (take n ws) sums area) (table es ts us) r) where
    abbrev D : HandedReplay
    D = word_replay ws lent count area sums spaces log

    at_end_lem : summed_in (table es ts us) r.count ≡ (replay all spaces log).left
    at_end_lem = x.left ∙ ap (λ (m : Summed). (replay m spaces log).left) same

    verdict_is_lem : meant_by r.verdict ≡ D.verdict
    verdict_is_lem = ap meant_by x.verdict ∙ meant_back (replay few spaces log).verdict ∙ ap (λ (m : Summed). (replay m spaces log).verdict) same

    pub report_is : report_case r ≡ replay_report D
    unfolding report_case replay_report
    report_is =
        λ i. record {
          number = replay_number (verdict_is_lem i);
          frame = replay_frame (verdict_is_lem i);
          count = left.count_is ws lent count area sums n n-is es ts us x.kept r.count (replay all spaces log).left at_end_lem i;
        }

    pub log_area : us ≡ D.area
    log_area = left.area_is ws lent count area sums n n-is es ts us x.kept r.count (replay all spaces log).left at_end_lem

    pub log_summary : map summary_of ts ≡ D.summary
    log_summary = left.summary_is ws lent count area sums n n-is es ts us x.kept r.count (replay all spaces log).left at_end_lem

    pub log_words : map record_of (take (lent_of ws lent sums) (es ++ drop n ws)) ≡ D.records
    log_words = left.words_are ws lent count area sums n n-is es ts us x.kept r.count (replay all spaces log).left at_end_lem

    pub log_moved : (to : ℕ) → to ≡ min n (length sums) → Between ws (es ++ drop n ws) (lent_of ws lent sums) 0 to
    log_moved = left.moved ws lent count area sums n n-is es ts us x.kept

  module _ (st : ReplayState) (held : Replaying) (held_is : held ≡ state_in st count) (pending line piece es ts us pending' line' : List ℕ) (r : Maybe Piece)
      (x : Resumes spaces piece (memory (take n ws) sums area pending line) (memory es ts us pending' line') held r) where
    abbrev E : HandedPiece
    E = word_piece ws lent count st area sums spaces pending line piece

    abbrev came : Pieced
    came = pieced all spaces (state_in st count) pending line piece

    came_so : pieced (summed_in (table (take n ws) sums area) held.rows) spaces held pending line piece ≡ came
    unfolding state_in
    came_so =
        (λ i. pieced (summed_in (table (take n ws) sums area) (held_is i).rows) spaces (held_is i) pending line piece)
        ∙ ap (λ (m : Summed). pieced m spaces (state_in st count) pending line piece) same

    after : summed_in (table es ts us) (state_then held r).rows ≡ came.left
    after = x.left ∙ ap (λ (c : Pieced). c.left) came_so

    said : meant_by (verdict_then r) ≡ came.verdict
    said = ap meant_by x.verdict ∙ meant_back _ ∙ ap (λ (c : Pieced). c.verdict) came_so

    state_is : state_then held r ≡ came.state
    state_is = x.state ∙ ap (λ (c : Pieced). c.state) came_so

    pub fed_is : fed_case held r ≡ piece_report E
    unfolding fed_case piece_report
    fed_is =
        λ i. record {
          taken = as_number ((x.taken ∙ ap (λ (c : Pieced). c.taken) came_so) i);
          number = replay_number (said i);
          frame = replay_frame (said i);
          count = left.count_is ws lent count area sums n n-is es ts us x.kept (state_then held r).rows came.left after i;
          state = state_back (state_is i);
        }

    pub piece_area : us ≡ E.area
    piece_area = left.area_is ws lent count area sums n n-is es ts us x.kept (state_then held r).rows came.left after

    pub piece_summary : map summary_of ts ≡ E.summary
    piece_summary = left.summary_is ws lent count area sums n n-is es ts us x.kept (state_then held r).rows came.left after

    pub piece_pending : pending' ≡ E.pending
    piece_pending = x.pending ∙ ap (λ (c : Pieced). c.pending) came_so

    pub piece_line : line' ≡ E.line
    piece_line = x.line ∙ ap (λ (c : Pieced). c.line) came_so

    pub piece_words : map record_of (take (lent_of ws lent sums) (es ++ drop n ws)) ≡ E.records
    piece_words = left.words_are ws lent count area sums n n-is es ts us x.kept (state_then held r).rows came.left after

    pub piece_moved : (to : ℕ) → to ≡ min n (length sums) → Between ws (es ++ drop n ws) (lent_of ws lent sums) 0 to
    piece_moved = left.moved ws lent count area sums n n-is es ts us x.kept
