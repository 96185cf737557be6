-- The replay of a night over lent records (W14), and its report, its state and what comes of a piece in the forms that C takes.
use Rattle.std.specs.Prelude.{Option as Maybe, Bool, not, List, map, ◌++◌, ℕ, eqb, length, drop}
use Rattle.listing_rules.specs.Records.{Record as Meant}
use Rattle.listing_rules.specs.Summary.{Summary}
use Rattle.listing_rules.specs.Replay.{Verdict, Replayed, replay, replay_number, replay_frame}
use Rattle.records.specs.declared.Record.{Record}
use Rattle.records.specs.Words.{meant}
use Rattle.records.specs.Numbers.{summary_of}
use Rattle.records.specs.Lent.{lent_summed, lent_of, word_summed}
use Rattle.replay.specs.declared.Replaying.{Replaying}
use Rattle.replay.specs.declared.whole.Replayed.{Replayed as Came}
use Rattle.replay.specs.declared.piece.Piece.{Piece}
use Rattle.replay.specs.Reports.{meant_by}
use Rattle.replay.specs.Resuming.{Pieced, pieced, is_taken, verdict_then, state_then}
use Rattle.exports.specs.Outcomes.{as_number}
use Rattle.exports.specs.declared.replaying.Report.{Report}
use Rattle.exports.specs.declared.replaying.ReplayState.{ReplayState}
use Rattle.exports.specs.declared.replaying.FedPiece.{FedPiece}

-- ---- a whole log

-- What a replay hands back: its verdict, and the table at the end: how many records are rows, every byte of the area, every record, and every number of the
-- summary.
pub record HandedReplay : Type 0 where
  pub verdict : Verdict
  pub count : ℕ
  pub area : List ℕ
  pub records : List Meant
  pub summary : List Summary

-- the records and numbers after those that are lent stay
abbrev pub replayed_of : Replayed → List Meant → List Summary → HandedReplay
replayed_of r rest more =
    record {
      verdict = r.verdict;
      count = r.left.store.count;
      area = r.left.store.area;
      records = r.left.store.records ++ rest;
      summary = r.left.summary ++ more;
    }

abbrev pub lent_replay : List Record → ℕ → List ℕ → List ℕ → List ℕ → List ℕ → HandedReplay
lent_replay rs count area sums spaces log =
    replayed_of (replay (lent_summed rs count area sums) spaces log) (drop (length sums) (map meant rs)) (drop (length rs) (map summary_of sums))

-- over words, of which `lent` are lent: of the records, those that are
abbrev pub word_replay : List ℕ → ℕ → ℕ → List ℕ → List ℕ → List ℕ → List ℕ → HandedReplay
word_replay ws lent count area sums spaces log =
    let r = replay (word_summed ws lent count area sums) spaces log in
    record {
      verdict = r.verdict;
      count = r.left.store.count;
      area = r.left.store.area;
      records = r.left.store.records;
      summary = r.left.summary ++ drop (lent_of ws lent sums) (map summary_of sums);
    }

-- "that all agree", "the number of the first frame of 43 whose recorded answer differs", or 13 "and the number of that frame or that 43"
unfoldable pub replay_report : HandedReplay → Report
replay_report h = record { number = replay_number h.verdict; frame = replay_frame h.verdict; count = h.count }

unfoldable pub report_case : Came → Report
report_case r =
    record { number = replay_number (meant_by r.verdict); frame = replay_frame (meant_by r.verdict); count = r.count }

-- ---- in pieces

-- the state that C's stands for, over so many rows: `stopped` is yes for every number but 0
unfoldable pub state_in : ReplayState → ℕ → Replaying
state_in st count =
    record {
      frames = st.frames;
      first = st.first;
      due = st.due;
      stopped = not (eqb st.stopped 0);
      gathered = st.gathered;
      rows = count;
    }

-- and C's of a state
unfoldable pub state_back : Replaying → ReplayState
state_back st =
    record { frames = st.frames; first = st.first; due = st.due; gathered = st.gathered; stopped = as_number st.stopped }

-- What a piece hands back: whether it was taken, the verdict if the log ends with it, the state, the table, and every byte of the two buffers.
pub record HandedPiece : Type 0 where
  pub taken : Bool
  pub verdict : Verdict
  pub state : Replaying
  pub count : ℕ
  pub area : List ℕ
  pub records : List Meant
  pub summary : List Summary
  pub pending : List ℕ
  pub line : List ℕ

abbrev pub pieced_of : Pieced → List Meant → List Summary → HandedPiece
pieced_of c rest more =
    record {
      taken = c.taken;
      verdict = c.verdict;
      state = c.state;
      count = c.left.store.count;
      area = c.left.store.area;
      records = c.left.store.records ++ rest;
      summary = c.left.summary ++ more;
      pending = c.pending;
      line = c.line;
    }

abbrev pub lent_piece : List Record → ℕ → ReplayState → List ℕ → List ℕ → List ℕ → List ℕ → List ℕ → List ℕ → HandedPiece
lent_piece rs count st area sums spaces pending line piece =
    pieced_of (pieced (lent_summed rs count area sums) spaces (state_in st count) pending line piece) (drop (length sums) (map meant rs))
    (drop (length rs) (map summary_of sums))

abbrev pub word_piece : List ℕ → ℕ → ℕ → ReplayState → List ℕ → List ℕ → List ℕ → List ℕ → List ℕ → List ℕ → HandedPiece
word_piece ws lent count st area sums spaces pending line piece =
    let c = pieced (word_summed ws lent count area sums) spaces (state_in st count) pending line piece in
    record {
      taken = c.taken;
      verdict = c.verdict;
      state = c.state;
      count = c.left.store.count;
      area = c.left.store.area;
      records = c.left.store.records;
      summary = c.left.summary ++ drop (lent_of ws lent sums) (map summary_of sums);
      pending = c.pending;
      line = c.line;
    }

unfoldable pub piece_report : HandedPiece → FedPiece
piece_report h =
    record {
      taken = as_number h.taken;
      number = replay_number h.verdict;
      frame = replay_frame h.verdict;
      count = h.count;
      state = state_back h.state;
    }

-- from the state `st` on
unfoldable pub fed_case : Replaying → Maybe Piece → FedPiece
fed_case st p =
    record {
      taken = as_number (is_taken p);
      number = replay_number (meant_by (verdict_then p));
      frame = replay_frame (meant_by (verdict_then p));
      count = (state_then st p).rows;
      state = state_back (state_then st p);
    }
