-- A log over the words of records is the log over the records, and so is a piece of one: the words are copied in, and all that are lent are copied back.
-- Rests on StoreLaws of records, ReplaySpare of the definitions and PieceSpare of replay (records after the first 512 do not matter).
use Rattle.listing_rules.proofs.Prelude.{◌∙◌, ◌≡◌, ap, sym, List, ◌++◌, append_assoc, map, min, ℕ, drop, length, take}
use Rattle.listing_rules.specs.Records.{Record as Meant}
use Rattle.listing_rules.specs.Summary.{Summary, Summed}
use Rattle.listing_rules.specs.Replay.{Replayed, replay}
use Rattle.listing_rules.proofs.ReplaySpare.{report_more, replay_front}
use Rattle.records.specs.declared.Record.{Record}
use Rattle.records.specs.Words.{meant, record_of}
use Rattle.records.specs.Numbers.{summary_of}
use Rattle.records.specs.Lent.{lent_summed, lent_of, word_summed}
use Rattle.records.specs.Stores.{Between}
use Rattle.records.proofs.StoreLaws.{Copied, CopiedBack}
use Rattle.records.proofs.StoreLaws as stores
use Rattle.replay.specs.Resuming.{Pieced, pieced}
use Rattle.replay.proofs.PieceSpare.{piece_more, piece_front}
use Rattle.exports.specs.declared.replaying.ReplayState.{ReplayState}
use Rattle.exports.specs.Replays.{HandedReplay, lent_replay, word_replay, HandedPiece, lent_piece, word_piece, state_in}

-- what the log c over words hands back is what the log d over records hands back, and these are the records then
pub record ReplaysAlike (c d : HandedReplay) (rs : List Record) : Type 0 where
  pub verdict : c.verdict ≡ d.verdict
  pub count : c.count ≡ d.count
  pub area : c.area ≡ d.area
  pub records : map meant rs ≡ d.records
  pub summary : c.summary ≡ d.summary

-- the same of a piece
pub record PiecesAlike (c d : HandedPiece) (rs : List Record) : Type 0 where
  pub taken : c.taken ≡ d.taken
  pub verdict : c.verdict ≡ d.verdict
  pub state : c.state ≡ d.state
  pub count : c.count ≡ d.count
  pub area : c.area ≡ d.area
  pub records : map meant rs ≡ d.records
  pub summary : c.summary ≡ d.summary
  pub pending : c.pending ≡ d.pending
  pub line : c.line ≡ d.line

-- of the words us those between `start` and `to` became others, vs; the summary beside them is `sums`
module _ (rs : List Record) (xs us vs sums : List ℕ) (lent start to : ℕ) (lx : length xs ≡ 512) (lu : length us ≡ 512) (lv : length vs ≡ 512)
    (c : Copied (length sums) rs xs us lent) (count : ℕ) (area : List ℕ) where
  abbrev RS : List Meant
  RS = stores.RS rs xs us vs sums lent start to lx lu lv c

  abbrev MS : List Summary
  MS = stores.MS rs xs us vs sums lent start to lx lu lv c

  both : length RS ≡ length MS
  both = stores.both rs xs us vs sums lent start to lx lu lv c

  lent_is : lent ≡ min (length RS) 512
  lent_is = stores.lent_is rs xs us vs sums lent start to lx lu lv c

  word_is : word_summed us lent count area sums ≡ record
      { store = record { records = take lent RS; count = count; area = area }; summary = take lent MS }
  word_is = stores.word_is rs xs us vs sums lent start to lx lu lv c count area

  -- the records after the lent words, and the numbers after theirs
  module _ (left : Summed) where
    records_after_lem : map record_of (take lent vs) ≡ left.store.records → Between us vs lent start to → (rs' : List Record) →
        CopiedBack rs vs start to rs'
        → map meant rs' ≡ (left.store.records ++ drop lent RS) ++ drop (length sums) (map meant rs)
    records_after_lem e b rs' back =
        stores.back_are rs xs us vs sums lent start to lx lu lv c b rs' back
        ∙ (λ i. e i ++ sym (stores.records_rest rs xs us vs sums lent start to lx lu lv c count area) i)
        ∙ sym (append_assoc left.store.records (drop lent RS) (drop (length sums) (map meant rs)))

    summary_after : left.summary ++ drop (lent_of us lent sums) (map summary_of sums) ≡ (left.summary ++ drop lent MS) ++ drop (length rs)
        (map summary_of sums)
    summary_after =
        ap (λ (k : ℕ). left.summary ++ drop k (map summary_of sums)) (stores.whole rs xs us vs sums lent start to lx lu lv c)
        ∙ ap (λ (x : List Summary). left.summary ++ x) (sym (stores.numbers_rest rs xs us vs sums lent start to lx lu lv c count area))
        ∙ sym (append_assoc left.summary (drop lent MS) (drop (length rs) (map summary_of sums)))

  module _ (spaces log : List ℕ) where
    abbrev of_log : Replayed
    of_log = replay (word_summed us lent count area sums) spaces log

    front_log : replay (lent_summed rs count area sums) spaces log ≡ report_more (drop lent RS) (drop lent MS) of_log
    front_log =
        replay_front spaces RS MS lent both lent_is count area log
        ∙ ap (λ (m : Summed). report_more (drop lent RS) (drop lent MS) (replay m spaces log)) (sym word_is)

    pub replays : map record_of (take lent vs) ≡ (word_replay us lent count area sums spaces log).records → Between us vs lent start to
        → (rs' : List Record) → CopiedBack rs vs start to rs'
        → ReplaysAlike (word_replay us lent count area sums spaces log) (lent_replay rs count area sums spaces log) rs'
    replays e b rs' back =
        record {
          verdict = sym (ap (λ (x : Replayed). x.verdict) front_log);
          count = sym (ap (λ (x : Replayed). x.left.store.count) front_log);
          area = sym (ap (λ (x : Replayed). x.left.store.area) front_log);
          records =
              records_after_lem of_log.left e b rs' back
              ∙ ap (λ (x : Replayed). x.left.store.records ++ drop (length sums) (map meant rs)) (sym front_log);
          summary =
              summary_after of_log.left ∙ ap (λ (x : Replayed). x.left.summary ++ drop (length rs) (map summary_of sums)) (sym front_log);
        }

  module _ (st : ReplayState) (spaces pending line piece : List ℕ) where
    abbrev of_piece : Pieced
    of_piece = pieced (word_summed us lent count area sums) spaces (state_in st count) pending line piece

    front_piece : pieced (lent_summed rs count area sums) spaces (state_in st count) pending line piece ≡ piece_more (drop lent RS) (drop lent MS)
        of_piece
    front_piece =
        piece_front spaces RS MS lent both lent_is count area (state_in st count) pending line piece
        ∙ ap (λ (m : Summed). piece_more (drop lent RS) (drop lent MS) (pieced m spaces (state_in st count) pending line piece)) (sym word_is)

    pub feeds : map record_of (take lent vs) ≡ (word_piece us lent count st area sums spaces pending line piece).records → Between us vs lent start to
        → (rs' : List Record) → CopiedBack rs vs start to rs'
        → PiecesAlike (word_piece us lent count st area sums spaces pending line piece) (lent_piece rs count st area sums spaces pending line piece) rs'
    feeds e b rs' back =
        record {
          taken = sym (ap (λ (x : Pieced). x.taken) front_piece);
          verdict = sym (ap (λ (x : Pieced). x.verdict) front_piece);
          state = sym (ap (λ (x : Pieced). x.state) front_piece);
          count = sym (ap (λ (x : Pieced). x.left.store.count) front_piece);
          area = sym (ap (λ (x : Pieced). x.left.store.area) front_piece);
          records =
              records_after_lem of_piece.left e b rs' back
              ∙ ap (λ (x : Pieced). x.left.store.records ++ drop (length sums) (map meant rs)) (sym front_piece);
          summary =
              summary_after of_piece.left ∙ ap (λ (x : Pieced). x.left.summary ++ drop (length rs) (map summary_of sums)) (sym front_piece);
          pending = sym (ap (λ (x : Pieced). x.pending) front_piece);
          line = sym (ap (λ (x : Pieced). x.line) front_piece);
        }
