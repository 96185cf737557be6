-- What an entry over lent records hands back, and which records are there then: the words are made as zeros, copied in, worked on, and those that became
-- others are copied back. Rests on StoreLaws and WordsAlike of records, and on NumberedLaws and LentLaws.
use Rattle.listing_rules.proofs.Prelude.{◌∙◌, ◌≡◌, ap, subst, sym, ◌-◌, arith, drop, List, map, min, ℕ, length, take, replicate}
use Rattle.listing_rules.proofs.Alike.{Alike}
use Rattle.std.proofs.lemmas.List.{length-replicate}
use Rattle.records.specs.declared.Record.{Record}
use Rattle.records.specs.Words.{record_of, struct_of}
use Rattle.std.proofs.Math.Seq.{paste, paste-zero}
use Rattle.records.specs.Lent.{lent_of, lent_table, lent_seen, words_table, words_seen}
use Rattle.records.specs.Stores.{Between, lent_command, word_command, lent_compaction, word_compaction}
use Rattle.records.proofs.StoreLaws.{Copied, CopiedBack, Answers, Compacts}
use Rattle.records.proofs.StoreLaws as stores
use Rattle.records.proofs.WordsAlike.{SeenAlike}
use Rattle.records.proofs.WordsAlike as words
use Rattle.summary.specs.Counts.{numbered_table}
use Rattle.exports.specs.declared.replaying.ReplayState.{ReplayState}
use Rattle.exports.specs.Outcomes.{plain_table}
use Rattle.exports.specs.Replays.{lent_replay, word_replay, lent_piece, word_piece}
use Rattle.exports.proofs.NumberedLaws as numbered
use Rattle.exports.proofs.LentLaws.{ReplaysAlike, PiecesAlike}
use Rattle.exports.proofs.LentLaws as lents

-- the records are only read: n words are a table alike to theirs
module _ (rs : List Record) (xs us : List ℕ) (n count : ℕ) (area sums : List ℕ) (made : xs ≡ replicate 512 0) (c : Copied count rs xs us n) where
  copied_is : n ≡ min count (min (length rs) 512)
  copied_is = c.0 ∙ ap (λ (k : ℕ). min count (min (length rs) k)) (ap length made ∙ length-replicate {A = ℕ} 512 0)

  pub table_alike : Alike (words_table (take n us) count area sums) (lent_table rs count area sums)
  table_alike = words.words_alike rs us count area sums n copied_is c.2

  pub seen_alike : (reader : ℕ)
      → SeenAlike (words_table (take n us) count area sums) (words_seen reader (take n us) count area sums) (lent_table rs count area sums)
      (lent_seen reader rs count area sums)
  seen_alike = words.words_seen_alike rs us count area sums n copied_is c.2

  pub plain_alike : Alike (numbered_table (take n us) count area sums) (plain_table rs count area sums)
  plain_alike = numbered.numbered_alike rs us count area sums n copied_is c.2

-- nothing is copied back where no word became another
pub none_back : (rs : List Record) (vs : List ℕ) → CopiedBack rs vs 0 0 rs
none_back rs vs =
    let none : min 0 (min (length rs) (length vs)) - 0 ≡ 0 = omega arith in
    paste-zero rs 0 (map struct_of (drop 0 vs)) ∙ ap (λ (n : ℕ). paste rs 0 (map struct_of (drop 0 vs)) n) (sym none)

-- the records are changed: of the words us those between `start` and `to` became others, vs, and were copied back
module _ (rs : List Record) (xs us vs sums : List ℕ) (lent start to : ℕ) (made : xs ≡ replicate 512 0) (in-long : length us ≡ length xs)
    (out-long : length vs ≡ length us) (c : Copied (length sums) rs xs us lent) (rs' : List Record) (back : CopiedBack rs vs start to rs')
    (b : Between us vs (lent_of us lent sums) start to) (count : ℕ) (area : List ℕ) where
  lx : length xs ≡ 512
  lx = ap length made ∙ length-replicate {A = ℕ} 512 0

  lu : length us ≡ 512
  lu = in-long ∙ lx

  lv : length vs ≡ 512
  lv = out-long ∙ lu

  whole : lent_of us lent sums ≡ lent
  whole = stores.whole rs xs us vs sums lent start to lx lu lv c

  between : Between us vs lent start to
  between = subst (λ (k : ℕ). Between us vs k start to) whole b

  pub answers : (reader : ℕ) (spaces l out : List ℕ)
      → map record_of (take (lent_of us lent sums) vs) ≡ (word_command us lent count reader area sums spaces l out).records
      → Answers (word_command us lent count reader area sums spaces l out) (lent_command rs count reader area sums spaces l out) rs'
  answers reader spaces l out e =
      stores.answers rs xs us vs sums lent start to lx lu lv c count area reader spaces l out
      (subst (λ (k : ℕ). map record_of (take k vs) ≡ (word_command us lent count reader area sums spaces l out).records) whole e) between rs' back

  pub compacts : map record_of (take (lent_of us lent sums) vs) ≡ (word_compaction us lent count area sums).records
      → Compacts (word_compaction us lent count area sums) (lent_compaction rs count area sums) rs'
  compacts e =
      stores.compacts rs xs us vs sums lent start to lx lu lv c count area
      (subst (λ (k : ℕ). map record_of (take k vs) ≡ (word_compaction us lent count area sums).records) whole e) between rs' back

  pub replays : (spaces log : List ℕ) → map record_of (take (lent_of us lent sums) vs) ≡ (word_replay us lent count area sums spaces log).records
      → ReplaysAlike (word_replay us lent count area sums spaces log) (lent_replay rs count area sums spaces log) rs'
  replays spaces log e =
      lents.replays rs xs us vs sums lent start to lx lu lv c count area spaces log
      (subst (λ (k : ℕ). map record_of (take k vs) ≡ (word_replay us lent count area sums spaces log).records) whole e) between rs' back

  pub feeds : (st : ReplayState) (spaces pending line piece : List ℕ)
      → map record_of (take (lent_of us lent sums) vs) ≡ (word_piece us lent count st area sums spaces pending line piece).records
      → PiecesAlike (word_piece us lent count st area sums spaces pending line piece) (lent_piece rs count st area sums spaces pending line piece) rs'
  feeds st spaces pending line piece e =
      lents.feeds rs xs us vs sums lent start to lx lu lv c count area st spaces pending line piece
      (subst (λ (k : ℕ). map record_of (take k vs) ≡ (word_piece us lent count st area sums spaces pending line piece).records) whole e) between rs' back
