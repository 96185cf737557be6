-- One command, names moved together and a first summary, over lent records and over the words that stand for them: what is handed back.
use Rattle.std.specs.Prelude.{◌≡◌, Bool, List, map, ◌++◌, ℕ, ◌-◌, ◌≤◌, length, drop}
use Rattle.std.proofs.Math.Seq.{paste}
use Rattle.listing_rules.specs.Records.{Record as Meant}
use Rattle.listing_rules.specs.Command.{parsed}
use Rattle.listing_rules.specs.Server.{Reply, changes}
use Rattle.listing_rules.specs.Summary.{Summary, Summed, SummedCommand, summed_command, summed_compaction}
use Rattle.records.specs.declared.Record.{Record}
use Rattle.records.specs.Words.{meant}
use Rattle.records.specs.Numbers.{summary_of}
use Rattle.records.specs.Lent.{lent_summed, lent_of, word_summed}

-- What a command hands back: its reply, whether it changed a row, how many records are rows, every byte of the area, every record, and every number of
-- the summary.
pub record Handed : Type 0 where
  pub reply : Reply
  pub changed : Bool
  pub count : ℕ
  pub area : List ℕ
  pub records : List Meant
  pub summary : List Summary

-- what comes of a store with its summary, and the records and numbers after those that it has, which stay
abbrev pub handed_of : Summed → List ℕ → SummedCommand → List Meant → List Summary → Handed
handed_of m l c rest more =
    record {
      reply = c.reply;
      changed = changes m.store (parsed l) c.reply;
      count = c.left.store.count;
      area = c.left.store.area;
      records = c.left.store.records ++ rest;
      summary = c.left.summary ++ more;
    }

-- one command of a reader over lent records
abbrev pub lent_command : List Record → ℕ → ℕ → List ℕ → List ℕ → List ℕ → List ℕ → List ℕ → Handed
lent_command rs count reader area sums spaces l out =
    handed_of (lent_summed rs count area sums) l (summed_command reader (lent_summed rs count area sums) spaces l out) (drop (length sums) (map meant rs))
    (drop (length rs) (map summary_of sums))

-- and over words, of which `lent` are lent: of the records, those that are
abbrev pub word_command : List ℕ → ℕ → ℕ → ℕ → List ℕ → List ℕ → List ℕ → List ℕ → List ℕ → Handed
word_command ws lent count reader area sums spaces l out =
    let c = summed_command reader (word_summed ws lent count area sums) spaces l out in
    record {
      reply = c.reply;
      changed = changes (word_summed ws lent count area sums).store (parsed l) c.reply;
      count = c.left.store.count;
      area = c.left.store.area;
      records = c.left.store.records;
      summary = c.left.summary ++ drop (lent_of ws lent sums) (map summary_of sums);
    }

-- What a compaction hands back (W7): its number, every byte of the area and every record. The summary stays.
pub record Moved : Type 0 where
  pub number : ℕ
  pub area : List ℕ
  pub records : List Meant

abbrev pub lent_compaction : List Record → ℕ → List ℕ → List ℕ → Moved
lent_compaction rs count area sums =
    let c = summed_compaction (lent_summed rs count area sums) in
    record { number = c.number; area = c.left.store.area; records = c.left.store.records ++ drop (length sums) (map meant rs) }

abbrev pub word_compaction : List ℕ → ℕ → ℕ → List ℕ → List ℕ → Moved
word_compaction ws lent count area sums =
    let c = summed_compaction (word_summed ws lent count area sums) in
    record { number = c.number; area = c.left.store.area; records = c.left.store.records }

-- of the words ws, those from `from` up to `to` became others, all of them lent
pub record Between (ws vs : List ℕ) (lent from to : ℕ) : Type 0 where
  pub order : from ≤ to
  pub lent_only : to ≤ lent
  pub within : to ≤ length ws
  pub size : length vs ≡ length ws
  pub others : vs ≡ paste ws from (drop from vs) (to - from)
