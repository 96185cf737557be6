-- The answers of the entries, in the forms that C takes.
use Rattle.std.specs.Prelude.{◌≡◌, Bool, false, true, cond, ◌&&◌, ◌||◌, List, ℕ, eqb, leb, ltb, length, replicate, Result, Ok, Err}
use Rattle.octets.specs.Refusals.{numbered}
use Rattle.listing_rules.specs.Bytes.{one_of}
use Rattle.listing_rules.specs.Table.{Table, passes}
use Rattle.listing_rules.specs.Readers.{is_reader}
use Rattle.listing_rules.specs.Demand3.{Demand3}
use Rattle.listing_rules.specs.Options.{criteria_number}
use Rattle.listing_rules.specs.Subscriptions.{store_table}
use Rattle.listing_rules.specs.Server.{Reply, number_of, length_of, buffer_after}
use Rattle.listing_rules.specs.LineReader.{Read, read_number, attributes_read, name_read, child_info_of, name_bytes}
use Rattle.listing_rules.specs.Walk.{lawful_byte, WalkReply, walk_number, walk_count, found_length, found_after, pending_after}
use Rattle.listing_rules.specs.Sending.{walk_numbers}
use Rattle.records.specs.declared.Record.{Record}
use Rattle.records.specs.Lent.{lent_summed}
use Rattle.records.specs.Stores.{Handed}
use Rattle.list_line.specs.Members.{set_of}
use Rattle.collector.specs.declared.Walked.{Walked}
use Rattle.line_reader.specs.declared.Parts.{Parts}
use Rattle.server.specs.declared.Stored.{Stored}
use Rattle.exports.specs.declared.outcomes.Outcome.{Outcome}
use Rattle.exports.specs.declared.outcomes.Done.{Done as Ended}
use Rattle.exports.specs.declared.outcomes.LineParts.{LineParts}

-- An answer into a lent buffer: document 01's number and length, whether a row changed, and a count. "A refusal has length 0". Of a command over records the
-- count is the number of rows, which "is passed and given back"; of the line writer it is 0, and no row changes.
unfoldable pub as_number : Bool → ℕ
as_number b = cond b 1 0

unfoldable pub outcome_of : Reply → Bool → ℕ → Outcome
outcome_of r changed count = record { number = number_of r; changed = as_number changed; length = length_of r; count = count }

abbrev pub handed_outcome : Handed → Outcome
handed_outcome h = outcome_of h.reply h.changed h.count

-- the table of lent records without their summary, of which as many are lent as there are numbers: the one that a first summary is counted for
abbrev pub plain_table : List Record → ℕ → List ℕ → List ℕ → Table
plain_table rs count area sums = store_table (lent_summed rs count area sums).store

-- "The result has the number of commands sent and the length of found"; "Its refusals give count 0 and length 0"
unfoldable pub walk_outcome : WalkReply → Outcome
walk_outcome r = record { number = walk_number r; changed = 0; length = found_length r; count = walk_count r }

-- W12: the number of a walk's outcome is "1, 6, 9, 10, 11 [or] W9's 16"; or it is 0, and a command was sent
unfoldable pub allowed_outcome : Outcome → Bool
allowed_outcome r = one_of walk_numbers r.number || (eqb r.number 0 && leb 1 r.count)

-- Demand 3, of the outcome itself: its number, count and length, and what lies in found and in pending, are those of a reply that demand 3 allows.
pub record WholeOutcome (table : Table) (o scratch found pending : ℕ) (r : Outcome) (inFound inPending : List ℕ) : Type 0 where
  pub reply : WalkReply
  pub owed : Demand3 table o scratch found pending reply
  pub result : r ≡ walk_outcome reply
  pub found_holds : inFound ≡ found_after found reply
  pub pending_holds : inPending ≡ pending_after pending reply

-- it is owed over the rows that a reader sees, for readers 0 to 7, a table all of whose rows pass and a lawful option byte
abbrev pub OwesOutcome : ℕ → Table → Table → ℕ → List ℕ → List ℕ → List ℕ → Outcome → List ℕ → List ℕ → Type 0
OwesOutcome reader all table o scratch found pending r inFound inPending =
    is_reader reader ≡ true → passes all ≡ true → lawful_byte o ≡ true
    → WholeOutcome table o (length scratch) (length found) (length pending) r inFound inPending

-- what was read; "The reader's refusal gives no attributes and an empty name."
unfoldable pub parts_of : Read → LineParts
parts_of r =
    record {
      number = read_number r;
      criteria = criteria_number (child_info_of r);
      attributes = set_of (attributes_read r);
      length = length (name_read r);
      name = name_bytes r;
    }

-- What a call that answers into a lent buffer owes: the reply's outcome, and the buffer's bytes before and after.
abbrev pub Into : Reply → List ℕ → List ℕ → Outcome → Type 0
Into reply before after r = (r ≡ outcome_of reply false 0) × (after ≡ buffer_after before reply)

-- The same case by case, for the results of the entries with their refusals as numbers.
unfoldable pub written_case : Result ℕ ℕ → ℕ → ℕ → Outcome
written_case (Ok n) changed count = record { number = 0; changed = changed; length = n; count = count }
written_case (Err k) changed count = record { number = k; changed = changed; length = 0; count = count }

unfoldable pub done_case : Stored → Ended Outcome
done_case s = record { answer = written_case (numbered s.written) (as_number (ltb s.from s.to)) s.count; from = s.from; to = s.to }

unfoldable pub collected_case : Result Walked ℕ → Outcome
collected_case (Ok w) = record { number = 0; changed = 0; length = w.found; count = w.count }
collected_case (Err k) = record { number = k; changed = 0; length = 0; count = 0 }

unfoldable pub line_case : Result Parts ℕ → LineParts
line_case (Ok p) = record { number = 0; criteria = p.criteria.bits; attributes = p.attributes.bits; length = p.len; name = p.name }
line_case (Err k) = record { number = k; criteria = 0; attributes = 0; length = 0; name = replicate 200 0 }
