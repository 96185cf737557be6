-- What the collector answers and leaves in its buffers, in document 01's terms, and demand 3 for it.
use Rattle.std.specs.Prelude.{◌≡◌, Bool, true, List, ℕ, leb, length, Result, Ok, Err}
use Rattle.listing_rules.specs.Bytes.{one_of}
use Rattle.listing_rules.specs.Table.{Table, passes}
use Rattle.listing_rules.specs.Readers.{is_reader}
use Rattle.listing_rules.specs.Walk.{lawful_byte, WalkReply, walk_refused, walked, collected_by, scratch_after, found_after, pending_after}
use Rattle.listing_rules.specs.Demand3.{Demand3}
use Rattle.listing_rules.specs.Sending.{walk_numbers}
use Rattle.collector.specs.declared.Walked.{Walked}

-- "The result has the number of commands sent and the length of found"; a refusal has its number
unfoldable pub collected_is : WalkReply → Result Walked ℕ
collected_is (walk_refused k) = Err k
collected_is (walked count f p) = Ok (record { count = count; found = length f })

-- Document 01's number and values for each case: the number of a refusal, 0 for none; "Its refusals give count 0 and length 0"
unfoldable pub number_of_walk : Result Walked ℕ → ℕ
number_of_walk (Err k) = k
number_of_walk (Ok r) = 0

-- W12: no number but "1, 6, 9, 10, 11 and W9's 16"; a walk that is not refused has sent a command
unfoldable pub is_allowed : Result Walked ℕ → Bool
is_allowed (Err k) = one_of walk_numbers k
is_allowed (Ok r) = leb 1 r.count

unfoldable pub count_of : Result Walked ℕ → ℕ
count_of (Err k) = 0
count_of (Ok r) = r.count

unfoldable pub length_of : Result Walked ℕ → ℕ
length_of (Err k) = 0
length_of (Ok r) = r.found

-- One collection, by its reader, the table that the reader sees, the option byte and the three buffers as they were lent: the answer, and what
-- each buffer holds then.
module _ (reader : ℕ) (table : Table) (o : ℕ) (scratch found pending : List ℕ) where
  abbrev pub collected_of : Result Walked ℕ
  collected_of = collected_is (collected_by reader table o scratch found pending)

  abbrev pub scratch_of : List ℕ
  scratch_of = scratch_after (length scratch) (collected_by reader table o scratch found pending)

  abbrev pub found_of : List ℕ
  found_of = found_after (length found) (collected_by reader table o scratch found pending)

  abbrev pub pending_of : List ℕ
  pending_of = pending_after (length pending) (collected_by reader table o scratch found pending)

-- The whole walk, by the lengths of the three buffers: the answer, and what lies in found and in pending then, are those of a reply
-- that demand 3 allows.
pub record WholeWalk (table : Table) (o scratch found pending : ℕ) (r : Result Walked ℕ) (inFound inPending : List ℕ) : Type 0 where
  pub reply : WalkReply
  pub owed : Demand3 table o scratch found pending reply
  pub result : r ≡ collected_is reply
  pub found_holds : inFound ≡ found_after found reply
  pub pending_holds : inPending ≡ pending_after pending reply

-- demand 3 is owed over the rows that a reader sees, for readers 0 to 7, a table all of whose rows pass and a lawful option byte
abbrev pub OwesDemand3 : ℕ → Table → Table → ℕ → List ℕ → List ℕ → List ℕ → Result Walked ℕ → List ℕ → List ℕ → Type 0
OwesDemand3 reader all table o scratch found pending r inFound inPending =
    is_reader reader ≡ true → passes all ≡ true → lawful_byte o ≡ true
    → WholeWalk table o (length scratch) (length found) (length pending) r inFound inPending
