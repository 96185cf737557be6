-- What the walk leaves when it ends.
use Rattle.std.specs.Prelude.{◌≡◌, List, ℕ, length, Result, Ok, Err}
use Rattle.listing_rules.specs.Table.{Table}
use Rattle.listing_rules.specs.Walk.{WalkReply, walk_refused, walked, zero_behind}
use Rattle.octets.specs.declared.refusals.Refusal.{Refusal}
use Rattle.octets.specs.Refusals.{number_of, numbered}
use Rattle.collector.specs.declared.Walked.{Walked}
use Rattle.collector.specs.Result.{collected_of, scratch_of, found_of, pending_of}

-- a walk that came to its end: its names lie in found and in pending
pub record Comes (w : WalkReply) (inFound inPending : List ℕ) (count len : ℕ) : Type 0 where
  pub finds : List ℕ
  pub asks : List ℕ
  pub is : w ≡ walked count finds asks
  pub counted : len ≡ length finds
  pub found : inFound ≡ zero_behind (length inFound) finds
  pub pending : inPending ≡ zero_behind (length inPending) asks

-- a walk that came to its end, or was refused, with the collector's answer; a refusal leaves found and pending anyhow
abbrev pub Ends : WalkReply → List ℕ → List ℕ → Result Walked Refusal → Type 0
Ends w inFound inPending (Ok r) = Comes w inFound inPending r.count r.found
Ends w inFound inPending (Err e) = w ≡ walk_refused (number_of e)

-- The answer, and what lies in the three buffers after it, by the reader, the table that it sees, the option byte and the buffers as they were lent.
abbrev pub Collects : ℕ → Table → ℕ → List ℕ → List ℕ → List ℕ → Result Walked Refusal → List ℕ → List ℕ → List ℕ → Type 0
Collects reader table o scratch found pending r inScratch inFound inPending =
    (numbered r ≡ collected_of reader table o scratch found pending)
    × (inScratch ≡ scratch_of reader table o scratch found pending)
    × (inFound ≡ found_of reader table o scratch found pending)
    × (inPending ≡ pending_of reader table o scratch found pending)
