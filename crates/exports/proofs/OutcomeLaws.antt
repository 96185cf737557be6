-- The C forms of the answers, case by case.
use Rattle.std.specs.Prelude.{Result, Ok, Err}
use mir.Val.{bool_byte}
use Rattle.octets.specs.declared.refusals.Refusal.{Refusal}
use Rattle.octets.specs.Refusals.{number_of as refused_as, numbered}
use Rattle.collector.specs.declared.Walked.{Walked}
use Rattle.line_reader.specs.declared.Parts.{Parts}
use Rattle.listing_rules.proofs.Prelude.{◌∙◌, ◌≡◌, ap, subst, length, refl, Bool, ◌&&◌, false, true, List, ℕ, eqb, leb, replicate}
use Rattle.listing_rules.specs.Server.{Reply, refusal, answered, number_of, length_of}
use Rattle.listing_rules.specs.LineReader.{Read, line, root, bad, name_bytes}
use Rattle.listing_rules.specs.Table.{Table}
use Rattle.listing_rules.specs.Bytes.{one_of}
use Rattle.records.proofs.WordsAlike.{SeenAlike}
use Rattle.exports.specs.declared.outcomes.Outcome.{Outcome}
use Rattle.listing_rules.specs.Sending.{walk_numbers}
use Rattle.listing_rules.proofs.Bools.{or_l, or_r}
use Rattle.listing_rules.proofs.Keys.{open_options, open_reader}
use Rattle.listing_rules.specs.Walk.{WalkReply, walk_refused, walked, walk_number, walk_count, found_length}
use Rattle.octets.specs.Written.{written_is}
use Rattle.list_line.specs.Members.{set_of}
use Rattle.line_reader.specs.Lines.{line_is}
use Rattle.line_reader.specs.Lines as read
use Rattle.collector.specs.Result.{WholeWalk, collected_is, is_allowed}
use Rattle.exports.specs.Outcomes.{as_number, outcome_of, walk_outcome, allowed_outcome, WholeOutcome, OwesOutcome, parts_of, written_case}
use Rattle.exports.specs.Outcomes.{collected_case, line_case}

-- the number of a bool
pub from_bool_is : (b : Bool) → bool_byte b ≡ as_number b
unfolding as_number
from_bool_is true = refl
from_bool_is false = refl

-- a result that is known, by its case
pub written_done : (w : Result ℕ Refusal) (changed count n : ℕ) → w ≡ Ok n
    → record { number = 0; changed = changed; length = n; count = count } ≡ written_case (numbered w) changed count
unfolding written_case
written_done w changed count n e = rw e

pub written_refused : (w : Result ℕ Refusal) (changed count k : ℕ) (r : Refusal) → w ≡ Err r → k ≡ refused_as r
    → record { number = k; changed = changed; length = 0; count = count } ≡ written_case (numbered w) changed count
unfolding written_case
written_refused w changed count k r e h = rw (e, h)

pub collected_done : (w : Result Walked Refusal) (x : Walked) → w ≡ Ok x →
    record { number = 0; changed = 0; length = x.found; count = x.count } ≡ collected_case (numbered w)
unfolding collected_case
collected_done w x e = rw e

pub collected_refused : (w : Result Walked Refusal) (k : ℕ) (r : Refusal) → w ≡ Err r → k ≡ refused_as r
    → record { number = k; changed = 0; length = 0; count = 0 } ≡ collected_case (numbered w)
unfolding collected_case
collected_refused w k r e h = rw (e, h)

pub parts_read : (l : Result Parts Refusal) (p : Parts) → l ≡ Ok p →
    record { number = 0; criteria = p.criteria.bits; attributes = p.attributes.bits; length = p.len; name = p.name } ≡ line_case (numbered l)
unfolding line_case
parts_read l p e = rw e

pub parts_refused : (l : Result Parts Refusal) (bytes : List ℕ) (k : ℕ) (r : Refusal) → l ≡ Err r → k ≡ refused_as r → bytes ≡ replicate 200 0
    → record { number = k; criteria = 0; attributes = 0; length = 0; name = bytes } ≡ line_case (numbered l)
unfolding line_case
parts_refused l bytes k r e h g = rw (e, h, g)

-- the cases of the entries' results are document 01's numbers
pub written_case_lem : (r : Reply) (changed : Bool) (count : ℕ) → written_case (written_is r) (as_number changed) count ≡ outcome_of r changed count
unfolding written_case written_is outcome_of number_of length_of
written_case_lem (refusal k) changed count = refl
written_case_lem (answered a) changed count = refl

pub collected_case_lem : (r : WalkReply) → collected_case (collected_is r) ≡ walk_outcome r
unfolding collected_case collected_is walk_outcome walk_number walk_count found_length
collected_case_lem (walk_refused k) = refl
collected_case_lem (walked c f p) = refl

-- so what demand 3 allows of the one it allows of the other
pub whole_outcome : {table : Table} {o s f p : ℕ} {w : Result Walked ℕ} {inFound inPending : List ℕ} (r : Outcome) → r ≡ collected_case w
    → WholeWalk table o s f p w inFound inPending → WholeOutcome table o s f p r inFound inPending
whole_outcome r e x =
    record {
      reply = x.reply;
      owed = x.owed;
      result = e ∙ ap collected_case x.result ∙ collected_case_lem x.reply;
      found_holds = x.found_holds;
      pending_holds = x.pending_holds;
    }

-- and of tables that are alike
pub owes_alike : (reader o : ℕ) (scratch found pending : List ℕ) (r : Outcome) (f p : List ℕ) {all t every u : Table} → SeenAlike all t every u
    → OwesOutcome reader all t o scratch found pending r f p → OwesOutcome reader every u o scratch found pending r f p
owes_alike reader o scratch found pending r f p a owed is ok lawful =
    let whole = a.rows_pass_lem ∙ ok in
    subst (λ (v : Table). WholeOutcome v o (length scratch) (length found) (length pending) r f p) (a.seen.1 (a.seen_pass ∙ whole))
    (owed is whole lawful)

-- and a walk's number is one that a walk can have
pub collected_allowed : (w : Result Walked ℕ) → is_allowed w ≡ true → allowed_outcome (collected_case w) ≡ true
unfolding is_allowed allowed_outcome collected_case
collected_allowed (Ok w) h = or_r (one_of walk_numbers 0) (leb 1 w.count) h
collected_allowed (Err k) h = or_l (one_of walk_numbers k) (eqb k 0 && leb 1 0) h

pub line_case_lem : (r : Read) → line_case (line_is r) ≡ parts_of r
unfolding line_case line_is read.parts_of parts_of set_of name_bytes open_options open_reader
line_case_lem (line bs n c) = refl
line_case_lem root = refl
line_case_lem bad = refl
