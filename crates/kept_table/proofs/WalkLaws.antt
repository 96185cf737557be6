-- Laws of walks: the table that the collector goes over is the one that the reader sees of what is kept, and the line of what it found. Rests on LentLaws.
use Rattle.std.specs.Prelude.{Result, Ok, Err}
use Rattle.listing_rules.proofs.Prelude.{◌∙◌, ◌≡◌, ap, sym, Bool, false, true, List, ◌∷◌, ◌%◌, ◌-◌, ◌/◌, ◌≤◌, ℕ, arith, drop, length, length-append}
use Rattle.listing_rules.proofs.Prelude.{length-replicate, replicate, take, take_at}
use Rattle.listing_rules.specs.Table.{Table}
use Rattle.listing_rules.specs.Readers.{packed_seen}
use Rattle.listing_rules.specs.Walk.{WalkReply, walk_refused, walked, walk_by, collected_by, found_after, zero_behind}
use Rattle.listing_rules.specs.Frames.{kept_seen, answer_line, refusal_line, walk_line}
use Rattle.octets.specs.Put.{Put}
use Rattle.records.specs.Lent.{words_seen}
use Rattle.collector.specs.Result.{collected_is}
use Rattle.octets.specs.declared.refusals.Refusal.{Refusal}
use Rattle.octets.specs.Refusals.{number_of, numbered}
use Rattle.collector.specs.declared.Walked.{Walked}
use Rattle.kept_table.specs.declared.Lengths.{Lengths}
use Rattle.kept_table.specs.Kept.{kept_as, kept_of, Says}
use Rattle.kept_table.proofs.LentLaws.{length_line, says, says_refusal}

-- the table that a reader sees of what is kept
module _ (reader : ℕ) (n : Lengths) (t w : List ℕ) where
  pub walks_records : n.edited ≡ true
      → words_seen reader (take 512 w) n.table (take 16384 t) (take 512 (drop 512 w)) ≡ kept_seen reader (kept_of n t w)
  unfolding kept_seen
  walks_records e = sym (ap (λ (b : Bool). kept_seen reader (kept_as b n.table t w)) e)

  pub walks_packed : n.edited ≡ false → packed_seen reader (take n.table t) ≡ kept_seen reader (kept_of n t w)
  unfolding kept_seen
  walks_packed e = sym (ap (λ (b : Bool). kept_seen reader (kept_as b n.table t w)) e)

-- a walk by the collector's answer: what was found lies at the front of its buffer
known_walked : (r : WalkReply) (e : List ℕ) (room : ℕ) (v : Walked) → length e ≡ room → collected_is r ≡ Ok v → e ≡ found_after room r →
    (v.found ≤ room) × (length (take v.found e) ≡ v.found) × (walk_line r ≡ answer_line (0x57 ∷ v.count / 256 % 256 ∷ v.count % 256 ∷ take v.found e))
unfolding collected_is found_after zero_behind walk_line
known_walked (walk_refused j) e room v h w m = cc
known_walked (walked c f p) e room v h w m =
    let same : record { count = c; found = length f } ≡ v = cc in
    let x : c ≡ v.count = ap (λ (r : Walked). r.count) same in
    let z : length f ≡ v.found = ap (λ (r : Walked). r.found) same in
    let front : take v.found e ≡ f = ap (take v.found) m ∙ take_at f (replicate (room - length f) 0) v.found z in
    let back = sym front in (
      omega (arith, z, h, ap length m, length-append f (replicate (room - length f) 0), length-replicate {A = ℕ} (room - length f) 0),
      ap length front ∙ z,
      λ i. answer_line (0x57 ∷ x i / 256 % 256 ∷ x i % 256 ∷ back i),
    )

known_stopped : (r : WalkReply) (k : ℕ) → collected_is r ≡ Err k → walk_line r ≡ refusal_line k
unfolding collected_is walk_line
known_stopped (walk_refused j) k w = let z : j ≡ k = cc in ap refusal_line z
known_stopped (walked c f p) k w = cc

-- a walk's line, by the collector's answer `x` and the buffer `e` that it left
module _ (reader : ℕ) (t : Table) (option : ℕ) (s f p e : List ℕ) (x : Result Walked Refusal) (sizes : (length s ≡ 16384) × (length f ≡ 8192) × (length p ≡ 8192))
    (a : numbered x ≡ collected_is (collected_by reader t option s f p)) (same : length e ≡ length f)
    (m : e ≡ found_after (length f) (collected_by reader t option s f p)) where
  collected_as : collected_by reader t option s f p ≡ walk_by reader t option 16384 8192 8192
  unfolding collected_by
  collected_as = λ i. walk_by reader t option (sizes.0 i) (sizes.1 i) (sizes.2 i)

  pub walk_fits : (v : Walked) → x ≡ Ok v → (v.found ≤ length e) × (length (take v.found e) ≡ v.found)
  walk_fits v w =
      let y = known_walked (collected_by reader t option s f p) e (length f) v same (sym a ∙ ap numbered w) m in
      (omega (arith, y.0, same), y.1)

  pub walk_says : (o q : List ℕ) (v : Walked) (r : ℕ) → x ≡ Ok v →
      Put o q 0 (answer_line (0x57 ∷ v.count / 256 % 256 ∷ v.count % 256 ∷ take v.found e)) r →
      Says (walk_line (walk_by reader t option 16384 8192 8192)) o q r
  walk_says o q v r w put =
      let y = known_walked (collected_by reader t option s f p) e (length f) v same (sym a ∙ ap numbered w) m in
      rw (ap walk_line (sym collected_as) ∙ y.2) (says (omega (arith, length_line (0x57 ∷ v.count / 256 % 256 ∷ v.count % 256 ∷ take v.found e), y.0, y.1, sizes.1))
      put)

  pub walk_refuses : (o q : List ℕ) (k : Refusal) (r : ℕ) → x ≡ Err k → Put o q 0 (refusal_line (number_of k)) r →
      Says (walk_line (walk_by reader t option 16384 8192 8192)) o q r
  walk_refuses o q k r w put =
      rw (ap walk_line (sym collected_as) ∙ known_stopped (collected_by reader t option s f p) (number_of k) (sym a ∙ ap numbered w)) (says_refusal (number_of k) put)
