-- The collector's promise: its answer's number, count and length, the order of its refusals, what a refused walk and one that came to
-- its end leave, demand 3 and the numbers that it can give, which follow from the equations. Rests on the laws `demand-3-holds` and `walk-allowed`.
use Rattle.std.specs.Prelude.{Result, Ok, Err}
use Rattle.listing_rules.proofs.Prelude.{◌∙◌, ◌≡◌, ap, refl, subst, sym, false, true, List, [], ◌∷◌, ◌+◌, ◌<◌, ◌≤◌, ℕ, arith, length, replicate}
use Rattle.listing_rules.proofs.Prelude.{le-leb, lt-leb}
use Rattle.listing_rules.specs.Bytes.{one_of}
use Rattle.listing_rules.specs.Table.{Table, rows, passes}
use Rattle.listing_rules.specs.Readers.{is_reader}
use Rattle.listing_rules.specs.Walk.{lawful_byte, WalkReply, walk_refused, walked, walk, walk_number, walk_count, found_length, packed, zero_behind}
use Rattle.listing_rules.specs.Walk.{found_after, pending_after, scratch_after, collected, walk_by, collected_by}
use Rattle.listing_rules.specs.Demand3.{Demand3, meeting_names, meeting_ancestors, too_small}
use Rattle.listing_rules.specs.Sending.{allowed_walk}
use Rattle.listing_rules.proofs.Demand3.{demand_3_holds}
use Rattle.listing_rules.proofs.OwnCommands.{walk_allowed}
use Rattle.collector.specs.Result.{collected_is, number_of_walk, is_allowed, count_of, length_of, collected_of, scratch_of, found_of, pending_of}
use Rattle.collector.specs.Result.{WholeWalk, OwesDemand3}
use Rattle.collector.specs.Ends.{Comes, Collects}
use Rattle.octets.specs.declared.refusals.Refusal.{Refusal}
use Rattle.octets.specs.Refusals.{number_of, numbered}
use Rattle.collector.specs.declared.Walked.{Walked}

-- the number, the count and the length of an answer are those of the reply
pub number_of_walk_lem : (w : WalkReply) → number_of_walk (collected_is w) ≡ walk_number w
unfolding number_of_walk collected_is walk_number
number_of_walk_lem (walk_refused k) = refl
number_of_walk_lem (walked count f p) = refl

pub count_of_walk : (w : WalkReply) → count_of (collected_is w) ≡ walk_count w
unfolding count_of collected_is walk_count
count_of_walk (walk_refused k) = refl
count_of_walk (walked count f p) = refl

pub length_of_walk : (w : WalkReply) → length_of (collected_is w) ≡ found_length w
unfolding length_of collected_is found_length
length_of_walk (walk_refused k) = refl
length_of_walk (walked count f p) = refl

-- its number is one that a walk can have exactly if the reply's is
pub allowed_of_walk : (w : WalkReply) → is_allowed (collected_is w) ≡ allowed_walk w
unfolding is_allowed collected_is allowed_walk
allowed_of_walk (walk_refused k) = refl
allowed_of_walk (walked count f p) = refl

pub refuses_option : (table : Table) (o : ℕ) (scratch found pending : List ℕ) → passes table ≡ true → lawful_byte o ≡ false →
    collected table o scratch found pending ≡ walk_refused 6
unfolding collected walk
refuses_option table o scratch found pending e g = rw (e, g)

-- 16, 1, then the walk, over the table that the reader sees
module _ (reader : ℕ) (table : Table) (o : ℕ) (scratch found pending : List ℕ) where
  pub refuses_reader : 7 < reader → collected_by reader table o scratch found pending ≡ walk_refused 16
  unfolding collected_by walk_by is_reader
  refuses_reader h = rw (lt-leb reader 7 h)

  -- a reader up to 7 is walked for
  reader_walks : is_reader reader ≡ true → collected_by reader table o scratch found pending ≡ collected table o scratch found pending
  unfolding collected_by walk_by collected
  reader_walks h = rw h

  pub refuses_table : reader ≤ 7 → passes table ≡ false → collected_by reader table o scratch found pending ≡ walk_refused 1
  unfolding collected_by walk_by is_reader walk
  refuses_table h e = rw (le-leb reader 7 h, e)

  -- and the walk goes by the lengths of the buffers
  pub reader_walks_long : is_reader reader ≡ true → (f p : List ℕ) → length f ≡ length found → length p ≡ length pending →
      collected table o scratch f p ≡ collected_by reader table o scratch found pending
  unfolding collected
  reader_walks_long h f p lf lp = (λ i. walk table o (length scratch) (lf i) (lp i)) ∙ sym (reader_walks h)

-- the promise of `collect`, of its answer and what lies in the buffers after it: of the rows that the reader sees, and of all where they pass
abbrev pub Promise : ℕ → Table → Table → ℕ → List ℕ → List ℕ → List ℕ → Result Walked Refusal → List ℕ → List ℕ → List ℕ → Type 0
Promise reader all table o s₀ f₀ p₀ r s f p =
    record {
      result : numbered r ≡ collected_of reader table o s₀ f₀ p₀;
      scratch : s ≡ scratch_of reader table o s₀ f₀ p₀;
      found : f ≡ found_of reader table o s₀ f₀ p₀;
      pending : p ≡ pending_of reader table o s₀ f₀ p₀;
      demand3 : OwesDemand3 reader all table o s₀ f₀ p₀ (numbered r) f p;
      numbers : is_allowed (numbered r) ≡ true;
    }

-- it follows from the answer and what lies in the buffers, where what is seen passes as all rows do; and so it does from those over a table that is the same
pub promised : (reader : ℕ) (all table : Table) (o : ℕ) (scratch found pending : List ℕ) → passes table ≡ passes all →
    (r : Result Walked Refusal) (s f p : List ℕ) → Collects reader table o scratch found pending r s f p →
    Promise reader all table o scratch found pending r s f p
unfolding collected_by walk_by
promised reader all table o scratch found pending alike r s f p c =
    record { result = c.0; scratch = c.1; found = c.2; pending = c.3; demand3 = whole; numbers = numbers }
  where
    numbers : is_allowed (numbered r) ≡ true
    numbers =
        ap is_allowed c.0 ∙ allowed_of_walk (collected_by reader table o scratch found pending)
        ∙ walk_allowed reader table o (length scratch) (length found) (length pending)

    whole : OwesDemand3 reader all table o scratch found pending (numbered r) f p
    whole is ok lawful =
        let by : walk_by reader table o (length scratch) (length found) (length pending) ≡ walk table o (length scratch) (length found)
        (length pending) = rw is in
        record {
          reply = walk table o (length scratch) (length found) (length pending);
          owed = demand_3_holds table o (length scratch) (length found) (length pending) (alike ∙ ok) lawful;
          result = c.0 ∙ ap collected_is by;
          found_holds = c.2 ∙ ap (found_after (length found)) by;
          pending_holds = c.3 ∙ ap (pending_after (length pending)) by;
        }

pub promised_same : (reader : ℕ) (all table : Table) (o : ℕ) (scratch found pending : List ℕ) → passes table ≡ passes all →
    (r : Result Walked Refusal) (s f p : List ℕ) {held : Table} → held ≡ table → Collects reader held o scratch found pending r s f p
    → Promise reader all table o scratch found pending r s f p
promised_same reader all table o scratch found pending alike r s f p e c =
    promised reader all table o scratch found pending alike r s f p (subst (λ (v : Table). Collects reader v o scratch found pending r s f p) e c)

-- of a walk that was refused, and of one that came to its end
module _ (reader : ℕ) (table : Table) (o : ℕ) (scratch found pending : List ℕ) {s f p : List ℕ} (zs : s ≡ replicate (length scratch) 0) where
  pub collects_refused : {r : Result Walked Refusal} {k : Refusal} → r ≡ Err k → collected_by reader table o scratch found pending ≡ walk_refused (number_of k)
      → f ≡ replicate (length found) 0 → p ≡ replicate (length pending) 0 → Collects reader table o scratch found pending r s f p
  unfolding collected_is scratch_after found_after pending_after
  collects_refused {r} {k} er e zf zp = (
    ap numbered er ∙ sym (ap collected_is e),
    zs,
    zf ∙ sym (ap (found_after (length found)) e),
    zp ∙ sym (ap (pending_after (length pending)) e),
  )

  pub collects_done : {count len : ℕ} → Comes (collected_by reader table o scratch found pending) f p count len → length f ≡ length found →
      length p ≡ length pending → Collects reader table o scratch found pending (Ok (record { count = count; found = len })) s f p
  unfolding collected_is scratch_after found_after pending_after
  collects_done {count} {len} C lf lp = (
    ap (λ (n : ℕ). Ok (record { count = count; found = n })) C.counted ∙ sym (ap collected_is C.is),
    zs,
    C.found ∙ ap (λ (k : ℕ). zero_behind k C.finds) lf ∙ sym (ap (found_after (length found)) C.is),
    C.pending ∙ ap (λ (k : ℕ). zero_behind k C.asks) lp ∙ sym (ap (pending_after (length pending)) C.is),
  )

-- a reply by the collector's answer
reply_refused : (w : WalkReply) {k : ℕ} → collected_is w ≡ Err k → w ≡ walk_refused k
unfolding collected_is
reply_refused (walk_refused j) {k} e = let y : j ≡ k = cc in ap walk_refused y
reply_refused (walked c f p) e = cc

reply_done : (w : WalkReply) {count len : ℕ} → collected_is w ≡ Ok (record { count = count; found = len }) →
    (f : List ℕ) × (p : List ℕ) × (w ≡ walked count f p) × (length f ≡ len)
unfolding collected_is
reply_done (walk_refused j) e = let y : ◌≡◌ {A = ℕ} 0 1 = cc in absurd (omega arith)
reply_done (walked c f p) {count} {len} e =
    let same : record { count = c; found = length f } ≡ record { count = count; found = len } = cc in
    (f, p, ap (λ (r : Walked). walked r.count f p) same, ap (λ (r : Walked). r.found) same)

-- What `WholeWalk` says of a refusal, and of a walk that came to its end.
module _ {table : Table} {o scratch found pending : ℕ} {f p : List ℕ} where
  pub whole_refused : {k : ℕ} → WholeWalk table o scratch found pending (Err k) f p →
      (too_small (rows table) o scratch found pending ≡ true)
      × (one_of (9 ∷ 10 ∷ 11 ∷ []) k ≡ true)
      × (f ≡ replicate found 0)
      × (p ≡ replicate pending 0)
  unfolding Demand3 found_after pending_after
  whole_refused {k} W =
      let e = reply_refused W.reply (sym W.result) in
      let d : Demand3 table o scratch found pending (walk_refused k) = rw e at W.owed in
      (d.0, d.1, W.found_holds ∙ ap (found_after found) e, W.pending_holds ∙ ap (pending_after pending) e)

  pub whole_done : {count len : ℕ} → WholeWalk table o scratch found pending (Ok (record { count = count; found = len })) f p →
      (too_small (rows table) o scratch found pending ≡ false)
      × (count ≡ 1 + length (meeting_ancestors (rows table) o))
      × (len ≡ length (packed (meeting_names (rows table) o)))
      × (f ≡ zero_behind found (packed (meeting_names (rows table) o)))
      × (p ≡ zero_behind pending (packed (meeting_ancestors (rows table) o)))
  unfolding Demand3 found_after pending_after
  whole_done {count} W =
      let v = reply_done W.reply (sym W.result) in
      let d : Demand3 table o scratch found pending (walked count v.0 v.1) = rw v.2 at W.owed in
      let found-is = W.found_holds ∙ ap (found_after found) v.2 ∙ ap (zero_behind found) d.2 in
      let pending-is = W.pending_holds ∙ ap (pending_after pending) v.2 ∙ ap (zero_behind pending) d.3 in
      (d.0, d.1, sym v.3 ∙ ap length d.2, found-is, pending-is)
