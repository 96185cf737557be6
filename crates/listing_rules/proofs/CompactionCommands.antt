-- W7 over commands as they are sent: once names are moved together, each command of each reader is answered as before and leaves the same rows, but for a
-- SUBSCRIBE's 15; that is then given for want of bytes exactly if the free bytes in all are too few. Rests on EditsAlike, CompactionLaws and CommandLaws.
use Rattle.listing_rules.proofs.Prelude.{◌∙◌, ◌≡◌, ap, refl, subst, sym, Bool, ◌&&◌, cond, false, not, true, ◌⊎◌, inl, inr, List, ◌<◌, ℕ}
use Rattle.listing_rules.proofs.Prelude.{arith, leb, length}
use Rattle.listing_rules.specs.Names.{lawful_name}
use Rattle.listing_rules.specs.Table.{Table, has_row, passes}
use Rattle.listing_rules.specs.Namespaces.{namespaces_pass}
use Rattle.listing_rules.specs.Lines.{ok_line}
use Rattle.listing_rules.specs.Command.{subscribe, editing, parsed}
use Rattle.listing_rules.specs.Readers.{is_reader}
use Rattle.listing_rules.specs.Subscriptions.{Store, store_table, store_seen, store_rows, spelled, below_no_inferiors, Edited, denied, stored}
use Rattle.listing_rules.specs.Subscriptions.{insertion, edited}
use Rattle.listing_rules.specs.Server.{refusal, answered, answer_to, answer, limited, number_of, Commanded, attempted, unchanged_by, concluded}
use Rattle.listing_rules.specs.Server.{commanded_over, commanded}
use Rattle.listing_rules.specs.Walk.{collected_by}
use Rattle.listing_rules.specs.Compaction.{compacted, Compaction, compaction}
use Rattle.listing_rules.proofs.Bools.{and_l}
use Rattle.listing_rules.proofs.LawfulNames.{good_parts}
use Rattle.listing_rules.proofs.ReaderLaws.{store_seen_passes}
use Rattle.listing_rules.proofs.EditsAlike.{Put, insertion_ends, subscribing_puts, is_subscribe, Ended, as_before, room_given, row_alike}
use Rattle.listing_rules.proofs.EditsAlike.{lawful_alike, command_ended}
use Rattle.listing_rules.proofs.CommandLaws.{refusal_not}
use Rattle.listing_rules.proofs.CompactionLaws.{free_bytes, run_most, compaction_refused, compaction_made, stays, compacted_passes, seen_stays}
use Rattle.listing_rules.proofs.CompactionLaws.{room_in_all}

-- names moved together leave the rows, and where there was room there is room
module _ (s : Store) (h : passes (store_table s) ≡ true) where
  same_rows : store_rows (compacted s) ≡ store_rows s
  same_rows = (stays s h).rows

  room_stays : (n : List ℕ) → lawful_name n ≡ true → Put s n → insertion (compacted s) n ≡ denied 15 → ⊥
  room_stays n l w e =
      omega (arith, run_most s (length n) w.start w.run, (room_in_all s h n (omega (arith, (good_parts n l).least)) w.few w.room).0 e)

  compacted_ended : (reader : ℕ) (spaces l buffer : List ℕ)
      → Ended (parsed l) (length buffer) (answer (store_seen reader s) spaces l) (commanded reader s spaces l buffer)
      (commanded reader (compacted s) spaces l buffer)
  compacted_ended reader =
      command_ended s (compacted s) h (compacted_passes s h) same_rows room_stays reader (seen_stays s h reader)

-- "every answer but a SUBSCRIBE's 15": such an answer
abbrev pub Full : ℕ → Store → List ℕ → List ℕ → List ℕ → Type 0
Full reader s spaces l buffer = (is_subscribe (parsed l) ≡ true) × ((commanded reader s spaces l buffer).reply ≡ refusal 15)

-- "every answer but a SUBSCRIBE's 15 stay as they were": a reader's command over a store (s), and over another (c)
pub record AsBefore (reader : ℕ) (s c : Store) (spaces l buffer : List ℕ) : Type 0 where
  -- the number or the bytes, and the rows that it leaves
  pub same_reply_lem : (Full reader s spaces l buffer → ⊥) → (commanded reader c spaces l buffer).reply ≡ (commanded reader s spaces l buffer).reply
  pub same_left : (Full reader s spaces l buffer → ⊥) →
      store_rows (commanded reader c spaces l buffer).store ≡ store_rows (commanded reader s spaces l buffer).store
  -- so what was answered is answered
  pub same_answer : (a : List ℕ) → (commanded reader s spaces l buffer).reply ≡ answered a → (commanded reader c spaces l buffer).reply ≡ answered a
  -- a SUBSCRIBE's 15 stays, or is what would have been said but for it
  pub still_full : Full reader s spaces l buffer
      → ((commanded reader c spaces l buffer).reply ≡ refusal 15)
      ⊎ ((commanded reader c spaces l buffer).reply ≡ limited (length buffer) (answer (store_seen reader s) spaces l))

ended_before : (reader : ℕ) (s c : Store) (spaces l buffer : List ℕ)
    → Ended (parsed l) (length buffer) (answer (store_seen reader s) spaces l) (commanded reader s spaces l buffer)
    (commanded reader c spaces l buffer)
    → AsBefore reader s c spaces l buffer
ended_before reader s c spaces l buffer (as_before e f) =
    record {
      same_reply_lem = λ n. e;
      same_left = λ n. f;
      same_answer = λ a q. e ∙ q;
      still_full = λ w. inl (e ∙ w.1);
    }
ended_before reader s c spaces l buffer (room_given i d e) =
    record {
      same_reply_lem = λ n. absurd (n (i, d));
      same_left = λ n. absurd (n (i, d));
      same_answer = λ a q. absurd (refusal_not 15 a (sym d ∙ q));
      still_full = λ w. inr e;
    }

-- One theorem over commands: any reader, line, namespace list and answer buffer.
commanded_before : (reader : ℕ) (s : Store) → passes (store_table s) ≡ true → (spaces l buffer : List ℕ) →
    AsBefore reader s (compacted s) spaces l buffer
commanded_before reader s h spaces l buffer = ended_before reader s (compacted s) spaces l buffer (compacted_ended s h reader spaces l buffer)

-- and over every store, whether it passes or is left unchanged
pub compaction_before : (reader : ℕ) (s : Store) (spaces l buffer : List ℕ) → AsBefore reader s (compaction s).store spaces l buffer
compaction_before reader s spaces l buffer = go (passes (store_table s)) refl
  where
    go : (b : Bool) → passes (store_table s) ≡ b → AsBefore reader s (compaction s).store spaces l buffer
    go true h =
        subst (λ (c : Store). AsBefore reader s c spaces l buffer) (ap (λ (d : Compaction). d.store) (sym (compaction_made s h)))
        (commanded_before reader s h spaces l buffer)
    go false h =
        subst (λ (c : Store). AsBefore reader s c spaces l buffer) (ap (λ (d : Compaction). d.store) (sym (compaction_refused s h)))
        (ended_before reader s s spaces l buffer (as_before refl refl))

-- and the walk, which looks at what its reader sees alone
pub walked_before : (reader : ℕ) (s : Store) → passes (store_table s) ≡ true → (o : ℕ) (scratch found pending : List ℕ)
    → collected_by reader (store_seen reader (compacted s)) o scratch found pending ≡ collected_by reader (store_seen reader s) o scratch found pending
walked_before reader s h o scratch found pending = ap (λ (t : Table). collected_by reader t o scratch found pending) (seen_stays s h reader)

-- A SUBSCRIBE of reader 0 that would insert a row, with a record for it: 15 straight after the operation is for want of bytes.
module _ (s : Store) (h : passes (store_table s) ≡ true) (spaces l buffer tag n : List ℕ) (namespaces : namespaces_pass spaces ≡ true)
    (line : parsed l ≡ editing tag (subscribe n)) where
  -- what it comes to, up to the edit
  subscribe_comes : (x : Edited) → edited (compacted s) (subscribe n) ≡ x →
      commanded 0 (compacted s) spaces l buffer ≡ concluded (compacted s) (length buffer) x (answered (ok_line tag))
  unfolding commanded commanded_over is_reader answer answer_to attempted
  subscribe_comes x e = rw (line, store_seen_passes 0 (compacted s) ∙ compacted_passes s h, namespaces, e)

  not_fifteen : (t : Store) → (concluded (compacted s) (length buffer) (stored t) (answered (ok_line tag))).reply ≡ refusal 15 → ⊥
  unfolding concluded unchanged_by number_of
  not_fifteen t = go (leb (length (ok_line tag)) (length buffer))
    where
      go : (b : Bool) → (cond b (record { reply = answered (ok_line tag); store = t }) (unchanged_by (compacted s) 9)).reply ≡ refusal 15 → ⊥
      go true e = refusal_not 15 (ok_line tag) (sym e)
      go false e = let z : ◌≡◌ {A = ℕ} 9 15 = ap number_of e in omega (arith, z)

  -- "Straight after the operation, no edit between, 15 for want of bytes is given exactly if the free bytes in all are fewer than the name's."
  pub fifteen_exactly : has_row (store_rows s) (spelled n) ≡ false → (lawful_name (spelled n) && not (below_no_inferiors (store_rows s) (spelled n))) ≡ true
      → s.count < 512 → s.count < length s.records
      → ((commanded 0 (compacted s) spaces l buffer).reply ≡ refusal 15 → free_bytes s < length (spelled n))
      × (free_bytes s < length (spelled n) → (commanded 0 (compacted s) spaces l buffer).reply ≡ refusal 15)
  unfolding concluded unchanged_by edited
  fifteen_exactly e law few room =
      (λ r. go r (insertion_ends (compacted s) (spelled n)), λ want. ap (λ (c : Commanded). c.reply) (subscribe_comes (denied 15) (puts ∙ exact.1 want)))
    where
      puts : edited (compacted s) (subscribe n) ≡ insertion (compacted s) (spelled n)
      puts =
          subscribing_puts (compacted s) (spelled n) (row_alike s (compacted s) h (compacted_passes s h) (same_rows s h) (room_stays s h) (spelled n)
          e)
          (lawful_alike s (compacted s) h (compacted_passes s h) (same_rows s h) (room_stays s h) (spelled n) law)

      exact : (insertion (compacted s) (spelled n) ≡ denied 15 → free_bytes s < length (spelled n)) ×
          (free_bytes s < length (spelled n) → insertion (compacted s) (spelled n) ≡ denied 15)
      exact =
          room_in_all s h (spelled n) (omega
          (arith, (good_parts (spelled n) (and_l (lawful_name (spelled n)) (not (below_no_inferiors (store_rows s) (spelled n))) law)).least)) few room

      go : (commanded 0 (compacted s) spaces l buffer).reply ≡ refusal 15 →
          (insertion (compacted s) (spelled n) ≡ denied 15) ⊎ Put (compacted s) (spelled n) → free_bytes s < length (spelled n)
      go r (inl q) = exact.0 q
      go r (inr w) = absurd (not_fifteen w.after (ap (λ (c : Commanded). c.reply) (sym (subscribe_comes (stored w.after) (puts ∙ w.made))) ∙
          r))
