-- Spare records past the 512th do not matter to a replay either (W14): a log makes of the first 512 what it would make of them alone, and leaves the
-- others. Rests on SummarySpare and ReplayPieces.
use Rattle.listing_rules.proofs.Prelude.{◌∙◌, ◌≡◌, ap, refl, sym, subst, Bool, cond, false, true, Option, none, some, List, [], ◌∷◌}
use Rattle.listing_rules.proofs.Prelude.{append-nil, ◌<◌, ◌≤◌, min, suc, ℕ, arith, eqb, leb, drop, drop_of_length-le, length, length-replicate}
use Rattle.listing_rules.proofs.Prelude.{length-take, replicate, take, take-append-drop, take_all, leb-false, leb-true}
use Rattle.listing_rules.specs.Bytes.{LF}
use Rattle.listing_rules.specs.Records.{Record}
use Rattle.listing_rules.specs.Readers.{is_reader}
use Rattle.listing_rules.specs.Command.{Parsed, refused, namespace, listing, root_of, subscriptions, editing, is_edit, parsed}
use Rattle.listing_rules.specs.Subscriptions.{Store}
use Rattle.listing_rules.specs.Server.{Reply, refusal, answered, Commanded, commanded}
use Rattle.listing_rules.specs.Summary.{Summary, Summed, agrees, sums_after, SummedCommand, summed_command}
use Rattle.listing_rules.specs.Replay.{Logged, asked, recorded, unreadable, read_logged, same_reply, noted, Replayed, replay, rerun, Due}
use Rattle.listing_rules.specs.Replay.{command_due, answer_due, Replaying, replay_start, waiting, stopped_at, frame_ended, with_character, replay_on}
use Rattle.listing_rules.specs.Replay.{replay_byte, replay_all, reporting, verdict_at_end, replay_end}
use Rattle.listing_rules.proofs.CommandLaws.{refused_leaves, read_leaves, edit_stored_lem}
use Rattle.listing_rules.proofs.SubscriptionLaws.{edited_sizes}
use Rattle.listing_rules.proofs.SummaryLengths.{edited_length}
use Rattle.listing_rules.proofs.SummaryCommands.{untouched, refused_sums, stranger_summed, disagrees_refused, summed_as, answer_passed}
use Rattle.listing_rules.proofs.SummarySpare.{with_more, command_with, beyond_summed}
use Rattle.listing_rules.proofs.ProgramStore.{command_over_records}
use Rattle.listing_rules.proofs.ReplayPieces.{replay_in_pieces}

-- 512 records, and a number for each
pub record Full (m : Summed) : Type 0 where
  pub records : length m.store.records ≡ 512
  pub numbers : length m.summary ≡ 512

-- a command leaves as many
module _ (m : Summed) (f : Full m) (reader : ℕ) (spaces l buffer : List ℕ) where
  abbrev plain : Commanded
  plain = commanded reader m.store spaces l buffer

  refused_full : (k : ℕ) → summed_command reader m spaces l buffer ≡ untouched m k → Full (summed_command reader m spaces l buffer).left
  refused_full k e = subst (λ (c : SummedCommand). Full c.left) (sym e) f

  agreed_full : agrees m ≡ true → Full (summed_command reader m spaces l buffer).left
  unfolding sums_after is_edit
  agreed_full a =
      subst (λ (c : SummedCommand). Full c.left) (sym (summed_as m a reader spaces l buffer)) (go plain.reply refl (parsed l) refl)
    where
      as_it_was : plain.store ≡ m.store → (x : List Summary) → x ≡ m.summary → Full (record { store = plain.store; summary = x })
      as_it_was d x e = record { records = ap (λ (s : Store). length s.records) d ∙ f.records; numbers = ap length e ∙ f.numbers }

      reads : (p : Parsed) → parsed l ≡ p → is_edit p ≡ false → plain.store ≡ m.store
      reads p q n = read_leaves reader m.store spaces l buffer (ap is_edit q ∙ n)

      go : (r : Reply) → plain.reply ≡ r → (p : Parsed) → parsed l ≡ p → Full (record { store = plain.store; summary = sums_after m p r })
      go (refusal k) e p q = as_it_was (refused_leaves reader m.store spaces l buffer k e) (sums_after m p (refusal k)) (refused_sums m p k)
      go (answered b) e (editing tag d) q =
          let passed = answer_passed m a reader spaces l buffer b e in
          let made = edit_stored_lem reader m.store spaces l buffer tag d q b e in
          record {
            records = (edited_sizes m.store plain.store d passed made).0 ∙ f.records;
            numbers = edited_length m plain.store passed (f.numbers ∙ sym f.records) d made ∙ f.numbers;
          }
      go (answered b) e (refused j) q = as_it_was (reads (refused j) q refl) m.summary refl
      go (answered b) e (namespace tag) q = as_it_was (reads (namespace tag) q refl) m.summary refl
      go (answered b) e (listing tag o ps) q = as_it_was (reads (listing tag o ps) q refl) m.summary refl
      go (answered b) e (root_of tag) q = as_it_was (reads (root_of tag) q refl) m.summary refl
      go (answered b) e (subscriptions tag ps) q = as_it_was (reads (subscriptions tag ps) q refl) m.summary refl

  stays_full : Full (summed_command reader m spaces l buffer).left
  stays_full = who (is_reader reader) refl (agrees m) refl
    where
      who : (b : Bool) → is_reader reader ≡ b → (c : Bool) → agrees m ≡ c → Full (summed_command reader m spaces l buffer).left
      who true r true a = agreed_full a
      who true r false a = refused_full 1 (disagrees_refused reader m spaces l buffer r a)
      who false r c a = refused_full 16 (stranger_summed reader m spaces l buffer r)

abbrev buffer : List ℕ
buffer = replicate 16384 0

size : length buffer ≡ 16384
size = length-replicate {A = ℕ} 16384 0

-- a replay over a store with more spare records, and what it reports
abbrev pub replaying_more : List Record → List Summary → Replaying → Replaying
replaying_more z y r =
    record { frames = r.frames; due = r.due; first = r.first; stop = r.stop; left = with_more r.left z y; partial = r.partial }

abbrev pub report_more : List Record → List Summary → Replayed → Replayed
report_more z y r = record { verdict = r.verdict; left = with_more r.left z y }

module _ (spaces : List ℕ) where
  rerun_full : (m : Summed) → Full m → (reader : ℕ) (l : List ℕ) → Full (rerun spaces m reader l).left
  unfolding rerun
  rerun_full m f reader l =
      subst (λ (c : SummedCommand). Full c.left) (sym (command_over_records reader m spaces l buffer size)) (stays_full m f reader spaces l buffer)

  frame_full : (n : ℕ) (d : Due) (first : Option ℕ) (m : Summed) (g : Logged) → Full m → Full (frame_ended spaces n d first m g).left
  unfolding frame_ended waiting stopped_at
  frame_full n command_due first m (asked reader l) f = f
  frame_full n command_due first m (recorded r) f = f
  frame_full n command_due first m unreadable f = f
  frame_full n (answer_due reader l) first m (asked q k) f = f
  frame_full n (answer_due reader l) first m unreadable f = f
  frame_full n (answer_due reader l) first m (recorded r) f = rerun_full m f reader l

  pub byte_full : (r : Replaying) (c : ℕ) → Full r.left → Full (replay_byte spaces r c).left
  unfolding replay_byte replay_on with_character
  byte_full r c f = go r.stop
    where
      on : (b : Bool) →
          Full (cond {A = Replaying} b (frame_ended spaces r.frames r.due r.first r.left (read_logged r.partial))
          (with_character r c)).left
      on true = frame_full r.frames r.due r.first r.left (read_logged r.partial) f
      on false = f

      after : Option ℕ → Replaying
      after s = elim s [ none ↦ replay_on spaces r c | some k ↦ r ]

      go : (s : Option ℕ) → Full (after s).left
      go none = on (eqb c LF)
      go (some k) = f

  module _ (z : List Record) (y : List Summary) where
    rerun_more : (m : Summed) → Full m → (reader : ℕ) (l : List ℕ) →
        rerun spaces (with_more m z y) reader l ≡ command_with z y (rerun spaces m reader l)
    unfolding rerun
    rerun_more m f reader l =
        command_over_records reader (with_more m z y) spaces l buffer size
        ∙ beyond_summed m z y f.records f.numbers reader spaces l buffer
        ∙ ap (command_with z y) (sym (command_over_records reader m spaces l buffer size))

    frame_more : (n : ℕ) (d : Due) (first : Option ℕ) (m : Summed) (g : Logged) → Full m
        → frame_ended spaces n d first (with_more m z y) g ≡ replaying_more z y (frame_ended spaces n d first m g)
    unfolding frame_ended waiting stopped_at
    frame_more n command_due first m (asked reader l) f = refl
    frame_more n command_due first m (recorded r) f = refl
    frame_more n command_due first m unreadable f = refl
    frame_more n (answer_due reader l) first m (asked q k) f = refl
    frame_more n (answer_due reader l) first m unreadable f = refl
    frame_more n (answer_due reader l) first m (recorded r) f =
        ap (λ (c : SummedCommand). waiting (suc n) command_due (noted n (same_reply r c.reply) first) c.left) (rerun_more m f reader l)

    pub byte_more : (r : Replaying) (c : ℕ) → Full r.left → replay_byte spaces (replaying_more z y r) c ≡ replaying_more z y (replay_byte spaces r c)
    unfolding replay_byte replay_on with_character
    byte_more r c f = go r.stop
      where
        on : (b : Bool)
            → cond b (frame_ended spaces r.frames r.due r.first (with_more r.left z y) (read_logged r.partial))
            (with_character (replaying_more z y r) c)
            ≡ replaying_more z y (cond b (frame_ended spaces r.frames r.due r.first r.left (read_logged r.partial)) (with_character r c))
        on true = frame_more r.frames r.due r.first r.left (read_logged r.partial) f
        on false = refl

        go : (s : Option ℕ) → elim s [ none ↦ replay_on spaces (replaying_more z y r) c | some k ↦ replaying_more z y r ]
            ≡ replaying_more z y (elim s [ none ↦ replay_on spaces r c | some k ↦ r ])
        go none = on (eqb c LF)
        go (some k) = refl

    pub all_more : (r : Replaying) (log : List ℕ) → Full r.left →
        replay_all spaces (replaying_more z y r) log ≡ replaying_more z y (replay_all spaces r log)
    unfolding replay_all
    all_more r [] f = refl
    all_more r (c ∷ t) f =
        ap (λ (x : Replaying). replay_all spaces x t) (byte_more r c f) ∙ all_more (replay_byte spaces r c) t (byte_full r c f)

-- of records and numbers, as many of the one as of the other, the first 512
module _ (spaces : List ℕ) (rs : List Record) (ms : List Summary) (n : ℕ) (same : length rs ≡ length ms) (e : n ≡ min (length rs) 512) (count : ℕ)
    (area : List ℕ) where
  abbrev over : List Record → List Summary → Summed
  over k j = record { store = record { records = k; count = count; area = area }; summary = j }

  -- a log goes over them, from any replay on
  pub all_front : (r : Replaying) → r.left ≡ over (take n rs) (take n ms) → (log : List ℕ)
      → replay_all spaces (record { frames = r.frames; due = r.due; first = r.first; stop = r.stop; left = over rs ms; partial = r.partial }) log
      ≡ replaying_more (drop n rs) (drop n ms) (replay_all spaces r log)
  all_front r q log = go (leb (length rs) 512) refl
    where
      at : Summed → Replaying
      at m = record { frames = r.frames; due = r.due; first = r.first; stop = r.stop; left = m; partial = r.partial }

      as_it_is : replay_all spaces r log ≡ replay_all spaces (at (over (take n rs) (take n ms))) log
      as_it_is = ap (λ (m : Summed). replay_all spaces (at m) log) q

      none_more : (x : Replaying) → x ≡ replaying_more [] [] x
      none_more x =
          λ i. record {
            frames = x.frames;
            due = x.due;
            first = x.first;
            stop = x.stop;
            left = record {
              store = record {
                records = sym (append-nil x.left.store.records) i;
                count = x.left.store.count;
                area = x.left.store.area;
              };
              summary = sym (append-nil x.left.summary) i;
            };
            partial = x.partial;
          }

      go : (b : Bool) → leb (length rs) 512 ≡ b →
          replay_all spaces (at (over rs ms)) log ≡ replaying_more (drop n rs) (drop n ms) (replay_all spaces r log)
      go true h =
          let all : length rs ≤ n = omega (arith, e, leb-true (length rs) 512 h) in
          let every : length ms ≤ n = omega (arith, all, same) in
          none_more (replay_all spaces (at (over rs ms)) log)
          ∙ sym (λ i. replaying_more (drop_of_length-le rs all i) (drop_of_length-le ms every i)
          (replay_all spaces (at (over (take_all n rs all i) (take_all n ms every i))) log))
          ∙ ap (replaying_more (drop n rs) (drop n ms)) (sym as_it_is)
      go false h =
          let long : 512 < length rs = leb-false (length rs) 512 h in
          (λ i. replay_all spaces (at (over (sym (take-append-drop n rs) i) (sym (take-append-drop n ms) i))) log)
          ∙ all_more spaces (drop n rs) (drop n ms) (at (over (take n rs) (take n ms))) log
          (record { records = omega (arith, e, long, length-take n rs); numbers = omega (arith, e, long, same, length-take n ms) })
          ∙ ap (replaying_more (drop n rs) (drop n ms)) (sym as_it_is)

  pub end_more : (z : List Record) (y : List Summary) (r : Replaying) → replay_end (replaying_more z y r) ≡ report_more z y (replay_end r)
  unfolding replay_end reporting verdict_at_end
  end_more z y r = go r.stop
    where
      go : (s : Option ℕ)
          → ◌≡◌ {A = Replayed} (record { verdict = verdict_at_end s (replaying_more z y r); left = with_more r.left z y })
          (record { verdict = verdict_at_end s r; left = with_more r.left z y })
      go none = refl
      go (some k) = refl

  -- and a whole log
  pub replay_front : (log : List ℕ)
      → replay (over rs ms) spaces log ≡ report_more (drop n rs) (drop n ms) (replay (over (take n rs) (take n ms)) spaces log)
  unfolding replay_start
  replay_front log =
      sym (replay_in_pieces (over rs ms) spaces log)
      ∙ ap replay_end (all_front (replay_start (over (take n rs) (take n ms))) refl log)
      ∙ end_more (drop n rs) (drop n ms) (replay_all spaces (replay_start (over (take n rs) (take n ms))) log)
      ∙ ap (report_more (drop n rs) (drop n ms)) (replay_in_pieces (over (take n rs) (take n ms)) spaces log)
