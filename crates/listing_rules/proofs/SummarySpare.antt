-- Spare records past the 512th do not matter to a summary either (W13): a command over a store with its summary makes of the first 512 what it would make
-- of them alone, and leaves the others. Rests on SpareLaws and SummaryCommands.
use Rattle.listing_rules.proofs.Prelude.{◌∙◌, ◌≡◌, ap, refl, sym, Bool, cond, false, true, none, List, [], ◌++◌, ◌∷◌, append_assoc, append-nil}
use Rattle.listing_rules.proofs.Prelude.{◌<◌, ◌≤◌, min, suc, ℕ, arith, eqb, leb, drop, drop_of_length-le, length, length-append, length-take}
use Rattle.listing_rules.proofs.Prelude.{take, take-append-drop, drop-append-le, take_all, take-append-le, leb-false, leb-true}
use Rattle.listing_rules.specs.Names.{below}
use Rattle.listing_rules.specs.Table.{Row, has_row, flags_of, passes}
use Rattle.listing_rules.specs.Records.{Record}
use Rattle.listing_rules.specs.Readers.{is_reader}
use Rattle.listing_rules.specs.Command.{Edit, subscribe, unsubscribe, Parsed, refused, namespace, listing, root_of, subscriptions, editing}
use Rattle.listing_rules.specs.Command.{parsed}
use Rattle.listing_rules.specs.Subscriptions.{Store, store_table, store_rows, spelled, rows_before, with_subscribed, without_subscribed, stored}
use Rattle.listing_rules.specs.Subscriptions.{edited}
use Rattle.listing_rules.specs.Server.{Reply, refusal, answered, commanded}
use Rattle.listing_rules.specs.Summary.{Summary, counted, afresh, Summed, same_summaries, agrees, ancestors_resummed, resummed, no_summary, put_in}
use Rattle.listing_rules.specs.Summary.{taken_out, subscribing_sums, unsubscribing_sums, sums_edited, sums_after, SummedCommand, summed_command}
use Rattle.listing_rules.specs.Summary.{grown, summed_table, SummedCompaction, summed_compaction}
use Rattle.listing_rules.specs.Compaction.{compacted}
use Rattle.listing_rules.proofs.EditPasses.{store_parts, rows_count}
use Rattle.listing_rules.proofs.EditRows.{rows_with}
use Rattle.listing_rules.proofs.CommandLaws.{edit_stored_lem}
use Rattle.listing_rules.proofs.SubscriptionLaws.{row_set, edited_rows, edited_sizes}
use Rattle.listing_rules.proofs.SpareLaws.{with_spare, before_fewer, rows_spare, table_spare, too_many, beyond}
use Rattle.listing_rules.proofs.CompactionSpare.{compacted_spare}
use Rattle.listing_rules.proofs.SummaryAlike.{grown_fails}
use Rattle.listing_rules.proofs.SummaryLaws.{lower_than, higher_than, gap_split}
use Rattle.listing_rules.proofs.SummaryLengths.{resummed_length}
use Rattle.listing_rules.proofs.SummaryCommands.{with_sums, untouched, stranger_summed, unsound_summed, disagrees_refused, summed_as}
use Rattle.listing_rules.proofs.SummaryCommands.{answer_passed}

-- a store with more spare records at its end, and more numbers; and what a command over it comes to
abbrev pub with_more : Summed → List Record → List Summary → Summed
with_more m z y = record { store = with_spare m.store z; summary = m.summary ++ y }

abbrev pub command_with : List Record → List Summary → SummedCommand → SummedCommand
command_with z y c = record { reply = c.reply; left = with_more c.left z y }

abbrev pub compaction_more : List Record → List Summary → SummedCompaction → SummedCompaction
compaction_more z y c = record { number = c.number; left = with_more c.left z y }

-- the numbers of rows, and of places, among the first ones
resummed_more : (f g : ℕ) (n : List ℕ) (rs : List Row) (ms y : List Summary) → length rs ≤ length ms
    → ancestors_resummed f g n rs (ms ++ y) ≡ ancestors_resummed f g n rs ms ++ y
unfolding ancestors_resummed
resummed_more f g n [] ms y h = refl
resummed_more f g n (r ∷ rs) [] y h = absurd (omega (arith, h))
resummed_more f g n (r ∷ rs) (m ∷ ms) y h =
    ap (λ (l : List Summary). cond (below r.name n) (resummed f g m) m ∷ l) (resummed_more f g n rs ms y (omega (arith, h)))

put_more : (count k : ℕ) (x : Summary) (ms y : List Summary) → k ≤ count → count < length ms → put_in count k x (ms ++ y) ≡ put_in count k x ms ++ y
unfolding put_in
put_more count k x ms y low h =
    let first : take k (ms ++ y) ≡ take k ms = take-append-le k ms y (omega (arith, low, h)) in
    let moved : take count (ms ++ y) ≡ take count ms = take-append-le count ms y (omega (arith, h)) in
    let rest : drop (suc count) (ms ++ y) ≡ drop (suc count) ms ++ y = drop-append-le (suc count) ms y (omega (arith, h)) in
    (λ i. first i ++ (x ∷ (drop k (moved i) ++ rest i)))
    ∙ sym (append_assoc (take k ms) (x ∷ (drop k (take count ms) ++ drop (suc count) ms)) y
    ∙ ap (λ (l : List Summary). take k ms ++ (x ∷ l)) (append_assoc (drop k (take count ms)) (drop (suc count) ms) y))

out_more : (count k : ℕ) (ms y : List Summary) → k < count → count ≤ length ms → taken_out count k (ms ++ y) ≡ taken_out count k ms ++ y
unfolding taken_out
out_more count k ms y low h =
    let first : take k (ms ++ y) ≡ take k ms = take-append-le k ms y (omega (arith, low, h)) in
    let moved : take count (ms ++ y) ≡ take count ms = take-append-le count ms y h in
    let rest : drop count (ms ++ y) ≡ drop count ms ++ y = drop-append-le count ms y h in
    (λ i. first i ++ (drop (suc k) (moved i) ++ (no_summary ∷ rest i)))
    ∙ sym (append_assoc (take k ms) (drop (suc k) (take count ms) ++ (no_summary ∷ drop count ms)) y
    ∙ ap (λ (l : List Summary). take k ms ++ l) (append_assoc (drop (suc k) (take count ms)) (no_summary ∷ drop count ms) y))

module _ (m : Summed) (z : List Record) (y : List Summary) (full : length m.store.records ≡ 512) (sized : length m.summary ≡ 512) where
  abbrev more : Summed
  more = with_more m z y

  module _ (few : m.store.count ≤ 512) where
    agrees_more : agrees (with_more m z y) ≡ agrees m
    unfolding agrees
    agrees_more =
        let taken : take m.store.count (m.summary ++ y) ≡ take m.store.count m.summary = take-append-le m.store.count m.summary y
        (omega (arith, few, sized)) in
        λ i. same_summaries (taken i) (afresh (rows_spare m.store z full few i))

    -- an edit that is accepted
    module _ (t : Store) (h : passes (store_table m.store) ≡ true) where
      abbrev rs : List Row
      rs = store_rows m.store

      rows_are : length (store_rows m.store) ≡ m.store.count
      rows_are = rows_count m.store (store_parts m.store h).counted

      resum : (f g : ℕ) (n : List ℕ) →
          ancestors_resummed f g n (store_rows m.store) (m.summary ++ y) ≡ ancestors_resummed f g n (store_rows m.store) m.summary ++ y
      resum f g n = resummed_more f g n rs m.summary y (omega (arith, rows_are, few, sized))

      subscribing_more : (n : List ℕ) → store_rows t ≡ rows_with (store_rows m.store) n (row_set (store_rows m.store) n) → length (store_rows t) ≤ 512
          → subscribing_sums (with_more m z y) n ≡ subscribing_sums m n ++ y
      unfolding subscribing_sums rows_with rows_before
      subscribing_more n e room =
          (λ i. let rs = rows_spare m.store z full few i in let f = flags_of rs n in
          cond (has_row rs n) (ancestors_resummed f (with_subscribed f) n rs (m.summary ++ y))
          (put_in m.store.count (length (lower_than rs n)) (counted rs n) (ancestors_resummed 0 0x0002 n rs (m.summary ++ y))))
          ∙ go (has_row rs n) refl
        where
          go : (o : Bool) → has_row rs n ≡ o
              → cond o (ancestors_resummed (flags_of rs n) (with_subscribed (flags_of rs n)) n rs (m.summary ++ y))
              (put_in m.store.count (length (lower_than rs n)) (counted rs n) (ancestors_resummed 0 0x0002 n rs (m.summary ++ y)))
              ≡ cond o (ancestors_resummed (flags_of rs n) (with_subscribed (flags_of rs n)) n rs m.summary)
              (put_in m.store.count (length (lower_than rs n)) (counted rs n) (ancestors_resummed 0 0x0002 n rs m.summary)) ++ y
          go true k = resum (flags_of rs n) (with_subscribed (flags_of rs n)) n
          go false k =
              let split = ap length (gap_split m.store n (store_parts m.store h) k) in
              let before = length-append (lower_than rs n) (higher_than rs n) in
              let after = ap length e ∙ length-append (lower_than rs n) (row_set rs n ++ higher_than rs n) in
              let same = resummed_length 0 0x0002 n rs m.summary in
              ap (put_in m.store.count (length (lower_than rs n)) (counted rs n)) (resum 0 0x0002 n)
              ∙ put_more m.store.count (length (lower_than rs n)) (counted rs n) (ancestors_resummed 0 0x0002 n rs m.summary) y
              (omega (arith, split, before, rows_are)) (omega (arith, split, before, after, room, rows_are, same, sized))

      unsubscribing_more : (n : List ℕ) → unsubscribing_sums (with_more m z y) n ≡ unsubscribing_sums m n ++ y
      unfolding unsubscribing_sums
      unsubscribing_more n =
          (λ i. let rs = rows_spare m.store z full few i in let f = flags_of rs n in
          cond (has_row rs n) (cond (eqb f 0x0002) (taken_out m.store.count (rows_before rs n) (ancestors_resummed 0x0002 0 n rs (m.summary ++ y)))
          (ancestors_resummed f (without_subscribed f) n rs (m.summary ++ y))) (m.summary ++ y))
          ∙ go (has_row rs n) refl (eqb (flags_of rs n) 0x0002)
        where
          go : (o : Bool) → has_row rs n ≡ o → (b : Bool)
              → cond o (cond b (taken_out m.store.count (rows_before rs n) (ancestors_resummed 0x0002 0 n rs (m.summary ++ y)))
              (ancestors_resummed (flags_of rs n) (without_subscribed (flags_of rs n)) n rs (m.summary ++ y))) (m.summary ++ y)
              ≡ cond o (cond b (taken_out m.store.count (rows_before rs n) (ancestors_resummed 0x0002 0 n rs m.summary))
              (ancestors_resummed (flags_of rs n) (without_subscribed (flags_of rs n)) n rs m.summary)) m.summary ++ y
          go true k true =
              let same = resummed_length 0x0002 0 n rs m.summary in
              ap (taken_out m.store.count (rows_before rs n)) (resum 0x0002 0 n)
              ∙ out_more m.store.count (rows_before rs n) (ancestors_resummed 0x0002 0 n rs m.summary) y
              (omega (arith, before_fewer rs n k, rows_are)) (omega (arith, few, same, sized))
          go true k false = resum (flags_of rs n) (without_subscribed (flags_of rs n)) n
          go false k b = refl

      edited_more : (e : Edit) → edited m.store e ≡ stored t → sums_edited (with_more m z y) e ≡ sums_edited m e ++ y
      unfolding sums_edited
      edited_more (subscribe n) q =
          let sizes = edited_sizes m.store t (subscribe n) h q in
          subscribing_more (spelled n) (edited_rows m.store t (subscribe n) h q) (omega (arith, rows_count t sizes.2, sizes.2, sizes.0, full))
      edited_more (unsubscribe n) q = unsubscribing_more (spelled n)

    -- so is every command
    after_more : agrees m ≡ true → (reader : ℕ) (spaces l buffer : List ℕ)
        → sums_after (with_more m z y) (parsed l) (commanded reader m.store spaces l buffer).reply
        ≡ sums_after m (parsed l) (commanded reader m.store spaces l buffer).reply ++ y
    unfolding sums_after
    after_more a reader spaces l buffer = go (commanded reader m.store spaces l buffer).reply refl (parsed l) refl
      where
        go : (r : Reply) → (commanded reader m.store spaces l buffer).reply ≡ r → (p : Parsed) → parsed l ≡ p →
            sums_after more p r ≡ sums_after m p r ++ y
        go (refusal k) e (editing tag d) q = refl
        go (answered b) e (editing tag d) q =
            edited_more (commanded reader m.store spaces l buffer).store (answer_passed m a reader spaces l buffer b e) d
            (edit_stored_lem reader m.store spaces l buffer tag d q b e)
        go r e (refused k) q = refl
        go r e (namespace tag) q = refl
        go r e (listing tag o ps) q = refl
        go r e (root_of tag) q = refl
        go r e (subscriptions tag ps) q = refl

  -- names moved together over it (W7)
  pub beyond_compaction : summed_compaction (with_more m z y) ≡ compaction_more z y (summed_compaction m)
  unfolding summed_compaction
  beyond_compaction = go (leb m.store.count 512) refl
    where
      Both : Bool → Bool → Type 0
      Both a b =
          cond a (record { number = 0; left = record { store = compacted (with_spare m.store z); summary = m.summary ++ y } })
          (record { number = 1; left = more })
          ≡ compaction_more z y (cond b (record { number = 0; left = record { store = compacted m.store; summary = m.summary } })
          (record { number = 1; left = m }))

      both : m.store.count ≤ 512 → (b : Bool) → Both b b
      both h true =
          ap (λ (t : Store). record { number = 0; left = record { store = t; summary = m.summary ++ y } }) (compacted_spare m.store z full h)
      both h false = refl

      neither : (a b : Bool) → a ≡ false → b ≡ false → Both a b
      neither a b p q = rw (p, q)

      tables : m.store.count ≤ 512 → summed_table more ≡ summed_table m
      tables h = unfold summed_table grown in λ i. cond (agrees_more h i) (table_spare m.store z full h i) none

      go : (b : Bool) → leb m.store.count 512 ≡ b → Both (passes (summed_table more)) (passes (summed_table m))
      go true e = let h = leb-true m.store.count 512 e in rw (tables h) (both h (passes (summed_table m)))
      go false e =
          let h = leb-false m.store.count 512 e in
          neither (passes (summed_table more)) (passes (summed_table m)) (grown_fails more (too_many (with_spare m.store z) h))
          (grown_fails m (too_many m.store h))

  -- with 512 records before them, more spare records and their numbers are left alone
  pub beyond_summed : (reader : ℕ) (spaces l buffer : List ℕ)
      → summed_command reader (with_more m z y) spaces l buffer ≡ command_with z y (summed_command reader m spaces l buffer)
  beyond_summed reader spaces l buffer = who (is_reader reader) refl
    where
      Same : Type 0
      Same = summed_command reader more spaces l buffer ≡ command_with z y (summed_command reader m spaces l buffer)

      alone : (k : ℕ) → summed_command reader more spaces l buffer ≡ untouched more k → summed_command reader m spaces l buffer ≡ untouched m k → Same
      alone k e d = e ∙ ap (command_with z y) (sym d)

      agreed : (few : m.store.count ≤ 512) → agrees m ≡ true → Same
      agreed few a =
          summed_as more (agrees_more few ∙ a) reader spaces l buffer
          ∙ ap (with_sums more (parsed l)) (beyond reader m.store z full spaces l buffer)
          ∙ (let c = commanded reader m.store spaces l buffer in
          λ i. record { reply = c.reply; left = record { store = with_spare c.store z; summary = after_more few a reader spaces l buffer i } })
          ∙ ap (command_with z y) (sym (summed_as m a reader spaces l buffer))

      known : is_reader reader ≡ true → (few : m.store.count ≤ 512) → (b : Bool) → agrees m ≡ b → Same
      known r few true a = agreed few a
      known r few false a =
          alone 1 (disagrees_refused reader more spaces l buffer r (agrees_more few ∙ a)) (disagrees_refused reader m spaces l buffer r a)

      counted_so : is_reader reader ≡ true → (b : Bool) → leb m.store.count 512 ≡ b → Same
      counted_so r true e = known r (leb-true m.store.count 512 e) (agrees m) refl
      counted_so r false e =
          let h = leb-false m.store.count 512 e in
          alone 1 (unsound_summed reader more spaces l buffer r (too_many (with_spare m.store z) h))
          (unsound_summed reader m spaces l buffer r (too_many m.store h))

      who : (b : Bool) → is_reader reader ≡ b → Same
      who true r = counted_so r (leb m.store.count 512) refl
      who false r = alone 16 (stranger_summed reader more spaces l buffer r) (stranger_summed reader m spaces l buffer r)

-- An entry looks at no more than 512 records and their numbers.
pub summed_front : (reader : ℕ) (rs : List Record) (ms : List Summary) (n : ℕ) → length rs ≡ length ms → n ≡ min (length rs) 512
    → (count : ℕ) (area spaces l buffer : List ℕ)
    → summed_command reader (record { store = record { records = rs; count = count; area = area }; summary = ms }) spaces l buffer
    ≡ command_with (drop n rs) (drop n ms)
    (summed_command reader (record { store = record { records = take n rs; count = count; area = area }; summary = take n ms }) spaces l buffer)
summed_front reader rs ms n same e count area spaces l buffer = go (leb (length rs) 512) refl
  where
    over : List Record → List Summary → Summed
    over k j = record { store = record { records = k; count = count; area = area }; summary = j }

    go : (b : Bool) → leb (length rs) 512 ≡ b
        → summed_command reader (over rs ms) spaces l buffer ≡ command_with (drop n rs) (drop n ms)
        (summed_command reader (over (take n rs) (take n ms)) spaces l buffer)
    go true q =
        let all : length rs ≤ n = omega (arith, e, leb-true (length rs) 512 q) in
        let every : length ms ≤ n = omega (arith, all, same) in
        let c = summed_command reader (over rs ms) spaces l buffer in
        sym (λ i. record {
          reply = c.reply;
          left = record {
            store = record { records = append-nil c.left.store.records i; count = c.left.store.count; area = c.left.store.area };
            summary = append-nil c.left.summary i;
          };
        })
        ∙ sym (λ i. command_with (drop_of_length-le rs all i) (drop_of_length-le ms every i)
        (summed_command reader (over (take_all n rs all i) (take_all n ms every i)) spaces l buffer))
    go false q =
        let long : 512 < length rs = leb-false (length rs) 512 q in
        (λ i. summed_command reader (over (sym (take-append-drop n rs) i) (sym (take-append-drop n ms) i)) spaces l buffer)
        ∙ beyond_summed (over (take n rs) (take n ms)) (drop n rs) (drop n ms) (omega (arith, e, long, length-take n rs))
        (omega (arith, e, long, same, length-take n ms)) reader spaces l buffer

pub compaction_front : (rs : List Record) (ms : List Summary) (n : ℕ) → length rs ≡ length ms → n ≡ min (length rs) 512 → (count : ℕ) (area : List ℕ)
    → summed_compaction (record { store = record { records = rs; count = count; area = area }; summary = ms })
    ≡ compaction_more (drop n rs) (drop n ms)
    (summed_compaction (record { store = record { records = take n rs; count = count; area = area }; summary = take n ms }))
compaction_front rs ms n same e count area = go (leb (length rs) 512) refl
  where
    over : List Record → List Summary → Summed
    over k j = record { store = record { records = k; count = count; area = area }; summary = j }

    go : (b : Bool) → leb (length rs) 512 ≡ b
        → summed_compaction (over rs ms) ≡ compaction_more (drop n rs) (drop n ms) (summed_compaction (over (take n rs) (take n ms)))
    go true q =
        let all : length rs ≤ n = omega (arith, e, leb-true (length rs) 512 q) in
        let every : length ms ≤ n = omega (arith, all, same) in
        let c = summed_compaction (over rs ms) in
        sym (λ i. record {
          number = c.number;
          left = record {
            store = record { records = append-nil c.left.store.records i; count = c.left.store.count; area = c.left.store.area };
            summary = append-nil c.left.summary i;
          };
        })
        ∙ sym (λ i. compaction_more (drop_of_length-le rs all i) (drop_of_length-le ms every i)
        (summed_compaction (over (take_all n rs all i) (take_all n ms every i))))
    go false q =
        let long : 512 < length rs = leb-false (length rs) 512 q in
        (λ i. summed_compaction (over (sym (take-append-drop n rs) i) (sym (take-append-drop n ms) i)))
        ∙ beyond_compaction (over (take n rs) (take n ms)) (drop n rs) (drop n ms) (omega (arith, e, long, length-take n rs))
        (omega (arith, e, long, same, length-take n ms))
