-- The numbers that the plan for an edit leaves of a summary that agrees are what the edit leaves by the definitions (W13). Rests on SumLaws and
-- SummaryLaws.
use Rattle.std.specs.Prelude.{Ok, Err}
use Rattle.listing_rules.proofs.Prelude.{◌∙◌, ◌≡◌, ap, refl, sym, Bool, ◌&&◌, cond, false, false≢true, not, true, Option, none, some, List, [], ◌++◌}
use Rattle.listing_rules.proofs.Prelude.{◌∷◌, map, map-append, ◌<◌, ◌≤◌, ℕ, arith, eqb, ltb, get_or, length, length-append, length-map, take}
use Rattle.listing_rules.proofs.Prelude.{get_or-append_seam, subst, eqb-true, ltb-true, lt-ltb, length-take-le, inl, inr, ◌+◌}
use Rattle.listing_rules.specs.Names.{lawful_name}
use Rattle.listing_rules.specs.Table.{Row, has_row, flags_of, passes}
use Rattle.listing_rules.specs.Records.{Record, record_rows}
use Rattle.listing_rules.specs.Subscriptions.{Store, store_table, held, store_rows, rows_before, below_no_inferiors, free_from, lowest_run, with_subscribed}
use Rattle.listing_rules.specs.Subscriptions.{without_subscribed, nth, spelled}
use Rattle.listing_rules.specs.Command.{Edit, subscribe, unsubscribe}
use Rattle.listing_rules.specs.Server.{changes}
use Rattle.listing_rules.specs.Summary.{Summary, afresh, same_summaries, agrees, sums_edited, counted, Summed, ancestors_resummed, put_in, taken_out}
use Rattle.listing_rules.specs.Summary.{subscribing_sums, unsubscribing_sums}
use Rattle.records.specs.Lent.{words_summed}
use Rattle.subscriptions.specs.Plans.{Decision, subscribes, edited_name, setting_plan, clearing_plan, room_plan, fresh_plan, plan_for}
use Rattle.listing_rules.specs.Bytes.{bit}
use Rattle.listing_rules.specs.Flags.{subscribed}
use Rattle.listing_rules.specs.Listing.{implied}
use Rattle.listing_rules.proofs.NameFlags.{implied_flags}
use Rattle.subscriptions.specs.Applied.{change_of}
use Rattle.listing_rules.proofs.Bools.{and_r}
use Rattle.listing_rules.proofs.ListLaws.{map_take}
use Rattle.listing_rules.proofs.EditPasses.{StoreParts, store_parts, rows_count}
use Rattle.listing_rules.proofs.SummaryLaws.{row_for, lower_than, higher_than, row_split, gap_split}
use Rattle.records.specs.Words.{record_of}
use Rattle.mailbox_table.specs.Words.{row_of_word}
use Rattle.mailbox_table.specs.Index.{rows_at}
use Rattle.mailbox_table.proofs.WordLaws.{rows_records}
use Rattle.mailbox_table.proofs.IndexLaws.{rows_length}
use Rattle.records.specs.Numbers.{summary_of}
use Rattle.summary.specs.Counts.{one_word, words_agree}
use Rattle.summary.proofs.AgreeLaws.{row_at}
use Rattle.subscriptions.specs.declared.Plan.TheVariants.{Keep, Flag, Insert, Remove}
use Rattle.subscriptions.specs.Stored.{whole_store, plan_of, is_done, KeepsSums}
use Rattle.subscriptions.specs.Resums.{Resums}
use Rattle.subscriptions.specs.Summed.{FlagSums, SumsFit, numbers_after}
use Rattle.listing_rules.proofs.SpareLaws.{before_most, before_fewer}
use Rattle.subscriptions.proofs.PlaceLaws.{rows_are, flags_are}
use Rattle.subscriptions.proofs.SumLaws.{resums_had, insert_meant, set_meant, clear_meant}

module _ (area all sums : List ℕ) (count : ℕ) (h : passes (store_table (whole_store all count area)) ≡ true)
    (agree : words_agree area (take count all) sums ≡ true) where
  abbrev s : Store
  s = whole_store all count area

  abbrev ws : List ℕ
  ws = take count all

  abbrev m : Summed
  m = record { store = whole_store all count area; summary = map summary_of sums }

  sp : StoreParts (whole_store all count area)
  sp = store_parts s h

  rows_same : rows_at area (take count all) ≡ store_rows (whole_store all count area)
  unfolding store_rows held
  rows_same = rows_records area (take count all) ∙ ap (record_rows area) (map_take record_of count all)

  many : length (take count all) ≡ count
  many = sym (rows_length area (take count all)) ∙ ap length rows_same ∙ rows_count s sp.counted

  few : length (take count all) ≤ 512
  few = omega (arith, sp.parts.few, ap length rows_same, rows_length area (take count all))

  module _ (n : List ℕ) where
    abbrev k : ℕ
    k = rows_before (store_rows (whole_store all count area)) n

    abbrev f : ℕ
    f = flags_of (store_rows (whole_store all count area)) n

    -- the flags at the place of the name
    own_flags : has_row (store_rows (whole_store all count area)) n ≡ true → (row_of_word (get_or (take count all) k 0)).flags.bits ≡ f
    unfolding rows_before
    own_flags e =
        let lower = lower_than (store_rows s) n in
        let upper = higher_than (store_rows s) n in
        let parts : rows_at area ws ≡ lower ++ ((row_for f n ∷ []) ++ upper) = rows_same ∙ row_split s n sp e in
        let within : length lower < length ws = omega (arith, ap length parts, rows_length area ws, length-append lower (row_for f n ∷ upper)) in
        sym (row_at (λ (r : Row). r.flags) 0 area ws (length lower) within)
        ∙ ap (λ (l : List Row). get_or (map (λ (r : Row). r.flags) l) (length lower) 0) parts
        ∙ ap (λ (l : List ℕ). get_or l (length lower) 0) (map-append (λ (r : Row). r.flags) lower (row_for f n ∷ upper))
        ∙ ap (λ (j : ℕ). get_or (map (λ (r : Row). r.flags) lower ++ (f ∷ map (λ (r : Row). r.flags) upper)) j 0)
        (sym (length-map lower (λ (r : Row). r.flags)))
        ∙ get_or-append_seam (map (λ (r : Row). r.flags) lower) f (map (λ (r : Row). r.flags) upper) 0

    -- a name that has a row
    pub set_row_meant : has_row (store_rows (whole_store all count area)) n ≡ true
        → map summary_of (numbers_after (Ok (setting_plan k f)) sums (take count all) area n) ≡ subscribing_sums m n
    unfolding subscribing_sums
    set_row_meant e =
        set_meant area ws sums n few agree (lower_than (store_rows s) n) (higher_than (store_rows s) n) k f (own_flags e) (rows_same ∙ row_split s n sp e)
        ∙ (λ i. ancestors_resummed f (with_subscribed f) n (rows_same i) (map summary_of sums))
        ∙ sym (ap (λ (o : Bool). cond o (ancestors_resummed f (with_subscribed f) n (store_rows s) (map summary_of sums))
        (put_in count k (counted (store_rows s) n) (ancestors_resummed 0 0x0002 n (store_rows s) (map summary_of sums)))) e)

    pub clear_row_meant : has_row (store_rows (whole_store all count area)) n ≡ true
        → map summary_of (numbers_after (Ok (clearing_plan k f)) sums (take count all) area n) ≡ unsubscribing_sums m n
    unfolding unsubscribing_sums
    clear_row_meant e =
        clear_meant area ws sums n few agree (lower_than (store_rows s) n) (higher_than (store_rows s) n) k f (own_flags e)
        (rows_same ∙ row_split s n sp e)
        ∙ (λ i. cond (eqb f 0x0002) (taken_out (many i) k (ancestors_resummed 0x0002 0 n (rows_same i) (map summary_of sums)))
        (ancestors_resummed f (without_subscribed f) n (rows_same i) (map summary_of sums)))
        ∙ sym (ap (λ (o : Bool). cond o (cond (eqb f 0x0002) (taken_out count k (ancestors_resummed 0x0002 0 n (store_rows s) (map summary_of sums)))
        (ancestors_resummed f (without_subscribed f) n (store_rows s) (map summary_of sums))) (map summary_of sums)) e)

    -- a name that has none
    pub put_row_meant : has_row (store_rows (whole_store all count area)) n ≡ false → (start : ℕ)
        → map summary_of (numbers_after (Ok (Insert k start)) sums (take count all) area n) ≡ subscribing_sums m n
    unfolding subscribing_sums numbers_after
    put_row_meant e start =
        insert_meant area ws sums n few agree (lower_than (store_rows s) n) (higher_than (store_rows s) n) (rows_same ∙ gap_split s n sp e) k
        ∙ (λ i. put_in (many i) k (counted (rows_same i) n) (ancestors_resummed 0 0x0002 n (rows_same i) (map summary_of sums)))
        ∙ sym (ap (λ (o : Bool). cond o (ancestors_resummed f (with_subscribed f) n (store_rows s) (map summary_of sums))
        (put_in count k (counted (store_rows s) n) (ancestors_resummed 0 0x0002 n (store_rows s) (map summary_of sums)))) e)

    pub left_meant : has_row (store_rows (whole_store all count area)) n ≡ false →
        map summary_of (numbers_after (Ok Keep) sums (take count all) area n) ≡ unsubscribing_sums m n
    unfolding unsubscribing_sums numbers_after
    left_meant e =
        sym (ap (λ (o : Bool). cond o (cond (eqb f 0x0002) (taken_out count k (ancestors_resummed 0x0002 0 n (store_rows s) (map summary_of sums)))
        (ancestors_resummed f (without_subscribed f) n (store_rows s) (map summary_of sums))) (map summary_of sums)) e)

    -- the rows and the flags that the plan goes by
    rows_of : record_rows area (map record_of (take count all)) ≡ store_rows (whole_store all count area)
    rows_of = rows_are area (take count all) ∙ rows_same

    plan_flags : has_row (store_rows (whole_store all count area)) n ≡ true → (nth (map record_of (take count all)) k).flags ≡ f
    plan_flags e = flags_are ws k (omega (arith, before_fewer (store_rows s) n e, ap length rows_same, rows_length area ws)) ∙ own_flags e

    fresh_inserts : (rs : List Record) (lent j : ℕ) → is_done (fresh_plan rs lent area j n) ≡ true →
        (start : ℕ) × (fresh_plan rs lent area j n ≡ Ok (Insert j start))
    unfolding fresh_plan room_plan
    fresh_inserts rs lent j e =
        go (lawful_name n && not (below_no_inferiors (record_rows area rs) n)) (lowest_run (length n) 0 (free_from rs 0 area))
        (ltb (length rs) 512 && ltb (length rs) lent) e
      where
        go : (b : Bool) (o : Option ℕ) (room : Bool) → is_done (cond b (room_plan j room o) (Err 14)) ≡ true
            → (start : ℕ) × (cond b (room_plan j room o) (Err 14) ≡ Ok (Insert j start))
        go true none room q = absurd (false≢true q)
        go true (some start) true q = (start, refl)
        go true (some start) false q = absurd (false≢true q)
        go false o room q = absurd (false≢true q)

    -- SUBSCRIBE and UNSUBSCRIBE
    pub subscribe_meant : (lent : ℕ) → is_done (plan_for (map record_of (take count all)) lent area true n) ≡ true
        → map summary_of (numbers_after (plan_for (map record_of (take count all)) lent area true n) sums (take count all) area n) ≡ subscribing_sums m n
    subscribe_meant lent e =
        ap (λ (p : Decision). map summary_of (numbers_after p sums ws area n)) plan
        ∙ go (has_row (store_rows s) n) refl (sym (ap is_done plan) ∙ e)
      where
        fresh : Decision
        fresh = fresh_plan (map record_of (take count all)) lent area k n

        plan : plan_for (map record_of (take count all)) lent area true n
            ≡ cond (has_row (store_rows s) n) (Ok (setting_plan k (nth (map record_of (take count all)) k).flags))
            (fresh_plan (map record_of (take count all)) lent area k n)
        plan = unfold plan_for in
            ap (λ (rs : List Row). cond (has_row rs n) (Ok (setting_plan (rows_before rs n) (nth (map record_of ws) (rows_before rs n)).flags))
            (fresh_plan (map record_of ws) lent area (rows_before rs n) n)) rows_of

        go : (o : Bool) → has_row (store_rows s) n ≡ o → is_done (cond o (Ok (setting_plan k (nth (map record_of ws) k).flags)) fresh) ≡ true
            → map summary_of (numbers_after (cond o (Ok (setting_plan k (nth (map record_of ws) k).flags)) fresh) sums ws area n) ≡ subscribing_sums m n
        go true q d = ap (λ (x : ℕ). map summary_of (numbers_after (Ok (setting_plan k x)) sums ws area n)) (plan_flags q) ∙ set_row_meant q
        go false q d =
            let w = fresh_inserts (map record_of ws) lent k d in
            ap (λ (p : Decision). map summary_of (numbers_after p sums ws area n)) w.1 ∙ put_row_meant q w.0

    pub unsubscribe_meant : (lent : ℕ) →
        map summary_of (numbers_after (plan_for (map record_of (take count all)) lent area false n) sums (take count all) area n) ≡ unsubscribing_sums m n
    unsubscribe_meant lent = ap (λ (p : Decision). map summary_of (numbers_after p sums ws area n)) plan ∙ go (has_row (store_rows s) n) refl
      where
        plan : plan_for (map record_of (take count all)) lent area false n
            ≡ cond (has_row (store_rows s) n) (Ok (clearing_plan k (nth (map record_of (take count all)) k).flags)) (Ok Keep)
        plan = unfold plan_for in
            ap (λ (rs : List Row). cond (has_row rs n) (Ok (clearing_plan (rows_before rs n) (nth (map record_of ws) (rows_before rs n)).flags)) (Ok Keep)) rows_of

        go : (o : Bool) → has_row (store_rows s) n ≡ o
            → map summary_of (numbers_after (cond o (Ok (clearing_plan k (nth (map record_of ws) k).flags)) (Ok Keep)) sums ws area n) ≡ unsubscribing_sums m n
        go true q = ap (λ (x : ℕ). map summary_of (numbers_after (Ok (clearing_plan k x)) sums ws area n)) (plan_flags q) ∙ clear_row_meant q
        go false q = left_meant q

    no_row_flags : (rs : List Row) (m : List ℕ) → has_row rs m ≡ false → flags_of rs m ≡ 0
    no_row_flags rs m e = implied_flags rs m (unfold implied in ap not e)

    -- whether a row changes: exactly where the subscription was another before
    changed : Decision → Bool
    changed p = ltb (change_of p count).from (change_of p count).to

    -- flags 0002, and none
    alone : subscribed 0x0002 ≡ true
    unfolding subscribed bit
    alone = refl

    none_subscribed : subscribed 0 ≡ false
    unfolding subscribed bit
    none_subscribed = refl

    below_count : has_row (store_rows s) n ≡ true → k < count
    below_count e = omega (arith, before_fewer (store_rows s) n e, ap length rows_same, rows_length area ws, many)

    set_changes : changed (Ok (setting_plan k f)) ≡ not (subscribed f)
    unfolding changed change_of setting_plan
    set_changes = go (subscribed f)
      where
        go : (o : Bool) → changed (Ok (cond o Keep (Flag k (with_subscribed f)))) ≡ not o
        go true = refl
        go false = lt-ltb k (k + 1) (omega arith)

    clear_changes : has_row (store_rows s) n ≡ true → changed (Ok (clearing_plan k f)) ≡ subscribed f
    unfolding changed change_of clearing_plan
    clear_changes e = go (eqb f 0x0002) refl
      where
        kept : (o : Bool) → changed (Ok (cond o (Flag k (without_subscribed f)) Keep)) ≡ o
        kept true = lt-ltb k (k + 1) (omega arith)
        kept false = refl

        go : (b : Bool) → eqb f 0x0002 ≡ b → changed (Ok (cond b (Remove k) (cond (subscribed f) (Flag k (without_subscribed f)) Keep))) ≡ subscribed f
        go true q = lt-ltb k count (below_count e) ∙ sym (ap subscribed (eqb-true f 0x0002 q) ∙ alone)
        go false q = kept (subscribed f)

    fresh_changes : (lent : ℕ) → has_row (store_rows s) n ≡ false → is_done (fresh_plan (map record_of ws) lent area k n) ≡ true
        → changed (fresh_plan (map record_of ws) lent area k n) ≡ not (subscribed f)
    unfolding changed change_of
    fresh_changes lent e d =
        let w = fresh_inserts (map record_of ws) lent k d in
        ap changed w.1
        ∙ lt-ltb k (count + 1) (omega (arith, before_most (store_rows s) n, ap length rows_same, rows_length area ws, many))
        ∙ sym (ap (λ (x : ℕ). not (subscribed x)) (no_row_flags (store_rows s) n e) ∙ ap not none_subscribed)

    pub plan_changes : (lent : ℕ) (b : Bool) → is_done (plan_for (map record_of (take count all)) lent area b n) ≡ true
        → ltb (change_of (plan_for (map record_of (take count all)) lent area b n) count).from
        (change_of (plan_for (map record_of (take count all)) lent area b n) count).to
        ≡ cond b (not (subscribed f)) (subscribed f)
    unfolding plan_for changed
    plan_changes lent b d =
        ap (λ (rows : List Row). changed (plan rows)) rows_of ∙ go (has_row (store_rows s) n) refl b
        (sym (ap (λ (rows : List Row). is_done (plan rows)) rows_of) ∙ d)
      where
        plan : List Row → Decision
        plan rows =
            let j = rows_before rows n in
            let g = (nth (map record_of ws) j).flags in
            cond (has_row rows n) (cond b (Ok (setting_plan j g)) (Ok (clearing_plan j g))) (cond b (fresh_plan (map record_of ws) lent area j n) (Ok Keep))

        go : (o : Bool) → has_row (store_rows s) n ≡ o → (b : Bool)
            → is_done (let g = (nth (map record_of ws) k).flags in cond o (cond b (Ok (setting_plan k g)) (Ok (clearing_plan k g)))
            (cond b (fresh_plan (map record_of ws) lent area k n) (Ok Keep))) ≡ true
            → changed (let g = (nth (map record_of ws) k).flags in cond o (cond b (Ok (setting_plan k g)) (Ok (clearing_plan k g)))
            (cond b (fresh_plan (map record_of ws) lent area k n) (Ok Keep)))
            ≡ cond b (not (subscribed f)) (subscribed f)
        go true q true d = ap (λ (g : ℕ). changed (Ok (setting_plan k g))) (plan_flags q) ∙ set_changes
        go true q false d = ap (λ (g : ℕ). changed (Ok (clearing_plan k g))) (plan_flags q) ∙ clear_changes q
        go false q true d = fresh_changes lent q d
        go false q false d = unfold change_of in sym (ap subscribed (no_row_flags (store_rows s) n q) ∙ none_subscribed)

    -- what a plan asks of the numbers: there is one for each record that is lent
    module _ (lent : ℕ) (roomy : count < lent → count < length sums) where
      lower : List Row
      lower = lower_than (store_rows s) n

      upper : List Row
      upper = higher_than (store_rows s) n

      within : has_row (store_rows s) n ≡ true → k < length ws
      within e = omega (arith, before_fewer (store_rows s) n e, ap length rows_same, rows_length area ws)

      row_resums : has_row (store_rows s) n ≡ true → (g : ℕ) → Resums area ws n (one_word f) (one_word g) sums
      row_resums e g =
          resums_had area ws sums n few agree lower (row_for f n ∷ []) upper (unfold lower upper in rows_same ∙ row_split s n sp e) f (inl refl) g

      flag_fits : has_row (store_rows s) n ≡ true → (g : ℕ) → FlagSums sums ws area n k g
      flag_fits e g =
          record { row = within e; resums = subst (λ (x : ℕ). Resums area ws n (one_word x) (one_word g) sums) (sym (own_flags e)) (row_resums e g) }

      set_fits : has_row (store_rows s) n ≡ true → SumsFit (Ok (setting_plan k f)) sums ws area n
      unfolding setting_plan
      set_fits e = go (subscribed f)
        where
          go : (o : Bool) → SumsFit (Ok (cond o Keep (Flag k (with_subscribed f)))) sums ws area n
          go true = tt
          go false = flag_fits e (with_subscribed f)

      clear_fits : has_row (store_rows s) n ≡ true → SumsFit (Ok (clearing_plan k f)) sums ws area n
      unfolding clearing_plan
      clear_fits e = go (eqb f 0x0002) refl (subscribed f)
        where
          go : (b : Bool) → eqb f 0x0002 ≡ b → (o : Bool) → SumsFit (Ok (cond b (Remove k) (cond o (Flag k (without_subscribed f)) Keep))) sums ws area n
          go true q o =
              record
              { row = within e; resums = subst (λ (x : ℕ). Resums area ws n (one_word x) (one_word 0) sums) (eqb-true f 0x0002 q) (row_resums e 0) }
          go false q true = flag_fits e (without_subscribed f)
          go false q false = tt

      put_fits : has_row (store_rows s) n ≡ false → (start : ℕ) → count < lent → SumsFit (Ok (Insert k start)) sums ws area n
      put_fits e start h =
          record {
            place = omega (arith, before_most (store_rows s) n, ap length rows_same, rows_length area ws);
            few = few;
            room = omega (arith, many, roomy h);
            resums =
                resums_had area ws sums n few agree lower [] upper (unfold lower upper in rows_same ∙ gap_split s n sp e) 0 (inr (refl, refl)) 0x0002;
          }

      fresh_fits : has_row (store_rows s) n ≡ false → SumsFit (fresh_plan (map record_of ws) lent area k n) sums ws area n
      unfolding fresh_plan room_plan
      fresh_fits e =
          go (lawful_name n && not (below_no_inferiors (record_rows area rs) n)) (ltb (length rs) 512 && ltb (length rs) lent) refl
          (lowest_run (length n) 0 (free_from rs 0 area))
        where
          rs : List Record
          rs = map record_of ws

          go : (b room : Bool) → (ltb (length rs) 512 && ltb (length rs) lent) ≡ room → (o : Option ℕ)
              → SumsFit (cond b (room_plan k room o) (Err 14)) sums ws area n
          go false room q o = tt
          go true room q none = tt
          go true false q (some start) = tt
          go true true q (some start) =
              let spare = ltb-true (length rs) lent (and_r (ltb (length rs) 512) (ltb (length rs) lent) q) in
              put_fits e start (omega (arith, spare, length-map ws record_of, many))

      -- The plan for an edit of a table that passes, whose summary agrees.
      pub sums_fit : (b : Bool) → SumsFit (plan_for (map record_of (take count all)) lent area b n) sums (take count all) area n
      unfolding plan_for
      sums_fit b = subst (λ (rows : List Row). SumsFit (plan rows) sums ws area n) (sym rows_of) (go (has_row (store_rows s) n) refl b)
        where
          plan : List Row → Decision
          plan rows =
              let j = rows_before rows n in
              let g = (nth (map record_of ws) j).flags in
              cond (has_row rows n) (cond b (Ok (setting_plan j g)) (Ok (clearing_plan j g))) (cond b (fresh_plan (map record_of ws) lent area j n) (Ok Keep))

          go : (o : Bool) → has_row (store_rows s) n ≡ o → (b : Bool)
              → SumsFit (let g = (nth (map record_of ws) k).flags in
              cond o (cond b (Ok (setting_plan k g)) (Ok (clearing_plan k g))) (cond b (fresh_plan (map record_of ws) lent area k n) (Ok Keep))) sums ws area n
          go true q true = subst (λ (g : ℕ). SumsFit (Ok (setting_plan k g)) sums ws area n) (sym (plan_flags q)) (set_fits q)
          go true q false = subst (λ (g : ℕ). SumsFit (Ok (clearing_plan k g)) sums ws area n) (sym (plan_flags q)) (clear_fits q)
          go false q true = fresh_fits q
          go false q false = tt

-- The plan for an edit of words whose table passes, with a summary that agrees, one number for each.
module _ (ws : List ℕ) (count : ℕ) (area sums : List ℕ) (h : passes (store_table (whole_store ws count area)) ≡ true)
    (agree : agrees (words_summed ws count area sums) ≡ true) (sized : length ws ≡ length sums) where
  agree_words : words_agree area (take count ws) sums ≡ true
  unfolding words_agree agrees store_rows held
  agree_words =
      (λ i. same_summaries (map summary_of (take (kept i) sums)) (afresh (rows i)))
      ∙ ap (λ (l : List Summary). same_summaries l (afresh (record_rows area (take count (map record_of ws))))) (map_take summary_of count sums)
      ∙ agree
    where
      parts : StoreParts (whole_store ws count area)
      parts = store_parts (whole_store ws count area) h

      rows : rows_at area (take count ws) ≡ record_rows area (take count (map record_of ws))
      rows = rows_records area (take count ws) ∙ ap (record_rows area) (map_take record_of count ws)

      kept : length (take count ws) ≡ count
      kept = length-take-le count ws (omega (arith, parts.counted, length-map ws record_of))

  pub plan_sums_fit : (b : Bool) (n : List ℕ) → SumsFit (plan_for (map record_of (take count ws)) (length ws) area b n) sums (take count ws) area n
  plan_sums_fit b n = sums_fit area ws sums count h agree_words n (length ws) (λ l. omega (arith, l, sized)) b

  pub plan_keeps : (e : Edit) → KeepsSums ws count area sums e (plan_of ws count area e)
  unfolding subscribes edited_name sums_edited changes
  plan_keeps (subscribe n) =
      record {
        fits = sums_fit area ws sums count h agree_words (spelled n) (length ws) (λ l. omega (arith, l, sized)) true;
        leaves = subscribe_meant area ws sums count h agree_words (spelled n) (length ws);
        changes_so = λ d tag a. plan_changes area ws sums count h agree_words (spelled n) (length ws) true d;
      }
  plan_keeps (unsubscribe n) =
      record {
        fits = sums_fit area ws sums count h agree_words (spelled n) (length ws) (λ l. omega (arith, l, sized)) false;
        leaves = λ d. unsubscribe_meant area ws sums count h agree_words (spelled n) (length ws);
        changes_so = λ d tag a. plan_changes area ws sums count h agree_words (spelled n) (length ws) false d;
      }
