-- The numbers that a plan leaves of a summary tell what the definitions say (W13). Rests on MeantLaws of summary.
use Rattle.std.specs.Prelude.{Ok}
use Rattle.listing_rules.proofs.Prelude.{◌∙◌, ◌≡◌, ap, refl, List, [], ◌++◌, ◌∷◌, map, map-append, suc, ℕ, drop, take, length, true, inl, inr, ◌<◌}
use Rattle.listing_rules.proofs.Prelude.{◌≤◌, arith, get_or, sym, Bool, cond, false, ◌+◌, ◌-◌, eqb, eqb-true}
use Rattle.listing_rules.specs.Names.{below}
use Rattle.listing_rules.specs.Flags.{subscribed}
use Rattle.listing_rules.specs.Subscriptions.{with_subscribed, without_subscribed}
use Rattle.subscriptions.specs.declared.Plan.TheVariants.{Keep, Flag, Remove}
use Rattle.subscriptions.specs.Plans.{setting_plan, clearing_plan}
use Rattle.listing_rules.specs.Table.{Row}
use Rattle.listing_rules.specs.Summary.{counted, ancestors_resummed, no_summary, put_in, taken_out}
use Rattle.listing_rules.proofs.SummaryLaws.{row_for, Own}
use Rattle.mailbox_table.specs.Words.{row_of_word}
use Rattle.mailbox_table.specs.Index.{name_at, nth_name, rows_at}
use Rattle.mailbox_table.proofs.IndexLaws.{rows_length}
use Rattle.subscriptions.specs.Resums.{Resums, resummed_words}
use Rattle.summary.proofs.CountLaws.{sum_counted}
use Rattle.summary.proofs.AgreeLaws.{told_counted, agreed_room, agreed_at}
use Rattle.subscriptions.proofs.MeantLaws.{resums_asked, resummed_told}
use Rattle.subscriptions.specs.Summed.{flagged_sums, inserted_sums, removed_sums, numbers_after}
use Rattle.listing_rules.proofs.ListLaws.{map_take, map_drop}
use Rattle.records.specs.Numbers.{summary_word, summary_of}
use Rattle.summary.specs.Counts.{one_word, sum_below, words_agree}
use Rattle.subscriptions.specs.Applied.{inserted_at, removed_at}

-- numbers and summaries move alike
pub inserted_told : (ms : List ℕ) (count k w : ℕ) → map summary_of (inserted_at ms count k w) ≡ put_in count k (summary_of w) (map summary_of ms)
unfolding inserted_at put_in
inserted_told ms count k w =
    map-append summary_of (take k ms) (w ∷ (drop k (take count ms) ++ drop (suc count) ms))
    ∙ (λ i. map_take summary_of k ms i ++ (summary_of w ∷ rest i))
  where
    rest : map summary_of (drop k (take count ms) ++ drop (suc count) ms) ≡ drop k (take count (map summary_of ms)) ++ drop (suc count)
        (map summary_of ms)
    rest =
        map-append summary_of (drop k (take count ms)) (drop (suc count) ms)
        ∙ (λ i. (map_drop summary_of k (take count ms) ∙ ap (drop k) (map_take summary_of count ms)) i ++ map_drop summary_of (suc count) ms i)

none_told : summary_of 0 ≡ no_summary
unfolding summary_of no_summary
none_told = refl

pub removed_told : (ms : List ℕ) (count k : ℕ) → map summary_of (removed_at ms count k) ≡ taken_out count k (map summary_of ms)
unfolding removed_at taken_out
removed_told ms count k =
    map-append summary_of (take k ms) (drop (suc k) (take count ms) ++ (0 ∷ drop count ms))
    ∙ (λ i. map_take summary_of k ms i ++ rest i)
  where
    rest : map summary_of (drop (suc k) (take count ms) ++ (0 ∷ drop count ms)) ≡ drop (suc k) (take count (map summary_of ms)) ++
        (no_summary ∷ drop count (map summary_of ms))
    rest =
        map-append summary_of (drop (suc k) (take count ms)) (0 ∷ drop count ms)
        ∙ (λ i. (map_drop summary_of (suc k) (take count ms) ∙ ap (drop (suc k)) (map_take summary_of count ms)) i ++
        (none_told i ∷ map_drop summary_of count ms i))

-- Over rows that are an index's or not, with a summary that agrees: what each way of an edit leaves is what the definitions say, and what it
-- asks is there. The rows are those of lower names, the row of n with flags f or none, and those of higher names.
module _ (area ws sums n : List ℕ) (few : length ws ≤ 512) (agree : words_agree area ws sums ≡ true) (lower old upper : List Row)
    (parts : rows_at area ws ≡ lower ++ (old ++ upper)) (f : ℕ) (o : Own old n f) where
  abbrev rs : List Row
  rs = lower ++ (old ++ upper)

  few_rows : length rs ≤ 512
  few_rows = omega (arith, few, ap length parts, rows_length area ws)

  told_at : (i : ℕ) → i < length ws → get_or sums i 0 ≡ summary_word (counted rs (nth_name area ws i))
  told_at i h = agreed_at area ws sums few agree i h ∙ ap (λ (l : List Row). summary_word (counted l (nth_name area ws i))) parts

  pub resums_had : (g : ℕ) → Resums area ws n (one_word f) (one_word g) sums
  resums_had g = resums_asked lower old upper n f g o few_rows area ws sums told_at (agreed_room area ws sums few agree)

  pub ancestors_told : (g : ℕ) →
      map summary_of (resummed_words (one_word f) (one_word g) n area ws sums) ≡ ancestors_resummed f g n (rows_at area ws) (map summary_of sums)
  ancestors_told g = resummed_told lower old upper n f g o few_rows area ws sums told_at (agreed_room area ws sums few agree)

-- the flag of row k, whose name is n
pub flag_meant : (area ws sums n : List ℕ) → length ws ≤ 512 → words_agree area ws sums ≡ true → (lower old upper : List Row) →
    rows_at area ws ≡ lower ++ (old ++ upper)
    → (k g : ℕ) → Own old n (row_of_word (get_or ws k 0)).flags.bits
    → map summary_of (flagged_sums sums ws area n k g) ≡ ancestors_resummed (row_of_word (get_or ws k 0)).flags.bits g n (rows_at area ws)
    (map summary_of sums)
unfolding flagged_sums
flag_meant area ws sums n few e lower old upper p k g o =
    ancestors_told area ws sums n few e lower old upper p (row_of_word (get_or ws k 0)).flags.bits o g

-- a row put in for a name that has none
pub insert_meant : (area ws sums n : List ℕ) → length ws ≤ 512 → words_agree area ws sums ≡ true → (lower upper : List Row) →
    rows_at area ws ≡ lower ++ ([] ++ upper) → (k : ℕ)
    → map summary_of (inserted_sums sums ws area n k) ≡ put_in (length ws) k (counted (rows_at area ws) n)
    (ancestors_resummed 0 0x0002 n (rows_at area ws) (map summary_of sums))
unfolding inserted_sums
insert_meant area ws sums n few e lower upper p k =
    inserted_told (resummed_words (one_word 0) (one_word 0x0002) n area ws sums) (length ws) k (sum_below area n ws)
    ∙ (λ i. put_in (length ws) k (own i) (ancestors_told area ws sums n few e lower [] upper p 0 (inr (refl, refl)) 0x0002 i))
  where
    own : summary_of (sum_below area n ws) ≡ counted (rows_at area ws) n
    own = ap summary_of (sum_counted area n ws) ∙ told_counted (rows_at area ws) n (omega (arith, few, rows_length area ws))

-- a row 0002 taken out
pub remove_meant : (area ws sums n : List ℕ) → length ws ≤ 512 → words_agree area ws sums ≡ true → (lower upper : List Row)
    → rows_at area ws ≡ lower ++ ((row_for 0x0002 n ∷ []) ++ upper) → (k : ℕ)
    → map summary_of (removed_sums sums ws area n k) ≡ taken_out (length ws) k (ancestors_resummed 0x0002 0 n (rows_at area ws) (map summary_of sums))
unfolding removed_sums
remove_meant area ws sums n few e lower upper p k =
    removed_told (resummed_words (one_word 0x0002) (one_word 0) n area ws sums) (length ws) k
    ∙ ap (taken_out (length ws) k) (ancestors_told area ws sums n few e lower (row_for 0x0002 n ∷ []) upper p 0x0002 (inl refl) 0)

-- what goes comes again: nothing changes where it was counted
resum_nothing : (x : ℕ) (n area ws ms : List ℕ) → ((i : ℕ) → i < length ws → below (nth_name area ws i) n ≡ true → x ≤ get_or ms i 0)
    → resummed_words x x n area ws ms ≡ ms
unfolding resummed_words
resum_nothing x n area [] ms h = refl
resum_nothing x n area (w ∷ ws) [] h = refl
resum_nothing x n area (w ∷ ws) (m ∷ ms) h =
    λ i. go (below (name_at area w) n) refl i ∷ resum_nothing x n area ws ms (λ j l. h (suc j) (omega arith)) i
  where
    go : (b : Bool) → below (name_at area w) n ≡ b → cond b (m - x + x) m ≡ m
    go true e = let k = h 0 (omega arith) e in omega (arith, k)
    go false e = refl

-- the plans for a name that has row k, with a summary that agrees
module _ (area ws sums n : List ℕ) (few : length ws ≤ 512) (agree : words_agree area ws sums ≡ true) (lower upper : List Row) (k f : ℕ)
    (own : (row_of_word (get_or ws k 0)).flags.bits ≡ f) (parts : rows_at area ws ≡ lower ++ ((row_for f n ∷ []) ++ upper)) where
  kept_told : map summary_of sums ≡ ancestors_resummed f f n (rows_at area ws) (map summary_of sums)
  kept_told =
      sym (ap (map summary_of)
      (resum_nothing (one_word f) n area ws sums (λ i l e. ((resums_had area ws sums n few agree lower (row_for f n ∷ []) upper parts f (inl refl) f).each
      i l e).0)))
      ∙ ancestors_told area ws sums n few agree lower (row_for f n ∷ []) upper parts f (inl refl) f

  flagged_told : (g : ℕ) → map summary_of (flagged_sums sums ws area n k g) ≡ ancestors_resummed f g n (rows_at area ws) (map summary_of sums)
  unfolding flagged_sums
  flagged_told g =
      ap (λ (x : ℕ). map summary_of (resummed_words (one_word x) (one_word g) n area ws sums)) own
      ∙ ancestors_told area ws sums n few agree lower (row_for f n ∷ []) upper parts f (inl refl) g

  -- SUBSCRIBE
  pub set_meant : map summary_of (numbers_after (Ok (setting_plan k f)) sums ws area n) ≡ ancestors_resummed f (with_subscribed f) n (rows_at area ws)
      (map summary_of sums)
  unfolding setting_plan with_subscribed numbers_after
  set_meant = go (subscribed f) (flagged_told (f + 2))
    where
      go : (b : Bool) → map summary_of (flagged_sums sums ws area n k (f + 2)) ≡ ancestors_resummed f (f + 2) n (rows_at area ws) (map summary_of sums)
          → map summary_of (numbers_after (Ok (cond b Keep (Flag k (cond b f (f + 2))))) sums ws area n) ≡ ancestors_resummed f (cond b f (f + 2)) n
          (rows_at area ws) (map summary_of sums)
      go true e = kept_told
      go false e = e

  -- UNSUBSCRIBE
  pub clear_meant : map summary_of (numbers_after (Ok (clearing_plan k f)) sums ws area n)
      ≡ cond (eqb f 0x0002) (taken_out (length ws) k (ancestors_resummed 0x0002 0 n (rows_at area ws) (map summary_of sums)))
      (ancestors_resummed f (without_subscribed f) n (rows_at area ws) (map summary_of sums))
  unfolding clearing_plan without_subscribed numbers_after
  clear_meant = two (eqb f 0x0002) refl
    where
      one' : (b : Bool) → map summary_of (numbers_after (Ok (cond b (Flag k (cond b (f - 2) f)) Keep)) sums ws area n)
          ≡ ancestors_resummed f (cond b (f - 2) f) n (rows_at area ws) (map summary_of sums)
      one' true = flagged_told (f - 2)
      one' false = kept_told

      two : (b : Bool) → eqb f 0x0002 ≡ b
          → map summary_of (numbers_after (Ok (cond b (Remove k) (cond (subscribed f) (Flag k (cond (subscribed f) (f - 2) f)) Keep))) sums ws area n)
          ≡ cond b (taken_out (length ws) k (ancestors_resummed 0x0002 0 n (rows_at area ws) (map summary_of sums)))
          (ancestors_resummed f (cond (subscribed f) (f - 2) f) n (rows_at area ws) (map summary_of sums))
      two true e =
          remove_meant area ws sums n few agree lower upper
          (parts ∙ ap (λ (x : ℕ). lower ++ ((row_for x n ∷ []) ++ upper)) (eqb-true f 0x0002 e)) k
      two false e = one' (subscribed f)
