-- The numbers that an edit leaves of a summary that agrees tell what the definitions say. Rests on SummaryLaws of listing_rules and AgreeLaws.
use Rattle.listing_rules.proofs.Prelude.{◌∙◌, ◌≡◌, ap, refl, subst, sym, Bool, cond, false, true, List, [], ◌++◌, ◌∷◌, map, ◌+◌, ◌-◌, ◌^◌, ◌<◌, ◌≤◌}
use Rattle.listing_rules.proofs.Prelude.{suc, ℕ, arith, get_or, length}
use Rattle.listing_rules.specs.Names.{below}
use Rattle.listing_rules.specs.Table.{Row}
use Rattle.listing_rules.specs.Summary.{is_subscribed_local, is_subscribed_remote, is_existing_local, is_existing_remote, count_below, counted, one, switched}
use Rattle.listing_rules.specs.Summary.{resummed, ancestors_resummed}
use Rattle.listing_rules.proofs.SummaryLaws.{Own, count_append, count_own, none_counts}
use Rattle.listing_rules.proofs.SummaryCommands.{counts_few}
use Rattle.mailbox_table.specs.Index.{name_at, nth_name, rows_at}
use Rattle.records.specs.Numbers.{summary_word, summary_of}
use Rattle.summary.specs.Counts.{one_word}
use Rattle.subscriptions.specs.Resums.{Switches, Resums, resummed_words}
use Rattle.summary.proofs.CountLaws.{one_small, one_word_small}
use Rattle.summary.proofs.AgreeLaws.{told_of_word, told_counted}

-- the row of n is counted in each number of a name that n lies below
own_counted : (p : ℕ → Bool) → p 0 ≡ false → (a : List ℕ) (lower old upper : List Row) (n : List ℕ) (f : ℕ) → Own old n f → below a n ≡ true
    → one (p f) ≤ count_below p (lower ++ (old ++ upper)) a
own_counted p z a lower old upper n f o b =
    omega
    (arith, count_append p a lower (old ++ upper), count_append p a old upper, count_own p a z old n f o ∙ ap (λ (c : Bool). cond c (one (p f)) 0) b)

module _ (lower old upper : List Row) (n : List ℕ) (f g : ℕ) (o : Own old n f) (few : length (lower ++ (old ++ upper)) ≤ 512) where
  abbrev rs : List Row
  rs = lower ++ (old ++ upper)

  module _ (a : List ℕ) (b : below a n ≡ true) where
    -- one number with what comes for what goes is the four numbers so
    pub word_switched : (one_word f ≤ summary_word (counted rs a)) ×
        (summary_word (counted rs a) - one_word f + one_word g ≡ summary_word (resummed f g (counted rs a)))
    unfolding summary_word counted one_word resummed switched
    word_switched =
        let h₁ = own_counted is_subscribed_local none_counts.0 a lower old upper n f o b in
        let h₂ = own_counted is_subscribed_remote none_counts.1 a lower old upper n f o b in
        let h₃ = own_counted is_existing_local none_counts.2 a lower old upper n f o b in
        let h₄ = own_counted is_existing_remote none_counts.3 a lower old upper n f o b in
        (omega (arith, h₁, h₂, h₃, h₄), omega (arith, h₁, h₂, h₃, h₄))

    word_fits : summary_word (counted rs a) ≤ 144117387132666368
    unfolding summary_word counted
    word_fits =
        omega
        (arith, few, counts_few is_subscribed_local rs a, counts_few is_subscribed_remote rs a, counts_few is_existing_local rs a, counts_few is_existing_remote rs a)

    switches : Switches true (summary_word (counted rs a)) (one_word f) (one_word g)
    switches e = (word_switched.0, omega (arith, word_fits, one_word_small g))

    -- and they are told
    told_switched : summary_of (summary_word (counted rs a) - one_word f + one_word g) ≡ resummed f g (counted rs a)
    told_switched = ap summary_of word_switched.1 ∙ told_of_word (resummed f g (counted rs a)) small.0 small.1 small.2
      where
        small : ((resummed f g (counted rs a)).subscribed_local < 65536) × ((resummed f g (counted rs a)).subscribed_remote < 65536) ×
            ((resummed f g (counted rs a)).existing_local < 65536)
        small = unfold resummed counted switched in (
          omega (arith, few, counts_few is_subscribed_local rs a, one_small (is_subscribed_local g)),
          omega (arith, few, counts_few is_subscribed_remote rs a, one_small (is_subscribed_remote g)),
          omega (arith, few, counts_few is_existing_local rs a, one_small (is_existing_local g)),
        )

  -- the numbers of the rows of words, told one by one
  pub resummed_told : (area ws ms : List ℕ) → ((i : ℕ) → i < length ws → get_or ms i 0 ≡ summary_word (counted rs (nth_name area ws i))) →
      length ws ≤ length ms
      → map summary_of (resummed_words (one_word f) (one_word g) n area ws ms) ≡ ancestors_resummed f g n (rows_at area ws) (map summary_of ms)
  unfolding resummed_words ancestors_resummed
  resummed_told area [] ms h k = refl
  resummed_told area (w ∷ ws) [] h k = absurd (omega arith)
  resummed_told area (w ∷ ws) (m ∷ ms) h k =
      λ i. go (below (name_at area w) n) refl i ∷ resummed_told area ws ms (λ j l. h (suc j) (omega arith)) (omega arith) i
    where
      is : m ≡ summary_word (counted rs (name_at area w))
      is = h 0 (omega arith)

      go : (b : Bool) → below (name_at area w) n ≡ b →
          summary_of (cond b (m - one_word f + one_word g) m) ≡ cond b (resummed f g (summary_of m)) (summary_of m)
      go false e = refl
      go true e =
          ap (λ (x : ℕ). summary_of (x - one_word f + one_word g)) is ∙ told_switched (name_at area w) e
          ∙ ap (resummed f g) (sym (ap summary_of is ∙ told_counted rs (name_at area w) few))

  -- what `resum_above` asks
  pub resums_asked : (area ws ms : List ℕ) → ((i : ℕ) → i < length ws → get_or ms i 0 ≡ summary_word (counted rs (nth_name area ws i))) →
      length ws ≤ length ms
      → Resums area ws n (one_word f) (one_word g) ms
  resums_asked area ws ms h k =
      record
      { room = k; each = λ i l e. subst (λ (x : ℕ). (one_word f ≤ x) × (x - one_word f + one_word g < 2 ^ 64)) (sym (h i l)) (switches (nth_name area ws i) e refl) }
