-- Check 1 with the summary, over the index of a table that passes without it; and a first summary. Rests on SummaryAlike of listing_rules and AgreeLaws.
use Rattle.std.specs.Prelude.{Option, Some, None}
use Rattle.listing_rules.proofs.Prelude.{◌∙◌, ◌≡◌, ap, refl, subst, sym, Bool, false, true, none, List, [], ◌++◌, ◌∷◌, map, map-append, ◌+◌, ◌<◌, ◌≤◌}
use Rattle.listing_rules.proofs.Prelude.{ℕ, arith, drop, length, length-map, paste, replicate, take, take_all, le-leb, lt-leb}
use Rattle.listing_rules.specs.Table.{Row, Table, rows, passes}
use Rattle.listing_rules.specs.Records.{Record}
use Rattle.listing_rules.specs.Subscriptions.{Store, store_table, store_rows}
use Rattle.listing_rules.specs.Summary.{Summary, counted, afresh, Summed, same_summaries, agrees, grown, summed_table, summarized}
use Rattle.listing_rules.proofs.ListLaws.{map_take, map_drop}
use Rattle.listing_rules.proofs.EditPasses.{store_parts, rows_count}
use Rattle.listing_rules.proofs.SummaryAlike.{rows_held}
use Rattle.listing_rules.proofs.SummaryCommands.{table_with}
use Rattle.records.specs.Words.{record_of}
use Rattle.records.specs.Numbers.{summary_word, summary_of}
use Rattle.records.specs.Lent.{word_table, words_summed, words_table}
use Rattle.mailbox_table.specs.Index.{rows_at, indexing_of, Indexes}
use Rattle.summary.specs.Counts.{fresh_words, words_agree, numbered_table}
use Rattle.summary.proofs.AgreeLaws.{told_counted}

-- a table that passes has as many rows as its count
pub rows_many : (area raw : List ℕ) (count : ℕ) → passes (word_table area raw count) ≡ true → length (rows (word_table area raw count)) ≡ count
unfolding store_table
rows_many area raw count h = ap length (rows_held store h) ∙ rows_count store (store_parts store h).counted
  where
    store : Store
    store = record { records = map record_of raw; count = count; area = area }

-- the index of the rows decides whether the summary agrees
pub grown_told : (area raw index sums : List ℕ) (count : ℕ) → passes (word_table area raw count) ≡ true
    → rows_at area index ≡ rows (word_table area raw count) → length index ≡ length (rows (word_table area raw count))
    → words_agree area index sums ≡ agrees (words_summed raw count area sums)
unfolding words_agree agrees store_table
grown_told area raw index sums count h same size =
    (λ i. same_summaries (map summary_of (take (many i) sums)) (afresh (are i)))
    ∙ ap (λ (l : List Summary). same_summaries l (afresh (store_rows store))) (map_take summary_of count sums)
  where
    store : Store
    store = record { records = map record_of raw; count = count; area = area }

    are : rows_at area index ≡ store_rows store
    are = same ∙ rows_held store h

    many : length index ≡ count
    many = size ∙ rows_many area raw count h

-- What is indexed with the summary, by what was indexed without it.
module _ (area raw sums : List ℕ) (count : ℕ) (before after : List ℕ) where
  abbrev m : Summed
  m = words_summed raw count area sums

  abbrev kept : List Record
  kept = take count (map record_of raw)

  abbrev cells : List ℕ
  cells = take count raw

  -- a summary that disagrees leaves no table
  no_table : agrees (words_summed raw count area sums) ≡ false → words_table raw count area sums ≡ none
  unfolding summed_table grown
  no_table e = rw e

  same_table : agrees (words_summed raw count area sums) ≡ true → words_table raw count area sums ≡ word_table area raw count
  unfolding store_table
  same_table e = table_with m e

  pub index_fails : (r : Option ℕ) → Indexes area (word_table area raw count) (take count (map record_of raw)) (take count raw) before after r →
      r ≡ None
      → Indexes area (words_table raw count area sums) (take count (map record_of raw)) (take count raw) before after None
  index_fails r x e =
      let y : Indexes area (word_table area raw count) kept cells before after None = subst
      (Indexes area (word_table area raw count) kept cells before after) e
      x in
      go y (agrees m) refl
    where
      go : Indexes area (word_table area raw count) kept cells before after None → (b : Bool) → agrees m ≡ b
          → Indexes area (words_table raw count area sums) kept cells before after None
      go y true a = subst (λ (t : Table). Indexes area t kept cells before after None) (sym (same_table a)) y
      go y false a =
          subst (λ (t : Table). Indexes area t kept cells before after None) (sym (no_table a))
          (record { answer = unfold indexing_of passes in refl; room = y.room; found = tt; rest = y.rest })

  pub index_agrees : (r : Option ℕ) (n : ℕ) →
      Indexes area (word_table area raw count) (take count (map record_of raw)) (take count raw) before after r → r ≡ Some n
      → agrees (words_summed raw count area sums) ≡ true
      → Indexes area (words_table raw count area sums) (take count (map record_of raw)) (take count raw) before after (Some n)
  index_agrees r n x e a =
      subst (λ (t : Table). Indexes area t kept cells before after (Some n)) (sym (same_table a))
      (subst (Indexes area (word_table area raw count) kept cells before after) e x)

  pub index_disagrees : length after ≡ length before → after ≡ replicate (length before) 0 → agrees (words_summed raw count area sums) ≡ false
      → Indexes area (words_table raw count area sums) (take count (map record_of raw)) (take count raw) before after None
  index_disagrees size zeros a =
      subst (λ (t : Table). Indexes area t kept cells before after None) (sym (no_table a))
      (record { answer = unfold indexing_of passes in refl; room = size; found = tt; rest = zeros })

-- A first summary.
told_fresh : (rs all : List Row) → length all ≤ 512
    → map summary_of (map summary_word (map (λ r. counted all r.name) rs)) ≡ map (λ r. counted all r.name) rs
told_fresh [] all few = refl
told_fresh (r ∷ rs) all few = λ i. told_counted all r.name few i ∷ told_fresh rs all few i

module _ (raw : List ℕ) (count : ℕ) (area sums : List ℕ) where
  -- too few numbers, or a table that fails
  pub first_few : length sums < count → (1 ≡ (summarized (numbered_table raw count area sums) (map summary_of sums)).number)
      × (map summary_of sums ≡ (summarized (numbered_table raw count area sums) (map summary_of sums)).summary)
  unfolding summarized passes
  first_few h = rw (lt-leb count (length sums) h) (refl, refl)

  pub first_fails : count ≤ length sums → passes (word_table area raw count) ≡ false
      → (1 ≡ (summarized (numbered_table raw count area sums) (map summary_of sums)).number)
      × (map summary_of sums ≡ (summarized (numbered_table raw count area sums) (map summary_of sums)).summary)
  unfolding summarized
  first_fails h e = rw (le-leb count (length sums) h, e) (refl, refl)

  pub first_counted : (index : List ℕ) → count ≤ length sums → passes (word_table area raw count) ≡ true
      → rows_at area index ≡ rows (word_table area raw count) → length index ≡ length (rows (word_table area raw count)) → length index ≤ 512
      → (sums' : List ℕ) → sums' ≡ paste sums 0 (fresh_words area index) (length index)
      → (0 ≡ (summarized (numbered_table raw count area sums) (map summary_of sums)).number)
      × (map summary_of sums' ≡ (summarized (numbered_table raw count area sums) (map summary_of sums)).summary)
  unfolding summarized
  first_counted index h e same size few sums' f = rw (le-leb count (length sums) h, e) (refl, numbers)
    where
      rs : List Row
      rs = rows (word_table area raw count)

      fresh : map summary_of (fresh_words area index) ≡ afresh rs
      fresh = unfold fresh_words afresh in told_fresh (rows_at area index) (rows_at area index) (omega (arith, few, ap length same, size))
          ∙ ap (λ (l : List Row). map (λ r. counted l r.name) l) same

      counted_length : length (fresh_words area index) ≤ length index
      counted_length = unfold fresh_words afresh in
          omega (
            arith,
            length-map (map (λ r. counted (rows_at area index) r.name) (rows_at area index)) summary_word,
            length-map (rows_at area index) (λ r. counted (rows_at area index) r.name),
            ap length same,
            size,
          )

      flat : sums' ≡ fresh_words area index ++ drop (length index) sums
      flat =
          let none_first : 0 + length index ≡ length index = omega arith in
          f ∙ (λ i. (take 0 sums ++ take_all (length index) (fresh_words area index) counted_length i) ++ drop (none_first i) sums)

      numbers : map summary_of sums' ≡ afresh rs ++ drop (length rs) (map summary_of sums)
      numbers =
          ap (map summary_of) flat
          ∙ map-append summary_of (fresh_words area index) (drop (length index) sums)
          ∙ (λ i. fresh i ++ (map_drop summary_of (length index) sums ∙ ap (λ (k : ℕ). drop k (map summary_of sums)) size) i)
