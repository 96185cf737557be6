-- Names moved together by the words of the rows: the map's bytes are those that rows use, the words mean the records whose names have moved, and so
-- the store is the compacted one. Rests on UsedBytes of the definitions, MapLaws of subscriptions, StartLaws.
use Rattle.std.specs.Prelude.{Result, Ok, Err}
use Rattle.listing_rules.proofs.ListLaws.{map_drop}
use Rattle.listing_rules.proofs.Prelude.{◌∙◌, ◌≡◌, ap, refl, subst, sym, Bool, cond, false, not, true, List, [], ◌++◌, ◌∷◌, append-nil, map}
use Rattle.listing_rules.proofs.Prelude.{map-append, ◌%◌, ◌+◌, ◌-◌, ◌/◌, ◌<◌, ◌≤◌, suc, zero, ℕ, zero-add, arith, leb, drop, drop_of_length-le, get_or}
use Rattle.listing_rules.proofs.Prelude.{length, length-append, length-drop, length-map, length-take, replicate, take, drop_at, get_or-take}
use Rattle.listing_rules.proofs.Prelude.{length-take-le, take-add, take-append-add, take_at, take-take, leb-true}
use Rattle.listing_rules.specs.Lists.{every, any_of}
use Rattle.listing_rules.specs.Bytes.{within}
use Rattle.listing_rules.specs.Names.{lawful_name}
use Rattle.listing_rules.specs.Table.{Row, passes}
use Rattle.listing_rules.specs.Records.{Record, record_rows, row_of}
use Rattle.listing_rules.specs.Subscriptions.{Store, store_table, store_rows, held, uses, free_from}
use Rattle.listing_rules.specs.Compaction.{used_from, place_after, moved, compacted}
use Rattle.listing_rules.proofs.Bools.{and_l, and_r}
use Rattle.listing_rules.proofs.EditPasses.{StoreParts, store_parts}
use Rattle.listing_rules.proofs.UsedBytes.{used_most, place_most}
use Rattle.records.specs.Words.{record_of}
use Rattle.listing_rules.specs.Summary.{Summed, summed_table, SummedCompaction, summed_compaction}
use Rattle.listing_rules.proofs.SummaryAlike.{grown_parts}
use Rattle.records.specs.Numbers.{summary_of}
use Rattle.records.specs.Lent.{lent_of, word_store, word_summed, words_summed, words_table}
use Rattle.records.specs.Stores.{word_compaction, Between}
use Rattle.records.proofs.WordsAlike.{map_take}
use Rattle.compaction.specs.Gathered.{kept, kept_before, Gathers}
use Rattle.subscriptions.specs.declared.Change.{Change}
use Rattle.compaction.specs.Moves.{with_start, restarted, moved_words, Starts, Within, together, MovesBytes, MovesNames}
use Rattle.compaction.specs.Result.{rows_changed, compacted_is, cells_compacted}
use Rattle.compaction.proofs.StartLaws.{start_means}

-- the bytes that the map of free bytes keeps are those that rows use
module _ (rs : List Record) where
  kept_used : (k : ℕ) (area : List ℕ) → kept (free_from rs k area) area ≡ used_from rs k area
  unfolding kept free_from used_from
  kept_used k [] = refl
  kept_used k (b ∷ t) = go (any_of (uses k) rs) (kept_used (suc k) t)
    where
      go : (o : Bool) → kept (free_from rs (suc k) t) t ≡ used_from rs (suc k) t
          → cond (not o) (kept (free_from rs (suc k) t) t) (b ∷ kept (free_from rs (suc k) t) t) ≡ cond o (b ∷ used_from rs (suc k) t)
          (used_from rs (suc k) t)
      go true e = ap (λ (l : List ℕ). b ∷ l) e
      go false e = e

  free_front_lem : (j k : ℕ) (area : List ℕ) → take j (free_from rs k area) ≡ free_from rs k (take j area)
  unfolding free_from
  free_front_lem zero k area = refl
  free_front_lem (suc j) k [] = refl
  free_front_lem (suc j) k (b ∷ t) = ap (λ (l : List Bool). not (any_of (uses k) rs) ∷ l) (free_front_lem j (suc k) t)

  -- gathered, and cleared from the end on
  pub moves_bytes : {marks : List Bool} {area gathered places : List ℕ} {end : ℕ} → marks ≡ free_from rs 0 area →
      Gathers marks area gathered places end
      → (zeros : List ℕ) → zeros ≡ replicate (length (take (length gathered - end) (drop end gathered))) 0
      → MovesBytes rs area (take end gathered ++ (zeros ++ drop (length gathered - end) (drop end gathered))) places
  unfolding together place_after kept_before
  moves_bytes {marks} {area} {gathered} {places} {end} m g zeros z =
      record {
        area_is =
            (λ i. (g.front ∙ used) i ++ ((z ∙ ap (λ (n : ℕ). replicate n 0) rest) i ++ none i))
            ∙ ap (λ (l : List ℕ). used_from rs 0 area ++ l) (append-nil (replicate (length area - length (used_from rs 0 area)) 0));
        room = g.room;
        places_are = λ k h. g.places_are k h ∙ ap length (ap (λ (l : List Bool). kept (take k l) (take k area)) m
            ∙ ap (λ (l : List Bool). kept l (take k area)) (free_front_lem k 0 area) ∙ kept_used 0 (take k area));
      }
    where
      used : kept marks area ≡ used_from rs 0 area
      used = ap (λ (l : List Bool). kept l area) m ∙ kept_used 0 area

      after : length (drop end gathered) ≡ length gathered - end
      after = length-drop end gathered

      rest : length (take (length gathered - end) (drop end gathered)) ≡ length area - length (used_from rs 0 area)
      rest = omega (arith, length-take (length gathered - end) (drop end gathered), after, g.size, g.end_is, ap length used)

      none : drop (length gathered - end) (drop end gathered) ≡ []
      none = drop_of_length-le (drop end gathered) {i = length gathered - end} (omega (arith, after))

-- the words with the places of their starts mean the records whose names have moved
module _ (rs : List Record) (area places : List ℕ) (small : length area ≤ 32768)
    (are : (k : ℕ) → k < length area → get_or places k 0 ≡ place_after rs area k) where
  pub places_fit : (k : ℕ) → k < length area → get_or places k 0 < 65536
  places_fit k h = omega (arith, are k h, place_most rs area k (omega arith), used_most rs 0 area, small)

  restarted_means : (w : ℕ) → w / 65536 % 65536 < length area → record_of (restarted (take (length area) places) w) ≡ moved rs area (record_of w)
  unfolding restarted moved
  restarted_means w h =
      let s : ℕ = w / 65536 % 65536 in
      let read : get_or (take (length area) places) s 0 ≡ get_or places s 0 = get_or-take (length area) places s 0 h in
      let start : (record_of w).start ≡ s = unfold record_of in refl in
      start_means w (get_or (take (length area) places) s 0) (omega (arith, read, places_fit s h))
      ∙ (λ i. record
      { flags = (record_of w).flags; start = (read ∙ are s h ∙ ap (place_after rs area) (sym start)) i; len = (record_of w).len; readers = (record_of w).readers })

  pub all_restarted : (ws : List ℕ) → Starts ws (length area) →
      map record_of (map (restarted (take (length area) places)) ws) ≡ map (moved rs area) (map record_of ws)
  all_restarted [] h = refl
  all_restarted (w ∷ ws) h = λ i. restarted_means w (h 0 (omega arith)) i ∷ all_restarted ws (λ k l. h (suc k) (omega arith)) i

  -- to the last bit
  restarted_is : (w : ℕ) → w / 65536 % 65536 < length area
      → restarted (take (length area) places) w ≡ with_start (place_after rs area (record_of w).start) w
  unfolding restarted record_of
  restarted_is w h =
      let s : ℕ = w / 65536 % 65536 in
      ap (λ (k : ℕ). with_start k w) (get_or-take (length area) places s 0 h ∙ are s h)

  pub all_words : (ws : List ℕ) → Starts ws (length area) →
      map (restarted (take (length area) places)) ws ≡ map (λ w. with_start (place_after rs area (record_of w).start) w) ws
  all_words [] h = refl
  all_words (w ∷ ws) h = λ i. restarted_is w (h 0 (omega arith)) i ∷ all_words ws (λ k l. h (suc k) (omega arith)) i

-- so names are moved
pub moves_names : {ws area area' places vs : List ℕ} → Within ws area → MovesBytes (map record_of ws) area area' places →
    vs ≡ map (restarted (take (length area) places)) ws
    → MovesNames ws area vs area'
unfolding moved_words
moves_names {ws} {area} {area'} {places} {vs} w m e =
    record {
      size = ap length e ∙ length-map ws (restarted (take (length area) places));
      area_is = m.area_is;
      words_are = e ∙ all_words (map record_of ws) area places w.short m.places_are ws w.starts;
      records_are = ap (map record_of) e ∙ all_restarted (map record_of ws) area places w.short m.places_are ws w.starts;
    }

-- the names of words that pass begin inside the area, since they are not empty
starts_inside : (area ws : List ℕ) → every (λ (r : Row). lawful_name r.name) (record_rows area (map record_of ws)) ≡ true → Starts ws (length area)
unfolding every record_rows row_of lawful_name within record_of
starts_inside area [] h k l = absurd (omega arith)
starts_inside area (w ∷ ws) h zero l =
    let n = take (w / 4294967296 % 256) (drop (w / 65536 % 65536) area) in
    let lawful = and_l (lawful_name n) (every (λ (r : Row). lawful_name r.name) (record_rows area (map record_of ws))) h in
    let long : 1 ≤ length n = leb-true 1 (length n) (and_l (leb 1 (length n)) (leb (length n) 200)
    (and_l _ _ (and_l _ _ (and_l _ _ (and_l _ _ lawful))))) in
    omega (arith, long, length-take (w / 4294967296 % 256) (drop (w / 65536 % 65536) area), length-drop (w / 65536 % 65536) area)
starts_inside area (w ∷ ws) h (suc k) l = starts_inside area ws
    (and_r (lawful_name (row_of area (record_of w)).name) (every (λ (r : Row). lawful_name r.name) (record_rows area (map record_of ws))) h) k
    (omega (arith, l))

-- The first n words as the records of a store, the first `count` of them rows, whose table passes.
module _ (ws : List ℕ) (n count : ℕ) (area : List ℕ) (inside : n ≤ length ws) (good : passes (store_table (word_store ws n count area)) ≡ true) where
  abbrev s : Store
  s = word_store ws n count area

  p : StoreParts (word_store ws n count area)
  p = store_parts s good

  rows_most : count ≤ n
  rows_most = omega (arith, p.counted, length-map (take n ws) record_of, length-take n ws)

  pub count_inside : count ≤ length ws
  count_inside = omega (arith, rows_most, inside)

  pub count_size : count ≡ length (take count ws)
  count_size = sym (length-take-le count ws count_inside)

  rows_are : held (word_store ws n count area) ≡ map record_of (take count ws)
  unfolding held
  rows_are = sym (map_take record_of count (take n ws)) ∙ ap (map record_of) (take-take count n ws rows_most)

  pub rows_within : Within (take count ws) area
  unfolding store_rows
  rows_within =
      record {
        short = p.laid.small;
        starts =
            starts_inside area (take count ws) (subst (λ (rs : List Record). every (λ (r : Row). lawful_name r.name) (record_rows area rs) ≡ true)
            rows_are p.parts.lawful_names);
      }

  module _ (vs area' : List ℕ) (m : MovesNames (take count ws) area vs area') where
    size : length vs ≡ count
    size = m.size ∙ sym count_size

    abbrev spare : List ℕ
    spare = drop count ws

    more : n ≡ count + (n - count)
    more = omega (arith, rows_most)

    -- the spare words that are lent
    spare_front : take (n - count) (drop count ws) ≡ drop count (take n ws)
    spare_front =
        sym (ap (λ (k : ℕ). drop count (take k ws)) more
        ∙ ap (drop count) (take-add count (n - count) ws)
        ∙ drop_at (take count ws) (take (n - count) (drop count ws)) count (sym count_size))

    taken : take n (vs ++ spare) ≡ vs ++ drop count (take n ws)
    taken =
        ap (λ (k : ℕ). take k (vs ++ spare)) (more ∙ ap (λ (k : ℕ). k + (n - count)) (sym size))
        ∙ take-append-add vs spare (n - count)
        ∙ ap (λ (l : List ℕ). vs ++ l) spare_front

    records_moved : map record_of (take n (vs ++ spare)) ≡ (compacted s).records
    unfolding compacted
    records_moved =
        ap (map record_of) taken
        ∙ map-append record_of vs (drop count (take n ws))
        ∙ (λ i. (m.records_are ∙ ap (λ (rs : List Record). map (moved rs area) rs) (sym rows_are)) i ++ map_drop record_of count (take n ws) i)

    area_moved : area' ≡ (compacted s).area
    unfolding compacted together
    area_moved = m.area_is ∙ ap (λ (rs : List Record). together rs area) (sym rows_are)

  -- as many words in the place of the rows' words
  pub between_moved : (vs : List ℕ) → length vs ≡ count → Between ws (vs ++ drop count ws) n 0 count
  between_moved vs size =
      let z : count - 0 ≡ count = omega arith in
      record {
        order = omega arith;
        lent_only = rows_most;
        within = count_inside;
        size = omega (arith, length-append vs (drop count ws), size, length-drop count ws, count_inside);
        others = rw (z, zero-add count, take_at vs (drop count ws) count size);
      }

-- One call over words ws of which `lent` are lent, with the numbers of a summary beside them; n of both are there.
module _ (ws : List ℕ) (lent count : ℕ) (area sums : List ℕ) (n : ℕ) (n-is : n ≡ lent_of ws lent sums) where
  abbrev whole : Summed
  whole = word_summed ws lent count area sums

  pub front_size : n ≡ length (take n ws)
  front_size = sym (length-take-le n ws (omega (arith, n-is)))

  pub front_inside : n ≤ length ws
  front_inside = omega (arith, n-is)

  pub sums_size : n ≡ length (take n sums)
  sums_size = sym (length-take-le n sums (omega (arith, n-is)))

  pub sums_inside : n ≤ length sums
  sums_inside = omega (arith, n-is)

  same_front : words_summed (take n ws) count area (take n sums) ≡ whole
  same_front = λ i. record { store = word_store ws (n-is i) count area; summary = map summary_of (take (n-is i) sums) }

  refused_result : compacted_is 1 count ≡ Err 1
  unfolding compacted_is
  refused_result = refl

  done_result : compacted_is 0 count ≡ Ok (rows_changed count)
  unfolding compacted_is
  done_result = refl

  -- what a call leaves: its result, the area, the words, and the records that they mean
  abbrev pub Leaves : Result Change ℕ → List ℕ → List ℕ → Type 0
  Leaves r vs area' =
      (r ≡ compacted_is (word_compaction ws lent count area sums).number count)
      × ((area' ≡ (word_compaction ws lent count area sums).area)
      × ((vs ≡ cells_compacted ws lent count area sums)
      × (map record_of (take (lent_of ws lent sums) vs) ≡ (word_compaction ws lent count area sums).records)))

  -- check 1 with the summary, of what is lent
  checked : (b : Bool) → passes (words_table (take n ws) count area (take n sums)) ≡ b → passes (summed_table whole) ≡ b
  checked b e = ap (λ (m : Summed). passes (summed_table m)) (sym same_front) ∙ e

  result_is : (number : ℕ) (r : Result Change ℕ) (left : Summed) → summed_compaction whole ≡ record { number = number; left = left } →
      compacted_is number count ≡ r → r ≡ compacted_is (word_compaction ws lent count area sums).number count
  result_is number r left x e = sym e ∙ ap (λ (c : SummedCompaction). compacted_is c.number count) (sym x)

  cells_stay : passes (summed_table whole) ≡ false → ws ≡ cells_compacted ws lent count area sums
  unfolding cells_compacted
  cells_stay e = rw e

  cells_move : passes (summed_table whole) ≡ true → moved_words (take count ws) area ++ drop count ws ≡ cells_compacted ws lent count area sums
  unfolding cells_compacted
  cells_move e = rw e

  -- the table does not pass: 1, and nothing changes
  pub refused : passes (words_table (take n ws) count area (take n sums)) ≡ false → Leaves (Err 1) ws area
  refused e =
      let x : summed_compaction whole ≡ record { number = 1; left = whole } = unfold summed_compaction in rw (checked false e) in (
        result_is 1 (Err 1) whole x refused_result,
        (
          ap (λ (c : SummedCompaction). c.left.store.area) (sym x),
          (cells_stay (checked false e), ap (λ (c : SummedCompaction). c.left.store.records) (sym x)),
        ),
      )

  module _ (e : passes (words_table (take n ws) count area (take n sums)) ≡ true) where
    pub good : passes (store_table (word_store ws n count area)) ≡ true
    good = (grown_parts (words_summed (take n ws) count area (take n sums)) e).0

    pub done : (vs area' : List ℕ) → MovesNames (take count ws) area vs area'
        → Leaves (Ok (rows_changed count)) (vs ++ drop count ws) area'
    done vs area' m =
        let x : summed_compaction whole ≡ record { number = 0; left = record { store = compacted whole.store; summary = whole.summary } } =
        unfold summed_compaction in rw (checked true e) in (
          result_is 0 (Ok (rows_changed count)) (record { store = compacted whole.store; summary = whole.summary }) x done_result,
          (
            area_moved ws n count area front_inside good vs area' m
                ∙ ap (λ (k : ℕ). (compacted (word_store ws k count area)).area) n-is
                ∙ ap (λ (c : SummedCompaction). c.left.store.area) (sym x),
            (
              ap (λ (l : List ℕ). l ++ drop count ws) m.words_are ∙ cells_move (checked true e),
              ap (λ (k : ℕ). map record_of (take k (vs ++ drop count ws))) (sym n-is)
                  ∙ records_moved ws n count area front_inside good vs area' m
                  ∙ ap (λ (k : ℕ). (compacted (word_store ws k count area)).records) n-is
                  ∙ ap (λ (c : SummedCompaction). c.left.store.records) (sym x),
            ),
          ),
        )
