-- Laws of the store that packed bytes become: names placed one after the other, as the loop of `place_names` meets them, words copied,
-- the whole store, and its first summary. Rests on listing_rules' ProgramStore.
use Rattle.std.specs.Prelude.{Option, Some, None}
use Rattle.listing_rules.proofs.Prelude.{◌∙◌, ◌≡◌, ap, refl, subst, sym, Bool, cond, false, true, none, leb, le-leb, List, [], ◌++◌, ◌∷◌}
use Rattle.listing_rules.proofs.Prelude.{append_assoc, append-nil, map, map-append, ◌%◌, ◌+◌, ◌-◌, ◌/◌, ◌<◌, ◌≤◌, suc, zero, ℕ, arith, drop}
use Rattle.listing_rules.proofs.Prelude.{drop_of_length-le, get_or, length, length-append, length-drop, length-map, length-replicate, length-set}
use Rattle.listing_rules.proofs.Prelude.{length-take, replicate, set, take, drop-cons, drop-drop, drop-set-lt, sets, sets-eq}
use Rattle.listing_rules.proofs.Prelude.{take_all, take-suc-set}
use Rattle.listing_rules.specs.Lists.{joined, filled_to}
use Rattle.listing_rules.specs.Table.{Row, Table, names, passes, packed_rows, packed_table}
use Rattle.listing_rules.specs.Records.{Record as Meant, packed_records}
use Rattle.listing_rules.specs.Subscriptions.{Store, store_table, store_rows, zero_record}
use Rattle.listing_rules.specs.Summary.{Summary, afresh, no_summary, summarized, counted_first}
use Rattle.listing_rules.specs.Frames.{records_from, program_store, program_summed}
use Rattle.listing_rules.proofs.Passes.{packed_parts, packed_rows_lem}
use Rattle.listing_rules.proofs.RecordLaws.{packed_count}
use Rattle.listing_rules.proofs.ListLaws.{map_drop}
use Rattle.listing_rules.proofs.ProgramStore.{count_from, packed_rows_fit, packed_names_fit, program_records, program_store_passes}
use Rattle.listing_rules.proofs.SummaryAlike.{rows_held}
use Rattle.listing_rules.proofs.SummaryLaws.{afresh_length}
use Rattle.octets.specs.Put.{Put}
use Rattle.octets.proofs.Clearing.{drop_zeros}
use Rattle.octets.proofs.Puts.{sets_append}
use Rattle.records.specs.Words.{record_of, meant, cell_of, word_of}
use Rattle.records.specs.Numbers.{summary_of}
use Rattle.records.specs.Lent.{word_table, word_store}
use Rattle.summary.specs.Counts.{numbered_table}
use Rattle.mailbox_table.specs.declared.rows.Row.{Row as CodeRow}
use Rattle.mailbox_table.specs.Words.{row_of_word}
use Rattle.mailbox_table.specs.Index.{name_at, rows_at, Rest, Indexes}
use Rattle.mailbox_table.proofs.HeldLaws.{Held, index_held}
use Rattle.kept_table.specs.Laying.{Short, Inside, Blank, Lays}

-- Where the loop of `place_names` stands: the first i words, which were those of `ws₀`, are the records of their rows, and the names lie in
-- the area, which was `a₀`. What is left gives the records and the names of the whole.
pub record Placing (table ws₀ a₀ ws a : List ℕ) (at i : ℕ) : Type 0 where
  pub inside : i ≤ length ws₀
  pub size : length ws ≡ length ws₀
  pub left : drop i ws ≡ drop i ws₀
  pub records : map record_of (take i ws) ++ records_from at (map record_of (drop i ws₀)) ≡ records_from 0 (map record_of ws₀)
  pub cells : take i ws ++ map cell_of (records_from at (map record_of (drop i ws₀))) ≡ map cell_of (records_from 0 (map record_of ws₀))
  pub done : List ℕ
  pub bytes : a ≡ sets a₀ 0 done
  pub place : at ≡ length done
  pub named : done ++ joined (names (rows_at table (drop i ws₀))) ≡ joined (names (rows_at table ws₀))

pub placing_none : (table ws a : List ℕ) → Placing table ws a ws a 0 0
placing_none table ws a =
    record { inside = omega arith; size = refl; left = refl; records = refl; cells = refl; done = []; bytes = refl; place = refl; named = refl }

-- the name of a word's row, which is short
name_is_lem : (table : List ℕ) (w : ℕ) (row : CodeRow) (n : List ℕ) → row ≡ row_of_word w → n ≡ take row.len (drop row.start table) →
    n ≡ name_at table w
unfolding name_at
name_is_lem table w row n read named = named ∙ ap (λ (r : CodeRow). take r.len (drop r.start table)) read

pub name_short : (table : List ℕ) (w : ℕ) (row : CodeRow) (n : List ℕ) → row ≡ row_of_word w → n ≡ take row.len (drop row.start table) →
    length n < 256
unfolding row_of_word
name_short table w row n read named =
    omega (arith, ap length named, length-take row.len (drop row.start table), ap (λ (r : CodeRow). r.len) read)

-- a record at a place
abbrev placed_at : ℕ → Meant → Meant
placed_at at r = record { flags = r.flags; start = at; len = r.len; readers = r.readers }

-- a name that lies in the area is as long as its word says
name_size : (table : List ℕ) (w : ℕ) → (row_of_word w).start + (row_of_word w).len ≤ length table → length (name_at table w) ≡ (record_of w).len
unfolding name_at row_of_word record_of
name_size table w h =
    omega (arith, h, length-take (w / 4294967296 % 256) (drop (w / 65536 % 65536) table), length-drop (w / 65536 % 65536) table)

module _ {table ws₀ a₀ ws a : List ℕ} {at i : ℕ} (p : Placing table ws₀ a₀ ws a at i) where
  -- the names have room, and so has each
  pub placing_room : Short (rows_at table ws₀) → at ≤ 16384
  placing_room h =
      omega (arith, h, p.place, ap length p.named, length-append p.done (joined (names (rows_at table (drop i ws₀)))))

  next : i < length ws → drop i ws₀ ≡ get_or ws i 0 ∷ drop (i + 1) ws₀
  next h =
      let same : drop (i + 1) ws ≡ drop (i + 1) ws₀ = sym (drop-drop 1 i ws) ∙ ap (drop 1) p.left ∙ drop-drop 1 i ws₀ in
      let one : suc i ≡ i + 1 = omega arith in
      sym p.left ∙ drop-cons ws i 0 h ∙ ap (λ (k : ℕ). get_or ws i 0 ∷ drop k ws) one ∙ ap (λ (l : List ℕ). get_or ws i 0 ∷ l) same

  -- the name of the next word is as long as the word says
  next_size : i < length ws → Inside table ws₀ → length (name_at table (get_or ws i 0)) ≡ (record_of (get_or ws i 0)).len
  next_size h inside =
      let few : i < length ws₀ = omega (arith, h, p.size) in
      let same : get_or ws₀ i 0 ≡ get_or ws i 0 = ap (λ (l : List ℕ). get_or l 0 0) (sym (drop-cons ws₀ i 0 few) ∙ next h) in
      name_size table (get_or ws i 0) (subst (λ (w : ℕ). (row_of_word w).start + (row_of_word w).len ≤ length table) same (inside i few))

  -- a name more: its word tells the record at the place, and the bytes lie there
  grows : i < length ws → (a' : List ℕ) (v at' : ℕ) → record_of v ≡ placed_at at (record_of (get_or ws i 0)) →
      v ≡ cell_of (placed_at at (record_of (get_or ws i 0))) → Short (rows_at table ws₀) → Inside table ws₀ →
      Put a a' at (name_at table (get_or ws i 0)) at' → Placing table ws₀ a₀ (set ws i v) a' at' (i + 1)
  unfolding records_from joined names
  grows h a' v at' told exact short inside put =
      let name = name_at table (get_or ws i 0) in
      let rest = rows_at table (drop (i + 1) ws₀) in
      let cut = ap (rows_at table) (next h) in
      let whole = sym (ap (λ (rs : List Row). p.done ++ joined (names rs)) cut) ∙ p.named in
      let grown = append_assoc p.done name (joined (names rest)) ∙ whole in
      let before = map record_of (take i ws) in
      let later = map record_of (drop (i + 1) ws₀) in
      let one : i + 1 ≡ suc i = omega arith in
      let here : at ≡ 0 + length p.done = omega (arith, p.place) in
      let far : at' ≡ at + length name = omega
      (arith, put.place, put.fits, short, p.place, ap length grown, length-append (p.done ++ name) (joined (names rest)), length-append p.done name) in
      let after : at' ≡ at + (record_of (get_or ws i 0)).len = omega (arith, far, next_size h inside) in
      record {
        inside = omega (arith, p.size);
        size = length-set ws i v ∙ p.size;
        left = drop-set-lt (i + 1) ws i v (omega arith) ∙ sym (drop-drop 1 i ws) ∙ ap (drop 1) p.left ∙ drop-drop 1 i ws₀;
        records =
            ap (λ (l : List ℕ). map record_of l ++ records_from at' later) (ap (λ (k : ℕ). take k (set ws i v)) one ∙ take-suc-set ws i v h)
            ∙ ap (λ (l : List Meant). l ++ records_from at' later) (map-append record_of (take i ws) (v ∷ []))
            ∙ append_assoc before (record_of v ∷ []) (records_from at' later)
            ∙ (λ j. before ++ (told j ∷ records_from (after j) later))
            ∙ sym (ap (λ (l : List ℕ). before ++ records_from at (map record_of l)) (next h))
            ∙ p.records;
        cells =
            ap (λ (l : List ℕ). l ++ map cell_of (records_from at' later)) (ap (λ (k : ℕ). take k (set ws i v)) one ∙ take-suc-set ws i v h)
            ∙ append_assoc (take i ws) (v ∷ []) (map cell_of (records_from at' later))
            ∙ (λ j. take i ws ++ (exact j ∷ map cell_of (records_from (after j) later)))
            ∙ sym (ap (λ (l : List ℕ). take i ws ++ map cell_of (records_from at (map record_of l))) (next h))
            ∙ p.cells;
        done = p.done ++ name;
        bytes = put.bytes ∙ (λ j. sets (p.bytes j) (here j) name) ∙ sym (sets_append a₀ 0 p.done name);
        place = omega (arith, far, p.place, length-append p.done name);
        named = grown;
      }

  pub placing_more : i < length ws → Short (rows_at table ws₀) → Inside table ws₀ → (row : CodeRow) (n a' : List ℕ) (readers v at' : ℕ) →
      row ≡ row_of_word (get_or ws i 0) → n ≡ take row.len (drop row.start table) → readers ≡ (record_of (get_or ws i 0)).readers →
      record_of v ≡ meant (record { flags = row.flags.bits; start = at; len = length n; readers = readers }) →
      v ≡ word_of (record { flags = row.flags.bits; start = at; len = length n; readers = readers }) →
      Put a a' at n at' → Placing table ws₀ a₀ (set ws i v) a' at' (i + 1)
  unfolding meant word_of
  placing_more h short inside row n a' readers v at' read named who told exact put =
      let is = name_is_lem table (get_or ws i 0) row n read named in
      let flags : row.flags.bits ≡ (record_of (get_or ws i 0)).flags = unfold row_of_word record_of in ap (λ (r : CodeRow). r.flags.bits) read in
      let size = ap length is ∙ next_size h inside in
      let placed : ◌≡◌ {A = Meant} (record { flags = row.flags.bits; start = at; len = length n; readers = readers }) (placed_at at (record_of (get_or ws i 0)))
      = λ j. record { flags = flags j; start = at; len = size j; readers = who j } in
      grows h a' v at' (told ∙ placed) (exact ∙ ap cell_of placed) short inside (rw is at put)

  pub placing_all : length ws ≤ i → (map record_of ws ≡ records_from 0 (map record_of ws₀)) × (a ≡ sets a₀ 0 (joined (names (rows_at table ws₀))))
      × (ws ≡ map cell_of (records_from 0 (map record_of ws₀)))
  unfolding records_from joined names
  placing_all h =
      let none : drop i ws₀ ≡ [] = drop_of_length-le ws₀ {i = i} (omega (arith, p.size)) in
      let named : p.done ≡ joined (names (rows_at table ws₀)) = sym (append-nil p.done) ∙ sym
      (ap (λ (l : List ℕ). p.done ++ joined (names (rows_at table l))) none) ∙ p.named in
      let told = sym (append-nil (map record_of (take i ws))) ∙ sym
      (ap (λ (l : List ℕ). map record_of (take i ws) ++ records_from at (map record_of l)) none) ∙ p.records in
      let exact = sym (append-nil (take i ws)) ∙ sym (ap (λ (l : List ℕ). take i ws ++ map cell_of (records_from at (map record_of l))) none) ∙ p.cells in
      (sym (ap (map record_of) (take_all i ws h)) ∙ told, p.bytes ∙ ap (sets a₀ 0) named, sym (take_all i ws h) ∙ exact)

-- Zeros at the end of words and area.
abbrev zeros : ℕ → List ℕ
zeros n = replicate n 0

zero_records : (n : ℕ) → map record_of (zeros n) ≡ replicate n zero_record
unfolding record_of zero_record
zero_records zero = refl
zero_records (suc n) = ap (λ (l : List Meant). zero_record ∷ l) (zero_records n)

names_filled : (m : ℕ) (ns : List ℕ) → length ns ≤ m → sets (zeros m) 0 ns ≡ filled_to m 0 ns
unfolding filled_to
names_filled m ns h =
    let w : m - (0 + length ns) ≡ m - length ns = omega arith in
    sets-eq ns (zeros m) 0 (omega (arith, length-replicate {A = ℕ} m 0))
    ∙ ap (λ (l : List ℕ). ns ++ l) (drop_zeros m (0 + length ns) ∙ ap zeros w)

-- n words that tell these records, and zeros after them up to m
records_filled : (m n : ℕ) (vs : List ℕ) (rs : List Meant) → map record_of vs ≡ rs → length rs ≡ n → n ≤ m →
    map record_of (take m (vs ++ drop n (zeros m))) ≡ filled_to m zero_record rs
unfolding filled_to
records_filled m n vs rs told size few =
    let zs = drop n (zeros m) in
    let same : length vs ≡ n = sym (length-map vs record_of) ∙ ap length told ∙ size in
    let w : m - n ≡ m - length rs = omega (arith, size) in
    let rest : map record_of zs ≡ replicate (m - length rs) zero_record = ap (map record_of) (drop_zeros m n) ∙ zero_records (m - n) ∙ ap
    (λ (k : ℕ). replicate k zero_record) w in
    ap (map record_of) (take_all m (vs ++ zs) (omega (arith, length-append vs zs, same, length-drop n (zeros m), length-replicate {A = ℕ} m 0, few)))
    ∙ map-append record_of vs zs
    ∙ (λ i. told i ++ rest i)

-- the words of these records, and zeros after them up to m
zero_cells : (n : ℕ) → zeros n ≡ map cell_of (replicate n zero_record)
unfolding cell_of zero_record
zero_cells zero = refl
zero_cells (suc n) = ap (λ (l : List ℕ). 0 ∷ l) (zero_cells n)

cells_filled : (m n : ℕ) (vs : List ℕ) (rs : List Meant) → vs ≡ map cell_of rs → length rs ≡ n → vs ++ drop n (zeros m) ≡ map cell_of (filled_to m zero_record rs)
unfolding filled_to
cells_filled m n vs rs exact size =
    let w : m - n ≡ m - length rs = omega (arith, size) in
    let rest : drop n (zeros m) ≡ map cell_of (replicate (m - length rs) zero_record) = drop_zeros m n ∙ zero_cells (m - n) ∙ ap
    (λ (k : ℕ). map cell_of (replicate k zero_record)) w in
    (λ i. exact i ++ rest i) ∙ sym (map-append cell_of rs (replicate (m - length rs) zero_record))

-- A table's index, with room for 512 rows, where its rows are found.
module _ {t cells ws us : List ℕ} {r : Option ℕ} (x : Indexes t (packed_table t) (packed_records t) cells ws us r) (h : length ws ≡ 512) (n : ℕ)
    (e : r ≡ Some n) where
  held : Held x n
  held = index_held x n e

  rest : Rest ws us (Some n)
  rest = subst (Rest ws us) e x.rest

  pub rows_short : length t ≤ 16384 → Short (rows_at t (take n us))
  rows_short s = omega (arith, s, packed_names_fit t, ap (λ (rs : List Row). length (joined (names rs))) held.same)

  pub rows_inside : Inside t (take n us)
  rows_inside = held.index.indexed.inside

  -- the names placed, and zeros after them
  pub lays_rows : (a b vs : List ℕ) → Blank t ws a → map record_of vs ≡ records_from 0 (map record_of (take n us)) →
      b ≡ sets a 0 (joined (names (rows_at t (take n us)))) → vs ≡ map cell_of (records_from 0 (map record_of (take n us))) → Lays t (vs ++ drop n us) b (Some n)
  unfolding program_store names
  lays_rows a b vs blank told put exact =
      let rs = packed_records t in
      let recorded = told ∙ ap (records_from 0) held.told in
      let number : n ≡ length rs = held.size ∙ sym (length-map (take n us) record_of) ∙ ap length held.told in
      let same = held.same ∙ packed_rows_lem t held.table_passes in
      let few : n ≤ 512 = omega (arith, held.inside, x.room, h) in
      let spare : drop n us ≡ drop n (zeros 512) = rest ∙ ap (drop n) blank.words in
      let named = ap (λ (l : List Row). joined (names l)) same in
      let records_are = ap (λ (l : List ℕ). map record_of (take 512 (vs ++ l))) spare ∙ records_filled 512 n vs (records_from 0 rs) recorded
      (count_from 0 rs ∙ sym number) few in
      let area_is = put ∙ (λ i. sets (blank.area i) 0 (named i)) ∙ names_filled 16384 (joined (names (packed_rows t)))
      (omega (arith, blank.table, packed_rows_fit t)) in
      let cells_are = ap (λ (l : List ℕ). vs ++ l) spare ∙ cells_filled 512 n vs (records_from 0 rs) (exact ∙ ap
      (λ (l : List Meant). map cell_of (records_from 0 l)) held.told) (count_from 0 rs ∙ sym number) in
      (held.table_passes, (λ i. record { records = records_are i; count = number i; area = area_is i }), cells_are)

-- no more rows than records
pub laid_few : (t ws a : List ℕ) (count : ℕ) → Lays t ws a (Some count) → count ≤ 512
unfolding program_store
laid_few t ws a count x = omega (arith, ap (λ (s : Store). s.count) x.1, packed_count t, (packed_parts t x.0).parts.few)

-- zeros stand for summaries of four zeros
zero_sums : (n : ℕ) → map summary_of (zeros n) ≡ replicate n no_summary
unfolding summary_of no_summary
zero_sums zero = refl
zero_sums (suc n) = ap (λ (l : List Summary). no_summary ∷ l) (zero_sums n)

sums_left : (n k : ℕ) → drop k (map summary_of (zeros n)) ≡ replicate (n - k) no_summary
sums_left n k = sym (map_drop summary_of k (zeros n)) ∙ ap (map summary_of) (drop_zeros n k) ∙ zero_sums (n - k)

-- The first summary of the store, counted over zeros: with it the words are the program's records and their summary.
module _ (t ws a : List ℕ) (count : ℕ) (short : length t ≤ 16384) (laid : Lays t ws a (Some count)) (size : length ws ≡ 512) where
  few : length (packed_records t) ≤ 512
  few = omega (arith, packed_count t, (packed_parts t laid.0).parts.few)

  counted_over : numbered_table ws count a (zeros 512) ≡ store_table (program_store t)
  unfolding store_table
  counted_over =
      let enough : leb count (length (zeros 512)) ≡ true = le-leb count (length (zeros 512))
      (omega (arith, laid_few t ws a count laid, length-replicate {A = ℕ} 512 0)) in
      let all : ws ≡ take 512 ws = sym (take_all 512 ws (omega (arith, size))) in
      ap (λ (b : Bool). cond b (word_table a ws count) none) enough ∙ ap (λ (l : List ℕ). word_table a l count) all ∙ ap store_table laid.1

  first_sums : (summarized (store_table (program_store t)) (map summary_of (zeros 512))).summary ≡ (program_summed t).summary
  unfolding summarized program_summed counted_first filled_to
  first_sums =
      let rs = store_rows (program_store t) in
      let is = rows_held (program_store t) (program_store_passes t short laid.0) in
      let all = program_records t few in
      let same : 512 - length rs ≡ length (program_store t).records - length (afresh rs) = omega (arith, all, afresh_length rs) in
      rw (program_store_passes t short laid.0)
      ((λ i. afresh (is i) ++ drop (length (is i)) (map summary_of (zeros 512)))
      ∙ ap (λ (l : List Summary). afresh rs ++ l) (sums_left 512 (length rs) ∙ ap (λ (k : ℕ). replicate k no_summary) same))

  pub laid_summed : (zs ss : List ℕ) → zs ≡ replicate 512 0 →
      map summary_of ss ≡ (summarized (numbered_table ws count a zs) (map summary_of zs)).summary →
      record { store = word_store ws 512 count a; summary = map summary_of ss } ≡ program_summed t
  unfolding program_summed counted_first
  laid_summed zs ss blank told =
      let summed = told ∙ ap (λ (l : List ℕ). (summarized (numbered_table ws count a l) (map summary_of l)).summary) blank
      ∙ ap (λ (u : Table). (summarized u (map summary_of (zeros 512))).summary) counted_over ∙ first_sums in
      λ i. record { store = laid.1 i; summary = summed i }

-- the answer tells which
module _ (t ws a : List ℕ) {r : Option ℕ} where
  pub laid_not : Lays t ws a r → r ≡ None → passes (packed_table t) ≡ false
  laid_not x e = subst (Lays t ws a) e x

  pub laid_rows : {n : ℕ} → Lays t ws a r → r ≡ Some n → Lays t ws a (Some n)
  laid_rows x e = subst (Lays t ws a) e x
