-- Packed bytes that do not pass: the store that they would be laid out to does not pass either (W14). A row that is cut short has an empty name there, or
-- one that runs into bytes 00. Rests on ProgramStore, EditPasses and Rows.
use Rattle.listing_rules.proofs.Prelude.{◌∙◌, ◌≡◌, ap, refl, subst, sym, Bool, ◌&&◌, false, false≢true, true, List, [], ◌++◌, ◌∷◌}
use Rattle.listing_rules.proofs.Prelude.{append_assoc, ◌*◌, ◌+◌, ◌-◌, ◌<◌, ◌≤◌, suc, zero, ℕ, arith, leb, drop, drop_of_length-le, get_or}
use Rattle.listing_rules.proofs.Prelude.{length, length-append, length-drop, length-replicate, length-take, length-take-le, replicate, take}
use Rattle.listing_rules.proofs.Prelude.{take-append-add, drop_at, drop-drop, leb-true, leb-false, list_get_or_eq_default}
use Rattle.listing_rules.specs.Bytes.{all}
use Rattle.listing_rules.specs.Lists.{every, joined, filled_to}
use Rattle.listing_rules.specs.Names.{lawful_name, name_byte}
use Rattle.listing_rules.specs.Table.{Row, names, passes, row_at, rows_after, packed_rows, rows_fill, packed_table}
use Rattle.listing_rules.specs.Records.{Record, row_of, record_rows, lies_inside, records_after, packed_records}
use Rattle.listing_rules.specs.Subscriptions.{store_table, store_rows, held}
use Rattle.listing_rules.specs.Frames.{records_from, program_store}
use Rattle.listing_rules.proofs.Bools.{and_l, and_r}
use Rattle.listing_rules.proofs.ListLaws.{all_right}
use Rattle.listing_rules.proofs.LawfulNames.{good_parts, name_range}
use Rattle.listing_rules.proofs.Rows.{fills_drop, rows_drop}
use Rattle.listing_rules.proofs.EditPasses.{store_parts}
use Rattle.listing_rules.proofs.ProgramStore.{laid_holds, filled_store_table}

-- records from the first row that is not skipped
records_drop : (at k : ℕ) (t : List ℕ) → records_after at k t ≡ records_after (at + k) 0 (drop k t)
unfolding records_after
records_drop at zero t = ap (λ (n : ℕ). records_after n 0 t) same
  where
    same : at ≡ at + 0
    same = omega arith
records_drop at (suc k) [] = refl
records_drop at (suc k) (x ∷ t) = records_drop (suc at) k t ∙ ap (λ (n : ℕ). records_after n 0 (drop k t)) next
  where
    next : suc at + k ≡ at + suc k
    next = omega arith

-- a name that runs into bytes 00 is not lawful
zero_first : (after : List ℕ) → all name_byte (0 ∷ after) ≡ true → ⊥
unfolding all
zero_first after h = omega (arith, (name_range 0 (and_l (name_byte 0) (all name_byte after) h)).0)

zero_ends : (name : List ℕ) (k len : ℕ) → length name < len → len ≤ length name + k → all name_byte (take len (name ++ replicate k 0)) ≡ true → ⊥
zero_ends name k len more room h = go k (len - length name) refl refl whole
  where
    split : length name + (len - length name) ≡ len
    split = omega (arith, more)

    whole : all name_byte (name ++ take (len - length name) (replicate k 0)) ≡ true
    whole = ap (all name_byte) (sym (ap (λ (n : ℕ). take n (name ++ replicate k 0)) (sym split) ∙ take-append-add name (replicate k 0) (len - length name))) ∙ h

    go : (j n : ℕ) → j ≡ k → n ≡ len - length name → all name_byte (name ++ take n (replicate j 0)) ≡ true → ⊥
    go j zero q e g = omega (arith, e, more)
    go zero (suc n) q e g = omega (arith, q, e, room)
    go (suc j) (suc n) q e g =
        zero_first (take n (replicate j 0)) (all_right name_byte name (0 ∷ take n (replicate j 0)) g)

-- Bytes whose last row is cut short, laid out from a place on, the rest of the area being 00: not every name lies inside and is lawful.
module _ (area : List ℕ) where
  abbrev Lawful : List Record → Type 0
  Lawful rs = every (λ (r : Row). lawful_name r.name) (record_rows area rs) ≡ true

  abbrev Never : ℕ → Type 0
  Never n =
      (u : List ℕ) → length u ≤ n → rows_fill 0 u ≡ false → (at place k : ℕ) → drop at area ≡ joined (names (rows_after 0 u)) ++ replicate k 0
      → every (lies_inside area) (records_from at (records_after place 0 u)) ≡ true → Lawful (records_from at (records_after place 0 u)) → ⊥

  -- the first row is whole, or it is the one that is cut short
  one_row : (n : ℕ) → Never n → (h : ℕ) (t : List ℕ) → length (h ∷ t) ≤ suc n → rows_fill 0 (h ∷ t) ≡ false → (at place k : ℕ)
      → drop at area ≡ joined (names (rows_after 0 (h ∷ t))) ++ replicate k 0
      → every (lies_inside area) (records_from at (records_after place 0 (h ∷ t))) ≡ true → Lawful (records_from at (records_after place 0 (h ∷ t))) → ⊥
  one_row n later h t l f at place k e i w = go (leb (suc (suc (suc len))) (length t)) refl
    where
      len : ℕ
      len = get_or t 2 0

      name : List ℕ
      name = take len (drop 3 t)

      rest : List Record
      rest = records_from (at + len) (records_after (suc place) (suc (suc (suc len))) t)

      first : Record
      first = record { flags = 256 * h + get_or t 0 0; start = at; len = len; readers = get_or t 1 0 }

      inside : (leb (at + len) (length area) && every (lies_inside area) rest) ≡ true
      inside = unfold records_after records_from every lies_inside in i

      lawful : (lawful_name (take len (drop at area)) && every (λ (r : Row). lawful_name r.name) (record_rows area rest)) ≡ true
      lawful = unfold records_after records_from record_rows every row_of in w

      first_placed : drop at area ≡ (name ++ joined (names (rows_after (suc (suc (suc len))) t))) ++ replicate k 0
      first_placed = unfold rows_after names joined row_at in e

      placed : drop at area ≡ name ++ (joined (names (rows_after (suc (suc (suc len))) t)) ++ replicate k 0)
      placed = first_placed ∙ append_assoc name (joined (names (rows_after (suc (suc (suc len))) t))) (replicate k 0)

      whole : suc (suc (suc len)) ≤ length t → ⊥
      whole q =
          later (drop (suc (suc (suc len))) t) (omega (arith, l, length-drop (suc (suc (suc len))) t))
          (sym (fills_drop (suc (suc (suc len))) t q) ∙ unfilled) (at + len) (suc place + (suc (suc (suc len)))) k after
          (subst (λ (rs : List Record). every (lies_inside area) (records_from (at + len) rs) ≡ true) (records_drop (suc place) (suc (suc (suc len))) t)
          (and_r (leb (at + len) (length area)) (every (lies_inside area) rest) inside))
          (subst (λ (rs : List Record). Lawful (records_from (at + len) rs)) (records_drop (suc place) (suc (suc (suc len))) t)
          (and_r (lawful_name (take len (drop at area))) (every (λ (r : Row). lawful_name r.name) (record_rows area rest)) lawful))
        where
          unfilled : rows_fill (suc (suc (suc len))) t ≡ false
          unfilled = unfold rows_fill in f

          size : length name ≡ len
          size = length-take-le len (drop 3 t) (omega (arith, q, length-drop 3 t))

          after : drop (at + len) area ≡ joined (names (rows_after 0 (drop (suc (suc (suc len))) t))) ++ replicate k 0
          after =
              sym (drop-drop len at area) ∙ ap (drop len) placed ∙ drop_at name (joined (names (rows_after (suc (suc (suc len))) t)) ++ replicate k 0) len size
              ∙ ap (λ (rs : List Row). joined (names rs) ++ replicate k 0) (rows_drop (suc (suc (suc len))) t)

      cut : length t < suc (suc (suc len)) → ⊥
      cut q =
          zero_ends name k len (omega (arith, q, long, length-take len (drop 3 t), length-drop 3 t)) room
          (ap (λ (x : List ℕ). all name_byte (take len x)) (sym alone) ∙ (good_parts (take len (drop at area)) own).bytes)
        where
          own : lawful_name (take len (drop at area)) ≡ true
          own = and_l (lawful_name (take len (drop at area))) (every (λ (r : Row). lawful_name r.name) (record_rows area rest)) lawful

          some_name : 1 ≤ len
          some_name = omega (arith, (good_parts (take len (drop at area)) own).least, length-take len (drop at area))

          long : 3 ≤ length t
          long = by (leb 3 (length t)) refl
            where
              by : (b : Bool) → leb 3 (length t) ≡ b → 3 ≤ length t
              by true z = leb-true 3 (length t) z
              by false z = absurd (omega (arith, some_name, list_get_or_eq_default t 0 {n = 2} (omega (arith, leb-false 3 (length t) z))))

          none_after : rows_after (suc (suc (suc len))) t ≡ []
          none_after =
              rows_drop (suc (suc (suc len))) t ∙ ap (rows_after 0) (drop_of_length-le t {i = suc (suc (suc len))} (omega (arith, q))) ∙
              (unfold rows_after in refl)

          alone : drop at area ≡ name ++ replicate k 0
          alone = unfold names joined in placed ∙ ap (λ (rs : List Row). name ++ (joined (names rs) ++ replicate k 0)) none_after

          room : len ≤ length name + k
          room =
              omega (
                arith,
                leb-true (at + len) (length area) (and_l (leb (at + len) (length area)) (every (lies_inside area) rest) inside),
                ap length alone,
                length-drop at area,
                length-append name (replicate k 0),
                length-replicate {A = ℕ} k 0,
              )

      go : (b : Bool) → leb (suc (suc (suc len))) (length t) ≡ b → ⊥
      go true q = whole (leb-true (suc (suc (suc len))) (length t) q)
      go false q = cut (leb-false (suc (suc (suc len))) (length t) q)

  more : (n : ℕ) → Never n → Never (suc n)
  more n later [] l f at place k e i w = false≢true (sym f ∙ (unfold rows_fill in refl))
  more n later (h ∷ t) l f at place k e i w = one_row n later h t l f at place k e i w

  cut_short : (n : ℕ) → Never n
  cut_short zero [] l f at place k e i w = false≢true (sym f ∙ (unfold rows_fill in refl))
  cut_short zero (h ∷ t) l f at place k e i w = omega (arith, l)
  cut_short (suc n) u l f at place k e i w = more n (cut_short n) u l f at place k e i w

-- Theorem: what does not pass packed does not pass laid out.
pub program_unsound : (t : List ℕ) → length t ≤ 16384 → passes (packed_table t) ≡ false → passes (store_table (program_store t)) ≡ false
unfolding record_rows store_rows
program_unsound t h p = by_fill (rows_fill 0 t) refl
  where
    no_pass : rows_fill 0 t ≡ false → passes (store_table (program_store t)) ≡ true → ⊥
    no_pass f w =
        let z = store_parts (program_store t) w in
        cut_short (program_store t).area (length t) t (omega arith) f 0 0 (16384 - length (joined (names (packed_rows t)))) area_is
        (subst (λ (rs : List Record). every (lies_inside (program_store t).area) rs ≡ true) rows_are z.laid.inside)
        (subst (λ (rs : List Record). every (λ (r : Row). lawful_name r.name) (record_rows (program_store t).area rs) ≡ true) rows_are
        z.parts.lawful_names)
      where
        rows_are : held (program_store t) ≡ records_from 0 (records_after 0 0 t)
        rows_are = unfold held packed_records in laid_holds t

        area_is : drop 0 (program_store t).area ≡ joined (names (rows_after 0 t)) ++ replicate (16384 - length (joined (names (packed_rows t)))) 0
        area_is = unfold program_store filled_to packed_rows in refl

    by_pass : rows_fill 0 t ≡ false → (b : Bool) → passes (store_table (program_store t)) ≡ b → passes (store_table (program_store t)) ≡ false
    by_pass f true w = absurd (no_pass f w)
    by_pass f false w = w

    by_fill : (b : Bool) → rows_fill 0 t ≡ b → passes (store_table (program_store t)) ≡ false
    by_fill true f = ap passes (filled_store_table t h f) ∙ p
    by_fill false f = by_pass f (passes (store_table (program_store t))) refl
