-- A command over the words of records is the command over the records, and so are names moved together: the words are copied in, and those that
-- became others are copied back. Rests on SummarySpare of the definitions (records after the first 512 do not matter), and on the library.
use Rattle.listing_rules.proofs.Prelude.{◌∙◌, ◌≡◌, ap, refl, sym, Bool, false, true, List, [], ◌++◌, ◌∷◌, append_assoc, map, map-append, ◌+◌, ◌-◌}
use Rattle.listing_rules.proofs.Prelude.{◌<◌, ◌≤◌, min, ℕ, dec_le, arith, leb, leb-false, leb-true, length-take, drop-append-le, drop, length}
use Rattle.listing_rules.proofs.Prelude.{length-drop, length-map, take, take-append-drop, drop_at, drop-drop, drop-paste, length-take-le, paste}
use Rattle.listing_rules.proofs.Prelude.{paste-zero, take-add, take-paste, take-take}
use Rattle.listing_rules.specs.Records.{Record as Meant, record_rows}
use Rattle.listing_rules.specs.Command.{parsed}
use Rattle.listing_rules.specs.Table.{passes}
use Rattle.listing_rules.specs.Readers.{is_reader}
use Rattle.listing_rules.specs.Server.{refusal, changes}
use Rattle.listing_rules.specs.Subscriptions.{Store, store_table, store_rows, held}
use Rattle.listing_rules.specs.Summary.{Summary, Summed, SummedCommand, summed_command, SummedCompaction, summed_compaction}
use Rattle.listing_rules.proofs.ListLaws.{map_take, map_drop}
use Rattle.listing_rules.proofs.Alike.{few_fail}
use Rattle.listing_rules.proofs.SummaryCommands.{stranger_summed, unsound_summed, changes_refused, changes_rows}
use Rattle.listing_rules.proofs.SummarySpare.{command_with, compaction_more, summed_front, compaction_front}
use Rattle.records.specs.declared.Record.{Record}
use Rattle.records.specs.Words.{word_of, meant, record_of, struct_of}
use Rattle.records.specs.Numbers.{summary_of}
use Rattle.records.specs.Lent.{lent_summed, lent_of, word_store, word_summed}
use Rattle.records.specs.Stores.{Handed, lent_command, word_command, Moved, lent_compaction, word_compaction, Between}

map_paste : {A B : Type 0} (f : A → B) (d : List A) (at : ℕ) (s : List A) (n : ℕ) → map f (paste d at s n) ≡ paste (map f d) at (map f s) n
map_paste f d at s n =
    map-append f (take at d ++ take n s) (drop (at + n) d)
    ∙ rw (map-append f (take at d) (take n s), map_take f at d, map_take f n s, map_drop f (at + n) d)

meant_struct : (ws : List ℕ) → map meant (map struct_of ws) ≡ map record_of ws
unfolding meant struct_of record_of
meant_struct [] = refl
meant_struct (w ∷ ws) = ap (λ (l : List Meant). record_of w ∷ l) (meant_struct ws)

-- a run pasted into a list within its first n: what comes after them stays, and they are known by what they were
module _ {A : Type 0} (at : ℕ) (s : List A) (k n : ℕ) (inside : at + k ≤ n) (enough : k ≤ length s) where
  pasted_rest : (d : List A) → n ≤ length d → drop n (paste d at s k) ≡ drop n d
  pasted_rest d h =
      let m : at + k + (n - (at + k)) ≡ n = omega arith in
      ap (λ (j : ℕ). drop j (paste d at s k)) (sym m)
      ∙ sym (drop-drop (n - (at + k)) (at + k) (paste d at s k))
      ∙ ap (λ (l : List A). drop (n - (at + k)) l) (drop-paste d at s k (omega arith) enough)
      ∙ drop-drop (n - (at + k)) (at + k) d
      ∙ ap (λ (j : ℕ). drop j d) m

  rest_taken : (d : List A) → n ≤ length d → take (n - (at + k)) (drop (at + k) d) ≡ drop (at + k) (take n d)
  rest_taken d h =
      let m : at + k + (n - (at + k)) ≡ n = omega arith in
      sym (drop_at (take (at + k) d) (take (n - (at + k)) (drop (at + k) d)) (at + k) (length-take-le (at + k) d (omega arith)))
      ∙ ap (λ (l : List A). drop (at + k) l) (sym (take-add (at + k) (n - (at + k)) d) ∙ ap (λ (j : ℕ). take j d) m)

  pasted_front : (d : List A) → n ≤ length d → take n (paste d at s k) ≡ (take at (take n d) ++ take k s) ++ drop (at + k) (take n d)
  pasted_front d h =
      let m : at + k + (n - (at + k)) ≡ n = omega arith in
      ap (λ (j : ℕ). take j (paste d at s k)) (sym m)
      ∙ take-add (at + k) (n - (at + k)) (paste d at s k)
      ∙ rw (take-paste d at s k (omega arith) enough, drop-paste d at s k (omega arith) enough, rest_taken d h, take-take at n d (omega arith))

  -- the list, where its first n were those of another
  pasted_alike : (d e : List A) → n ≤ length d → n ≤ length e → take n d ≡ take n e → take n (paste e at s k) ++ drop n d ≡ paste d at s k
  pasted_alike d e h g same =
      rw (pasted_front e g, sym same, sym (pasted_front d h), sym (pasted_rest d h)) (take-append-drop n (paste d at s k))

-- what the command c over words hands back is what the command d over records hands back, and these are the records then
pub record Answers (c d : Handed) (rs : List Record) : Type 0 where
  pub reply : c.reply ≡ d.reply
  pub changed : c.changed ≡ d.changed
  pub count : c.count ≡ d.count
  pub area : c.area ≡ d.area
  pub records : map meant rs ≡ d.records
  pub summary : c.summary ≡ d.summary

-- the same of names moved together
pub record Compacts (c d : Moved) (rs : List Record) : Type 0 where
  pub number : c.number ≡ d.number
  pub area : c.area ≡ d.area
  pub records : map meant rs ≡ d.records

-- what `copy_in` promises of n records rs, at most `most`, and the words us, which were xs
abbrev pub Copied : ℕ → List Record → List ℕ → List ℕ → ℕ → Type 0
Copied most rs xs us n =
    (n ≡ min most (min (length rs) (length xs))) × (us ≡ paste xs 0 (map word_of rs) n) × (map record_of (take n us) ≡ map meant (take n rs))

-- and `copy_back` of the records rs', which were rs, and the words vs
abbrev pub CopiedBack : List Record → List ℕ → ℕ → ℕ → List Record → Type 0
CopiedBack rs vs start to rs' = rs' ≡ paste rs start (map struct_of (drop start vs)) (min to (min (length rs) (length vs)) - start)

-- a list after its first n, in two parts
in_parts : {A : Type 0} (n k : ℕ) (xs : List A) → n ≤ k → n ≤ length xs → drop n (take k xs) ++ drop k xs ≡ drop n xs
in_parts n k xs h g =
    sym (drop-append-le n (take k xs) (drop k xs) (omega (arith, h, g, length-take k xs))) ∙ ap (λ (l : List _). drop n l) (take-append-drop k xs)

-- of the words us those between `start` and `to` became others, vs; the summary beside them is `sums`
module _ (rs : List Record) (xs us vs sums : List ℕ) (lent start to : ℕ) (lx : length xs ≡ 512) (lu : length us ≡ 512) (lv : length vs ≡ 512)
    (c : Copied (length sums) rs xs us lent) where
  short : lent ≡ min (length sums) (min (length rs) 512)
  short = let e : lent ≡ min (length sums) (min (length rs) (length xs)) = c.0 in omega (arith, e, lx)

  front_is_lem : take lent (map meant rs) ≡ take lent (map record_of us)
  front_is_lem = sym (map_take meant lent rs) ∙ sym c.2 ∙ map_take record_of lent us

  pub back_are : Between us vs lent start to → (rs' : List Record) → CopiedBack rs vs start to rs' →
      map meant rs' ≡ map record_of (take lent vs) ++ drop lent (map meant rs)
  back_are b rs' e = records_are ∙ go (dec_le start to)
    where
      most : to ≤ lent
      most = b.lent_only

      run : min to (min (length rs) (length vs)) - start ≡ to - start
      run = omega (arith, short, most, lv)

      ms : List Meant
      ms = map record_of (drop start vs)

      records_are : map meant rs' ≡ paste (map meant rs) start ms (to - start)
      records_are =
          ap (map meant) e
          ∙ map_paste meant rs start (map struct_of (drop start vs)) (min to (min (length rs) (length vs)) - start)
          ∙ rw (meant_struct (drop start vs), run)

      words_are : map record_of vs ≡ paste (map record_of us) start ms (to - start)
      words_are = ap (map record_of) b.others ∙ map_paste record_of us start (drop start vs) (to - start)

      go : Dec (start ≤ to) → paste (map meant rs) start ms (to - start) ≡ map record_of (take lent vs) ++ drop lent (map meant rs)
      go (yes h) =
          let lr : length (map meant rs) ≡ length rs = length-map rs meant in
          let lw : length (map record_of us) ≡ length us = length-map us record_of in
          let lm : length ms ≡ length vs - start = length-map (drop start vs) record_of ∙ length-drop start vs in
          sym
          (rw (map_take record_of lent vs, words_are)
          (pasted_alike start ms (to - start) lent (omega (arith, most, h)) (omega (arith, lm, lv, short, most))
          (map meant rs) (map record_of us) (omega (arith, short, lr)) (omega (arith, short, lw, lu)) front_is_lem))
      go (no h) =
          let none : to - start ≡ 0 = omega arith in
          let same : map record_of vs ≡ map record_of us = words_are ∙ ap (paste (map record_of us) start ms) none ∙ sym
          (paste-zero (map record_of us) start ms) in
          ap (paste (map meant rs) start ms) none
          ∙ sym (paste-zero (map meant rs) start ms)
          ∙ sym (rw (map_take record_of lent vs, same, sym front_is_lem) (take-append-drop lent (map meant rs)))

  -- the records and numbers that are lent, as many of both
  abbrev pub RS : List Meant
  RS = map meant (take (length sums) rs)

  abbrev pub MS : List Summary
  MS = map summary_of (take (length rs) sums)

  pub both : length RS ≡ length MS
  both =
      omega (
        arith,
        length-map (take (length sums) rs) meant,
        length-map (take (length rs) sums) summary_of,
        length-take (length sums) rs,
        length-take (length rs) sums,
      )

  pub lent_is : lent ≡ min (length RS) 512
  lent_is = omega (arith, short, length-map (take (length sums) rs) meant, length-take (length sums) rs)

  -- the words are the first of them
  words_are : map record_of (take lent us) ≡ take lent RS
  words_are =
      c.2
      ∙ ap (map meant) (sym (take-take lent (length sums) rs (omega (arith, short))))
      ∙ map_take meant lent (take (length sums) rs)

  numbers_are : map summary_of (take lent sums) ≡ take lent MS
  numbers_are =
      ap (map summary_of) (sym (take-take lent (length rs) sums (omega (arith, short)))) ∙ map_take summary_of lent (take (length rs) sums)

  pub whole : lent_of us lent sums ≡ lent
  whole = omega (arith, short, lu)

  module _ (count : ℕ) (area : List ℕ) where
    -- the store of the words is the first part of what is lent
    pub word_is : word_summed us lent count area sums ≡ record
        { store = record { records = take lent RS; count = count; area = area }; summary = take lent MS }
    word_is =
        (λ i. record { store = word_store us (whole i) count area; summary = map summary_of (take (whole i) sums) })
        ∙ (λ i. record { store = record { records = words_are i; count = count; area = area }; summary = numbers_are i })

    pub records_rest : drop lent RS ++ drop (length sums) (map meant rs) ≡ drop lent (map meant rs)
    records_rest =
        ap (λ (l : List Meant). drop lent l ++ drop (length sums) (map meant rs)) (map_take meant (length sums) rs)
        ∙ in_parts lent (length sums) (map meant rs) (omega (arith, short)) (omega (arith, short, length-map rs meant))

    pub numbers_rest : drop lent MS ++ drop (length rs) (map summary_of sums) ≡ drop lent (map summary_of sums)
    numbers_rest =
        ap (λ (l : List Summary). drop lent l ++ drop (length rs) (map summary_of sums)) (map_take summary_of (length rs) sums)
        ∙ in_parts lent (length rs) (map summary_of sums) (omega (arith, short)) (omega (arith, short, length-map sums summary_of))

    module _ (reader : ℕ) (spaces l out : List ℕ) where
      abbrev of_words : SummedCommand
      of_words = summed_command reader (word_summed us lent count area sums) spaces l out

      front_command : summed_command reader (lent_summed rs count area sums) spaces l out ≡ command_with (drop lent RS) (drop lent MS) of_words
      front_command =
          summed_front reader RS MS lent both lent_is count area spaces l out
          ∙ ap (λ (m : Summed). command_with (drop lent RS) (drop lent MS) (summed_command reader m spaces l out)) (sym word_is)

      -- a row was changed in the one as in the other
      same_change : changes (word_summed us lent count area sums).store (parsed l) of_words.reply
          ≡ changes (lent_summed rs count area sums).store (parsed l) of_words.reply
      same_change = go (leb count lent) refl
        where
          w : Store
          w = (word_summed us lent count area sums).store

          v : Store
          v = (lent_summed rs count area sums).store

          rows_same : count ≤ lent → store_rows w ≡ store_rows v
          rows_same h = unfold store_rows held in
              ap (λ (m : Summed). record_rows area (take count m.store.records)) word_is ∙ ap (record_rows area) (take-take count lent RS h)

          fails : lent < count → passes (store_table w) ≡ false
          fails h = unfold store_table in
              few_fail area w.records count (omega (arith, h, ap (λ (m : Summed). length m.store.records) word_is, length-take lent RS))

          refused_so : lent < count → (b : Bool) → is_reader reader ≡ b → (k : ℕ) × (of_words.reply ≡ refusal k)
          refused_so h true r =
              (1, ap (λ (x : SummedCommand). x.reply) (unsound_summed reader (word_summed us lent count area sums) spaces l out r (fails h)))
          refused_so h false r =
              (16, ap (λ (x : SummedCommand). x.reply) (stranger_summed reader (word_summed us lent count area sums) spaces l out r))

          go : (b : Bool) → leb count lent ≡ b → changes w (parsed l) of_words.reply ≡ changes v (parsed l) of_words.reply
          go true e = changes_rows w v (parsed l) of_words.reply (rows_same (leb-true count lent e))
          go false e =
              let r = refused_so (leb-false count lent e) (is_reader reader) refl in
              ap (changes w (parsed l)) r.1 ∙ changes_refused w (parsed l) r.0 ∙ sym
              (ap (changes v (parsed l)) r.1 ∙ changes_refused v (parsed l) r.0)

      pub answers : map record_of (take lent vs) ≡ (word_command us lent count reader area sums spaces l out).records → Between us vs lent start to
          → (rs' : List Record) → CopiedBack rs vs start to rs'
          → Answers (word_command us lent count reader area sums spaces l out) (lent_command rs count reader area sums spaces l out) rs'
      answers e b rs' back =
          record {
            reply = sym (ap (λ (x : SummedCommand). x.reply) front_command);
            changed =
                same_change ∙ ap (changes (lent_summed rs count area sums).store (parsed l))
                (sym (ap (λ (x : SummedCommand). x.reply) front_command));
            count = sym (ap (λ (x : SummedCommand). x.left.store.count) front_command);
            area = sym (ap (λ (x : SummedCommand). x.left.store.area) front_command);
            records =
                back_are b rs' back
                ∙ (λ i. e i ++ sym records_rest i)
                ∙ sym (append_assoc of_words.left.store.records (drop lent RS) (drop (length sums) (map meant rs)))
                ∙ ap (λ (x : SummedCommand). x.left.store.records ++ drop (length sums) (map meant rs)) (sym front_command);
            summary =
                ap (λ (k : ℕ). of_words.left.summary ++ drop k (map summary_of sums)) whole
                ∙ ap (λ (x : List Summary). of_words.left.summary ++ x) (sym numbers_rest)
                ∙ sym (append_assoc of_words.left.summary (drop lent MS) (drop (length rs) (map summary_of sums)))
                ∙ ap (λ (x : SummedCommand). x.left.summary ++ drop (length rs) (map summary_of sums)) (sym front_command);
          }

    front_compaction : summed_compaction (lent_summed rs count area sums)
        ≡ compaction_more (drop lent RS) (drop lent MS) (summed_compaction (word_summed us lent count area sums))
    front_compaction =
        compaction_front RS MS lent both lent_is count area
        ∙ ap (λ (m : Summed). compaction_more (drop lent RS) (drop lent MS) (summed_compaction m)) (sym word_is)

    pub compacts : map record_of (take lent vs) ≡ (word_compaction us lent count area sums).records → Between us vs lent start to
        → (rs' : List Record) → CopiedBack rs vs start to rs' →
        Compacts (word_compaction us lent count area sums) (lent_compaction rs count area sums) rs'
    compacts e b rs' back =
        record {
          number = sym (ap (λ (x : SummedCompaction). x.number) front_compaction);
          area = sym (ap (λ (x : SummedCompaction). x.left.store.area) front_compaction);
          records =
              back_are b rs' back
              ∙ (λ i. e i ++ sym records_rest i)
              ∙ sym (append_assoc (summed_compaction (word_summed us lent count area sums)).left.store.records (drop lent RS)
              (drop (length sums) (map meant rs)))
              ∙ ap (λ (x : SummedCompaction). x.left.store.records ++ drop (length sums) (map meant rs)) (sym front_compaction);
        }
