-- What is done to the words is done to the records of a store. Rests on the library and on the word of a record.
use Rattle.std.specs.Prelude.{Ok, Err}
use Rattle.listing_rules.proofs.Prelude.{◌∙◌, ◌≡◌, ap, refl, subst, sym, List, [], ◌++◌, ◌∷◌, map, map-append, ◌%◌, ◌+◌, ◌-◌, ◌/◌, ◌<◌, suc, ℕ}
use Rattle.listing_rules.proofs.Prelude.{add-one, arith, drop, get_or, length, length-append, set, take, append_snoc, drop_at, get_or-take}
use Rattle.listing_rules.proofs.Prelude.{length-take-le, set_split, take_at}
use Rattle.listing_rules.specs.Records.{Record}
use Rattle.listing_rules.specs.Subscriptions.{Store, held, stored, flagged, inserted, removed, nth, zero_record}
use Rattle.listing_rules.proofs.ListLaws.{map_drop}
use Rattle.records.specs.Words.{record_of, meant}
use Rattle.records.proofs.WordLaws.{word_tells}
use Rattle.subscriptions.specs.declared.Plan.TheVariants.{Keep, Flag, Insert, Remove}
use Rattle.subscriptions.specs.Plans.{Decision, carried}
use Rattle.subscriptions.specs.Applied.{with_flags, new_word, inserted_at, removed_at, words_after, freed, area_after, change_of, changed_records}
use Rattle.subscriptions.specs.Applied.{Applies, Fits, FlagFits, InsertFits, RemoveFits}
use Rattle.subscriptions.proofs.FitLaws.{record_at_lem}
use Rattle.subscriptions.proofs.ShiftLaws.{length_middle}

-- a word with other flags, and the word of a row 0002, as records
flags_told : (f w : ℕ) → f < 65536 →
    record_of (with_flags f w) ≡ record { flags = f; start = (record_of w).start; len = (record_of w).len; readers = (record_of w).readers }
unfolding record_of with_flags
flags_told f w h = λ i. record { flags = bits i; start = start_is_lem i; len = len_is i; readers = readers_are i }
  where
    v : ℕ
    v = w - w % 65536 + f

    bits : v % 65536 ≡ f
    bits = omega arith

    start_is_lem : v / 65536 % 65536 ≡ w / 65536 % 65536
    start_is_lem = omega arith

    len_is : v / 4294967296 % 256 ≡ w / 4294967296 % 256
    len_is = omega arith

    readers_are : v / 281474976710656 % 256 ≡ w / 281474976710656 % 256
    readers_are = omega arith

new_told : (start len : ℕ) → start < 65536 → len < 256 → record_of (new_word start len) ≡ record { flags = 2; start = start; len = len; readers = 0xFF }
unfolding new_word meant
new_told start len h g = word_tells (record { flags = 2; start = start; len = len; readers = 0xFF }) (omega arith) h g (omega arith)

zero_told : record_of 0 ≡ zero_record
unfolding record_of zero_record
zero_told = refl

-- the words that an insertion and a removal changed or moved
module _ (ws : List ℕ) (k m : ℕ) where
  pub taken_insert : (w : ℕ) (inner rest : List ℕ) → length (take k ws) ≡ k → length inner ≡ m →
      take (suc m) (drop k (take k ws ++ (w ∷ (inner ++ rest)))) ≡ w ∷ inner
  taken_insert w inner rest h g = rw (drop_at (take k ws) (w ∷ (inner ++ rest)) k h, take_at inner rest m g)

  pub taken_remove : (inner rest : List ℕ) → length (take k ws) ≡ k → length inner ≡ m →
      take (suc m) (drop k (take k ws ++ (inner ++ (0 ∷ rest)))) ≡ inner ++ (0 ∷ [])
  taken_remove inner rest h g =
      rw (drop_at (take k ws) (inner ++ (0 ∷ rest)) k h, ← append_snoc inner 0 rest)
      (take_at (inner ++ (0 ∷ [])) rest (suc m) (length-append inner (0 ∷ []) ∙ rw g (add-one m)))

module _ (s : Store) (ws : List ℕ) (told : take s.count s.records ≡ map record_of (take s.count ws)) where
  abbrev rs : List Record
  rs = s.records

  abbrev count : ℕ
  count = s.count

  -- record k of the store is that of word k
  nth_told : (k : ℕ) → k < s.count → nth s.records k ≡ record_of (get_or ws k 0)
  unfolding nth zero_record
  nth_told k h =
      sym (get_or-take count rs k zero_record h)
      ∙ ap (λ (l : List Record). get_or l k zero_record) told
      ∙ record_at_lem (take count ws) k
      ∙ ap record_of (get_or-take count ws k 0 h)

  middle : (k : ℕ) → map record_of (drop k (take s.count ws)) ≡ drop k (held s)
  unfolding held
  middle k = map_drop record_of k (take count ws) ∙ ap (λ (l : List Record). drop k l) (sym told)

  flag_applies : (k f : ℕ) → FlagFits ws s.count k f
      → (flagged s k f).records ≡ changed_records s.records (record { from = k; to = k + 1; count = s.count })
      (set ws k (with_flags f (get_or ws k 0)))
  unfolding flagged changed_records
  flag_applies k f fit =
      let one : k + 1 - k ≡ 1 = omega arith in
      let w : ℕ = with_flags f (get_or ws k 0) in
      rw (
        one,
        add-one k,
        nth_told k fit.row,
        set_split ws k w (omega (arith, fit.row, fit.words)),
        drop_at (take k ws) (w ∷ drop (suc k) ws) k (length-take-le k ws (omega (arith, fit.row, fit.words))),
        flags_told f (get_or ws k 0) fit.flags,
      )

  insert_applies : (k start : ℕ) (n : List ℕ) → InsertFits ws s.count s.area n k start
      → (inserted s k start n).records
      ≡ changed_records s.records (record { from = k; to = s.count + 1; count = s.count + 1 })
      (inserted_at ws s.count k (new_word start (length n)))
  unfolding inserted changed_records inserted_at
  insert_applies k start n fit =
      let m : count + 1 - k ≡ suc (count - k) = omega (arith, fit.place) in
      rw (
        m,
        add-one count,
        taken_insert ws k (count - k) (new_word start (length n)) (drop k (take count ws)) (drop (suc count) ws)
            (length-take-le k ws (omega (arith, fit.place, fit.room))) (length_middle k count ws (omega (arith, fit.room))),
        middle k,
        new_told start (length n) fit.start_small fit.name_short,
      )

  remove_applies : (k : ℕ) → RemoveFits ws s.count s.area k
      → (removed s k).records ≡ changed_records s.records (record { from = k; to = s.count; count = s.count - 1 }) (removed_at ws s.count k)
  unfolding removed changed_records removed_at
  remove_applies k fit =
      let m : count - k ≡ suc (count - suc k) = omega (arith, fit.row) in
      rw (
        m,
        taken_remove ws k (count - suc k) (drop (suc k) (take count ws)) (drop count ws) (length-take-le k ws (omega (arith, fit.row, fit.words)))
            (length_middle (suc k) count ws fit.words),
        map-append record_of (drop (suc k) (take count ws)) (0 ∷ []),
        middle (suc k),
        zero_told,
        append_snoc (drop (suc k) (held s)) zero_record (drop count rs),
      )

  -- the plan by its cases
  applied : (p : Decision) (t : Store) (n : List ℕ) → Fits p ws s.count s.area n → carried s n p ≡ stored t →
      Applies p s t ws s.count s.area n
  unfolding carried words_after area_after change_of changed_records flagged inserted removed freed
  applied (Ok Keep) t n fit e =
      let q : s ≡ t = cc in
      subst (λ (u : Store). Applies (Ok Keep) s u ws s.count s.area n) q (record { area_is = refl; count_is = refl; records_are = refl })
  applied (Ok (Flag k f)) t n fit e =
      let q : flagged s k f ≡ t = cc in
      subst (λ (u : Store). Applies (Ok (Flag k f)) s u ws s.count s.area n) q
      (record { area_is = refl; count_is = refl; records_are = flag_applies k f fit })
  applied (Ok (Insert k start)) t n fit e =
      let q : inserted s k start n ≡ t = cc in
      subst (λ (u : Store). Applies (Ok (Insert k start)) s u ws s.count s.area n) q
      (record { area_is = refl; count_is = sym (add-one s.count); records_are = insert_applies k start n fit })
  applied (Ok (Remove k)) t n fit e =
      let q : removed s k ≡ t = cc in
      subst (λ (u : Store). Applies (Ok (Remove k)) s u ws s.count s.area n) q
      (record { area_is = rw (nth_told k fit.row); count_is = refl; records_are = remove_applies k fit })
  applied (Err x) t n fit e = let z : ◌≡◌ {A = ℕ} 0 1 = cc in absurd (omega arith)

-- What `carried` makes of a store is what the plan done on its words and area leaves, a refusal apart, which leaves nothing to say.
pub applied_store : (p : Decision) (s t : Store) (ws : List ℕ) (count : ℕ) (area n : List ℕ) → s.area ≡ area → s.count ≡ count
    → take count s.records ≡ map record_of (take count ws) → Fits p ws count area n → carried s n p ≡ stored t → Applies p s t ws count area n
applied_store p s t ws count area n ea ec =
    subst (λ (a : List ℕ). take count s.records ≡ map record_of (take count ws) → Fits p ws count a n → carried s n p ≡ stored t →
    Applies p s t ws count a n) ea
    (subst (λ (c : ℕ). take c s.records ≡ map record_of (take c ws) → Fits p ws c s.area n → carried s n p ≡ stored t →
    Applies p s t ws c s.area n) ec
    (λ told fit e. applied s ws told p t n fit e))
