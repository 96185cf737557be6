-- The map of free bytes: names taken out of it one by one, and what it says then. Rests on the library alone.
use borrow.Rule.Slice.PartMut.{put_mid}
use Rattle.listing_rules.proofs.Prelude.{◌++◌, drop-drop, get_or-append-add, get_or-drop, length-append, length-drop, length-take, list_get_or_append}
use Rattle.listing_rules.proofs.Prelude.{◌∙◌, ◌≡◌, ap, refl, sym, Bool, ◌&&◌, ◌||◌, and-false, and-true, false, not, true, List, [], ◌∷◌, map, ◌+◌}
use Rattle.listing_rules.proofs.Prelude.{◌-◌, ◌<◌, ◌≤◌, min, suc, zero, ℕ, add-one, dec_le, arith, leb, drop, drop_of_length-le, get_or, get_or-replicate}
use Rattle.listing_rules.proofs.Prelude.{length, length-replicate, replicate, take, drop-cons, ext_get_or}
use Rattle.listing_rules.proofs.Prelude.{get_or-take, length-take-le, le-leb, le-ltb, lt-leb, lt-ltb}
use Rattle.listing_rules.specs.Lists.{any_of}
use Rattle.listing_rules.specs.Records.{Record}
use Rattle.listing_rules.specs.Subscriptions.{uses, free_from}
pub use Rattle.listing_rules.proofs.FreeRuns.{free_length}
use Rattle.listing_rules.proofs.FreeRuns.{free_at}
use Rattle.records.specs.Words.{record_of}
use Rattle.mailbox_table.specs.Words.{row_of_word}
use Rattle.subscriptions.specs.Runs.{used_between, used_by, Unmarks}

-- nothing stands after the end
behind : (l : List Bool) (j : ℕ) → length l ≤ j → get_or l j false ≡ false
behind [] j h = refl
behind (b ∷ l) zero h = absurd (omega arith)
behind (b ∷ l) (suc j) h = behind l j (omega arith)

-- a place that lies between two places, before them, after them
module _ (start end j : ℕ) where
  between_in : start ≤ j → j < end → used_between start end j ≡ true
  unfolding used_between
  between_in h g = rw (le-leb start j h, lt-ltb j end g)

  between_before : j < start → used_between start end j ≡ false
  unfolding used_between
  between_before h = rw (lt-leb start j h)

  between_after : end ≤ j → used_between start end j ≡ false
  unfolding used_between
  between_after h = rw (le-ltb j end h) (and-false (leb start j))

-- bytes filled in the middle of a map
module _ (d : List Bool) (start n : ℕ) (h : start + n ≤ length d) where
  abbrev filled_part : List Bool
  filled_part = put_mid start n d (replicate n false)

  size_front : length (take start d) ≡ start
  size_front = length-take-le start d (omega arith)

  size_filled : length filled_part ≡ length d
  size_filled =
      omega (
        arith,
        size_front,
        length-append (take start d) (replicate n false ++ drop n (drop start d)),
        length-append (replicate n false) (drop n (drop start d)),
        length-replicate n false,
        length-drop n (drop start d),
        length-drop start d,
      )

  at_front : (j : ℕ) → j < start → get_or filled_part j false ≡ get_or d j false
  at_front j g =
      list_get_or_append (take start d) (replicate n false ++ drop n (drop start d)) false j (omega (arith, size_front)) ∙ get_or-take start d j false g

  at_filled : (j : ℕ) → start ≤ j → j < start + n → get_or filled_part j false ≡ false
  at_filled j g l =
      let z : j ≡ length (take start d) + (j - start) = omega (arith, size_front) in
      ap (λ (i : ℕ). get_or filled_part i false) z
      ∙ get_or-append-add (take start d) (replicate n false ++ drop n (drop start d)) (j - start) false
      ∙ list_get_or_append (replicate n false) (drop n (drop start d)) false (j - start) (omega (arith, length-replicate n false))
      ∙ get_or-replicate n (j - start) false false (omega arith)

  at_rest : (j : ℕ) → start + n ≤ j → get_or filled_part j false ≡ get_or d j false
  at_rest j g =
      let z : j ≡ length (take start d) + (length (replicate n false) + (j - (start + n))) = omega (arith, size_front, length-replicate n false) in
      let y : start + n + (j - (start + n)) ≡ j = omega arith in
      ap (λ (i : ℕ). get_or filled_part i false) z
      ∙ get_or-append-add (take start d) (replicate n false ++ drop n (drop start d)) (length (replicate n false) + (j - (start + n))) false
      ∙ get_or-append-add (replicate n false) (drop n (drop start d)) (j - (start + n)) false
      ∙ ap (λ (l : List Bool). get_or l (j - (start + n)) false) (drop-drop n start d)
      ∙ get_or-drop (start + n) d (j - (start + n)) false
      ∙ ap (λ (i : ℕ). get_or d i false) y

-- the bytes from a start up to an end, as far as the map goes, are unmarked
pub filled_unmarks : (d ys : List Bool) (start end stop : ℕ) → stop ≡ min end (length d) → start < stop
    → ys ≡ replicate (length (take (stop - start) (drop start d))) false
    → Unmarks (used_between start end) d (put_mid start (stop - start) d ys)
filled_unmarks d ys start end stop e h w = rw filled (record { size = size_filled d start (stop - start) inside; marks = λ j. at_place j (dec_le start j) (dec_le stop j) })
  where
    inside : start + (stop - start) ≤ length d
    inside = omega (arith, e)

    filled : ys ≡ replicate (stop - start) false
    filled =
        let z : length (take (stop - start) (drop start d)) ≡ stop - start = omega (arith, length-take (stop - start) (drop start d), length-drop start d, e) in
        w ∙ rw z

    at_place : (j : ℕ) → Dec (start ≤ j) → Dec (stop ≤ j)
        → get_or (put_mid start (stop - start) d (replicate (stop - start) false)) j false ≡ (get_or d j false && not (used_between start end j))
    at_place j (no a) b = at_front d start (stop - start) inside j (omega arith) ∙ sym (rw (between_before start end j (omega arith)) (and-true (get_or d j false)))
    at_place j (yes a) (no b) =
        at_filled d start (stop - start) inside j a (omega arith) ∙ sym (rw (between_in start end j a (omega (arith, e))) (and-false (get_or d j false)))
    at_place j (yes a) (yes b) = at_rest d start (stop - start) inside j (omega arith) ∙ sym (rest (dec_le end j))
      where
        rest : Dec (end ≤ j) → (get_or d j false && not (used_between start end j)) ≡ get_or d j false
        rest (yes q) = rw (between_after start end j q) (and-true (get_or d j false))
        rest (no q) = rw (behind d j (omega (arith, e)))

-- where they are none, nothing is unmarked
pub none_unmarks : (d : List Bool) (start end : ℕ) → min end (length d) ≤ start → Unmarks (used_between start end) d d
none_unmarks d start end h = record { size = refl; marks = λ j. sym (at_place j (dec_le start j) (dec_le end j)) }
  where
    at_place : (j : ℕ) → Dec (start ≤ j) → Dec (end ≤ j) → (get_or d j false && not (used_between start end j)) ≡ get_or d j false
    at_place j (no a) b = rw (between_before start end j (omega arith)) (and-true (get_or d j false))
    at_place j (yes a) (yes b) = rw (between_after start end j b) (and-true (get_or d j false))
    at_place j (yes a) (no b) = rw (behind d j (omega arith))

-- the end of a name fits
pub end_fits : (w : ℕ) → (row_of_word w).start + (row_of_word w).len < 65792
unfolding row_of_word
end_fits w = omega arith

-- a pass over the words that unmarks their names
pub record Left (words : List ℕ) (d e : List Bool) (i : ℕ) : Type 0 where
  pub size : length e ≡ length d
  pub marks : (j : ℕ) → (get_or e j false && not (used_by (drop i words) j)) ≡ (get_or d j false && not (used_by words j))

pub left_none : (words : List ℕ) (d : List Bool) → Left words d d 0
left_none words d = record { size = refl; marks = λ j. refl }

both : (x a b : Bool) → ((x && not a) && not b) ≡ (x && not (a || b))
both true true b = refl
both true false b = refl
both false a b = refl

pub left_more : {words : List ℕ} {d e f : List Bool} {i : ℕ} → Left words d e i → i < length words
    → Unmarks (used_between (row_of_word (get_or words i 0)).start ((row_of_word (get_or words i 0)).start + (row_of_word (get_or words i 0)).len)) e f
    → Left words d f (i + 1)
unfolding used_by any_of uses used_between record_of row_of_word
left_more {words} {d} {e} {f} {i} l h u = record { size = u.size ∙ l.size; marks = λ j. rw (u.marks j) (at_place j ∙ l.marks j) }
  where
    w : ℕ
    w = get_or words i 0

    used : ℕ → Bool
    used j = used_between (row_of_word w).start ((row_of_word w).start + (row_of_word w).len) j

    first : (j : ℕ) → used_by (drop i words) j ≡ (used j || used_by (drop (i + 1) words) j)
    first j = rw (add-one i, drop-cons words i 0 h)

    at_place : (j : ℕ) → ((get_or e j false && not (used j)) && not (used_by (drop (i + 1) words) j)) ≡ (get_or e j false && not (used_by (drop i words) j))
    at_place j = rw (first j) (both (get_or e j false) (used j) (used_by (drop (i + 1) words) j))

pub left_all : {words : List ℕ} {d e : List Bool} {i : ℕ} → Left words d e i → length words ≤ i → Unmarks (used_by words) d e
unfolding used_by any_of
left_all {words} {d} {e} {i} l h = record { size = l.size; marks = λ j. sym (and-true (get_or e j false)) ∙ rw (drop_of_length-le words h) at (l.marks j) }

-- the map over an area
pub map_free : (n : ℕ) (words area : List ℕ) (marks : List Bool) → length area ≤ n → Unmarks (used_by words) (replicate n true) marks
    → take (length area) marks ≡ free_from (map record_of words) 0 area
unfolding used_by
map_free n words area marks h u = ext_get_or false (take (length area) marks) (free_from rs 0 area) (sized ∙ sym (free_length rs 0 area)) alike
  where
    rs : List Record
    rs = map record_of words

    sized : length (take (length area) marks) ≡ length area
    sized = length-take-le (length area) marks (omega (arith, u.size, length-replicate n true))

    alike : (j : ℕ) → j < length (take (length area) marks) → get_or (take (length area) marks) j false ≡ get_or (free_from rs 0 area) j false
    alike j l =
        let g : j < length area = omega (arith, sized) in
        let z : 0 + j ≡ j = omega arith in
        get_or-take (length area) marks j false g
        ∙ u.marks j
        ∙ ap (λ (o : Bool). o && not (any_of (uses j) rs)) (get_or-replicate n j true false (omega arith))
        ∙ sym (free_at rs 0 area j g ∙ rw z)
