-- Entries of a packed list, at a place of it. Rests on the laws of a class in Classes.
use Rattle.listing_rules.proofs.Prelude.{◌∙◌, ◌≡◌, ap, refl, sym, false, true, List, [], ◌∷◌, ◌+◌, ◌-◌, ◌<◌, ◌≤◌, min, suc, zero, ℕ, dec_le, arith}
use Rattle.listing_rules.proofs.Prelude.{drop, drop_of_length-le, get_or, length, length-drop, take, drop-cons, drop-drop, get_or-drop, take_all}
use Rattle.listing_rules.proofs.Prelude.{take-nil}
use Rattle.listing_rules.specs.Namespaces.{entry_at, entries_after, entries, entries_fill, of_class}
use Rattle.namespace_list.specs.declared.Entry.{Entry}
use Rattle.namespace_list.specs.Entries.{entry_of, meaning, EntryAt}
use Rattle.namespace_list.proofs.Classes.{class_first, class_behind, class_empty}

-- bytes that still belong to an entry may be dropped at once
entries_skip : (k : ℕ) (l : List ℕ) → entries_after k l ≡ entries_after 0 (drop k l)
unfolding entries_after
entries_skip zero l = refl
entries_skip (suc k) [] = refl
entries_skip (suc k) (x ∷ l) = entries_skip k l

fill_skip : (k : ℕ) (l : List ℕ) → k ≤ length l → entries_fill k l ≡ entries_fill 0 (drop k l)
unfolding entries_fill
fill_skip zero l h = refl
fill_skip (suc k) [] h = absurd (omega arith)
fill_skip (suc k) (x ∷ l) h = fill_skip k l (omega arith)

fill_short : (k : ℕ) (l : List ℕ) → length l < k → entries_fill k l ≡ false
unfolding entries_fill
fill_short zero l h = absurd (omega arith)
fill_short (suc k) [] h = refl
fill_short (suc k) (x ∷ l) h = fill_short k l (omega arith)

-- a first entry of class c, with the bytes t behind that and prefix length n
entries_first : (c : ℕ) (t : List ℕ) (n : ℕ) → get_or t 0 0 ≡ n → entries (c ∷ t) ≡ entry_of c (take n (drop 1 t)) (get_or t (1 + n) 0) ∷ entries (drop (suc (suc n)) t)
unfolding entry_at entries_after entries
entries_first c t n e = rw (e, entries_skip (suc (suc n)) t)

fill_first : (c : ℕ) (t : List ℕ) (n : ℕ) → get_or t 0 0 ≡ n → entries_fill 0 (c ∷ t) ≡ entries_fill (suc (suc n)) t
unfolding entries_fill
fill_first c t n e = ap (λ (k : ℕ). entries_fill (suc (suc k)) t) e

-- what stands behind the first byte of an entry, by its place in the list
behind : (l : List ℕ) (at k n : ℕ) → suc at + k ≡ n → drop k (drop (suc at) l) ≡ drop n l
behind l at k n e = drop-drop k (suc at) l ∙ ap (λ (i : ℕ). drop i l) e

byte_behind : (l : List ℕ) (at k n : ℕ) → suc at + k ≡ n → get_or (drop (suc at) l) k 0 ≡ get_or l n 0
byte_behind l at k n e = get_or-drop (suc at) l k 0 ∙ ap (λ (i : ℕ). get_or l i 0) e

-- n bytes from s on, as far as the list goes
part_cut : (l : List ℕ) (s n a z : ℕ) → a ≡ min s (length l) → z ≡ min (s + n) (length l) → take (z - a) (drop a l) ≡ take n (drop s l)
part_cut l s n a z p q = elim (dec_le (s + n) (length l)) [
  | yes h ↦ let e : a ≡ s = omega arith in let f : z - a ≡ n = omega arith in rw (f, e)
  | no h ↦ elim (dec_le s (length l)) [
    | yes g ↦
        let e : a ≡ s = omega arith in
        rw e (take_all (z - s) (drop s l) (omega (arith, length-drop s l)) ∙ sym (take_all n (drop s l) (omega (arith, length-drop s l))))
    | no g ↦ rw (drop_of_length-le l {i = a} (omega arith), drop_of_length-le l {i = s} (omega arith)) (take-nil (z - a) ∙ sym (take-nil n))
  ]
]

module _ (l : List ℕ) (at : ℕ) (h : at < length l) where
  abbrev size : ℕ
  size = get_or l (at + 1) 0

  entries_there : entries (drop at l) ≡ entry_of (get_or l at 0) (take size (drop (at + 2) l)) (get_or l (at + 2 + size) 0) ∷ entries (drop (at + 3 + size) l)
  entries_there =
      ap entries (drop-cons l at 0 h)
      ∙ entries_first (get_or l at 0) (drop (suc at) l) size (byte_behind l at 0 (at + 1) (omega arith))
      ∙ rw (behind l at 1 (at + 2) (omega arith), byte_behind l at (1 + size) (at + 2 + size) (omega arith), behind l at (suc (suc size)) (at + 3 + size) (omega arith))

  fill_there : entries_fill 0 (drop at l) ≡ entries_fill (suc (suc size)) (drop (suc at) l)
  fill_there =
      ap (λ (x : List ℕ). entries_fill 0 x) (drop-cons l at 0 h)
      ∙ fill_first (get_or l at 0) (drop (suc at) l) size (byte_behind l at 0 (at + 1) (omega arith))

  -- what the code reads at a place is the entry there
  pub entry_here : (e : Entry) → e.class ≡ get_or l at 0 → e.start ≡ min (at + 2) (length l) → e.end ≡ min (at + 2 + get_or l (at + 1) 0) (length l)
      → e.delimiter ≡ get_or l (at + 2 + get_or l (at + 1) 0) 0 → e.next ≡ at + 3 + get_or l (at + 1) 0 → EntryAt l at e
  entry_here e c s z d n =
      record {
        ordered = omega arith;
        inside = omega arith;
        onward = n;
        first = entries_there ∙ rw (c, part_cut l (at + 2) size e.start e.end s z, d, n);
      }

-- behind the end there is no entry
pub entries_end : (l : List ℕ) (at : ℕ) → length l ≤ at → entries (drop at l) ≡ []
unfolding entries_after entries
entries_end l at h = rw (drop_of_length-le l h)

pub fill_end : (l : List ℕ) (at : ℕ) → length l ≤ at → entries_fill 0 (drop at l) ≡ true
unfolding entries_fill
fill_end l at h = rw (drop_of_length-le l h)

pub class_end : (l : List ℕ) (at c : ℕ) → length l ≤ at → of_class c (entries (drop at l)) ≡ []
class_end l at c h = rw (entries_end l at h) (class_empty c)

-- an entry that lies in the list leaves the rest to be filled, and one that runs past the end fills nothing exactly
module _ {l : List ℕ} {at : ℕ} {e : Entry} (h : at < length l) (f : EntryAt l at e) where
  pub fill_next : e.next ≤ length l → entries_fill 0 (drop at l) ≡ entries_fill 0 (drop e.next l)
  fill_next g =
      fill_there l at h
      ∙ fill_skip (suc (suc (get_or l (at + 1) 0))) (drop (suc at) l) (omega (arith, f.onward, length-drop (suc at) l))
      ∙ ap (λ (x : List ℕ). entries_fill 0 x) (behind l at (suc (suc (get_or l (at + 1) 0))) e.next (omega (arith, f.onward)))

  pub fill_past : length l < e.next → entries_fill 0 (drop at l) ≡ false
  fill_past g =
      fill_there l at h
      ∙ fill_short (suc (suc (get_or l (at + 1) 0))) (drop (suc at) l) (omega (arith, f.onward, length-drop (suc at) l))

-- the entries of a class from a place on, by the class of the one there
module _ {l : List ℕ} {at : ℕ} {e : Entry} (f : EntryAt l at e) (c : ℕ) where
  pub class_here : e.class ≡ c → of_class c (entries (drop at l)) ≡ meaning l e ∷ of_class c (entries (drop e.next l))
  class_here g = rw f.first (class_first c (meaning l e) (entries (drop e.next l)) g)

  pub class_other : (e.class ≡ c → ⊥) → of_class c (entries (drop at l)) ≡ of_class c (entries (drop e.next l))
  class_other g = rw f.first (class_behind c (meaning l e) (entries (drop e.next l)) g)
