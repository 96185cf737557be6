-- Check 2 from a place of the list on: one law for each way through the loop of `check`. Rests on Entries and Classes.
use Rattle.listing_rules.proofs.Prelude.{◌∙◌, ◌≡◌, Bool, ◌&&◌, ◌||◌, and_assoc, and-false, false, true, List, ◌∷◌, ◌+◌, ◌<◌, ◌≤◌, ℕ, zero-add, arith}
use Rattle.listing_rules.proofs.Prelude.{eqb, leb, drop, length, leb-true}
use Rattle.listing_rules.specs.Bytes.{all, within}
use Rattle.listing_rules.specs.Lists.{every}
use Rattle.listing_rules.specs.Namespaces as rules
use Rattle.listing_rules.specs.Namespaces.{entries, entries_fill, lawful_entry, namespaces_pass}
use Rattle.listing_rules.proofs.Bools.{and_l}
use Rattle.namespace_list.specs.declared.Entry.{Entry}
use Rattle.namespace_list.specs.Entries.{meaning, EntryAt}
use Rattle.namespace_list.proofs.Classes.{held, few, orderly, orderly_same, orderly_rise, orderly_fall, orderly_full, orderly_end}
use Rattle.namespace_list.proofs.Entries.{entries_end, fill_end, fill_next, fill_past}

-- the rest l of a list passes, behind k entries of the class c
unfoldable pub rest_passes : ℕ → ℕ → List ℕ → Bool
rest_passes c k l = entries_fill 0 l && every lawful_entry (entries l) && orderly c k (entries l)

pub rest_whole : (l : List ℕ) → rest_passes 0 0 l ≡ namespaces_pass l
unfolding namespaces_pass held few orderly rest_passes
rest_whole l = simp (zero-add, and_assoc)

pub rest_end : (c k : ℕ) (l : List ℕ) (at : ℕ) → length l ≤ at → k ≤ 4 → rest_passes c k (drop at l) ≡ true
unfolding every rest_passes
rest_end c k l at h g = rw (fill_end l at h, entries_end l at h, orderly_end c k g)

-- a lawful entry is of one of the three classes
lawful_class : (e : rules.Entry) → lawful_entry e ≡ true → e.class ≤ 2
unfolding lawful_entry
lawful_class e h =
    let short = leb (length e.prefix) 64 in
    let printed = all (within 0x20 0x7E) e.prefix in
    let sign = eqb e.delimiter 0 || within 0x21 0x7E e.delimiter in
    leb-true e.class 2 (and_l (leb e.class 2) short (and_l (leb e.class 2 && short) printed (and_l (leb e.class 2 && short && printed) sign h)))

module _ (c k : ℕ) {l : List ℕ} {at : ℕ} {e : Entry} (h : at < length l) (f : EntryAt l at e) where
  -- the entry runs past the end of the list
  pub rest_past : length l < e.next → rest_passes c k (drop at l) ≡ false
  unfolding rest_passes
  rest_past g = rw (fill_past h f g)

  pub rest_unlawful : lawful_entry (meaning l e) ≡ false → rest_passes c k (drop at l) ≡ false
  unfolding every rest_passes
  rest_unlawful g = rw (f.first, g, and-false (entries_fill 0 (drop at l)))

  -- a lawful entry that lies in the list leaves the entries behind it to be judged
  module _ (g : e.next ≤ length l) (u : lawful_entry (meaning l e) ≡ true) where
    abbrev es : List rules.Entry
    es = entries (drop e.next l)

    onward : (o : Bool) → orderly c k (meaning l e ∷ es) ≡ o → rest_passes c k (drop at l) ≡ entries_fill 0 (drop e.next l) && every lawful_entry es && o
    unfolding every rest_passes
    onward o p = rw (f.first, u, fill_next h f g, p)

    refused : orderly c k (meaning l e ∷ es) ≡ false → rest_passes c k (drop at l) ≡ false
    refused p = onward false p ∙ and-false (entries_fill 0 (drop e.next l) && every lawful_entry es)

    -- its class is lower than that before
    pub rest_fall : e.class < c → rest_passes c k (drop at l) ≡ false
    rest_fall p = refused (orderly_fall c k (meaning l e) es p)

    -- there are four of its class before
    pub rest_full : e.class ≡ c → 4 ≤ k → rest_passes c k (drop at l) ≡ false
    rest_full p q = refused (orderly_same c k (meaning l e) es p ∙ orderly_full c (k + 1) es (omega (arith, lawful_class (meaning l e) u)) (omega arith))

    -- one more of the class before
    pub rest_same : e.class ≡ c → rest_passes c k (drop at l) ≡ rest_passes c (k + 1) (drop e.next l)
    unfolding rest_passes
    rest_same p = onward (orderly c (k + 1) es) (orderly_same c k (meaning l e) es p)

    -- the first of a higher class
    pub rest_rise : c < e.class → k ≤ 4 → rest_passes c k (drop at l) ≡ rest_passes e.class 1 (drop e.next l)
    unfolding rest_passes
    rest_rise p q = onward (orderly e.class 1 es) (orderly_rise c k (meaning l e) es p q)
