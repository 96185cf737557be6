-- Patterns of a packed list, at a place of it: the first one there, those that follow, tests on each of them. Rests on Bytes.
use Rattle.listing_rules.proofs.Prelude.{◌∙◌, ◌≡◌, ap, refl, sym, Bool, ◌&&◌, ◌||◌, cond, false, true, List, [], ◌++◌, ◌∷◌, ◌+◌, ◌-◌, ◌<◌, ◌^◌, ◌≤◌}
use Rattle.listing_rules.proofs.Prelude.{min, suc, zero, ℕ, dec_le, arith, leb, eqb, drop, drop_of_length-le, get_or, length, length-append, length-drop}
use Rattle.listing_rules.proofs.Prelude.{take, drop-cons, drop-drop, take_all, le-leb, lt-leb}
use Rattle.listing_rules.specs.Bytes.{is_empty}
use Rattle.listing_rules.specs.Lists.{every}
use Rattle.listing_rules.specs.Command.{canonical}
use Rattle.listing_rules.specs.Joining.{patterns_after, packed_patterns, patterns_fill}
use Rattle.command_writer.specs.declared.patterns.Pattern.{Pattern}
use Rattle.command_writer.specs.Patterns.{pattern_bytes, PatternAt, short, short_after}
use Rattle.command_writer.proofs.Bytes.{empty_is}

-- bytes that still belong to a pattern may be dropped at once
patterns_skip : (k : ℕ) (l : List ℕ) → patterns_after k l ≡ patterns_after 0 (drop k l)
unfolding patterns_after
patterns_skip zero l = refl
patterns_skip (suc k) [] = refl
patterns_skip (suc k) (x ∷ l) = patterns_skip k l

fill_skip : (k : ℕ) (l : List ℕ) → k ≤ length l → patterns_fill k l ≡ patterns_fill 0 (drop k l)
unfolding patterns_fill
fill_skip zero l h = refl
fill_skip (suc k) [] h = absurd (omega arith)
fill_skip (suc k) (x ∷ l) h = fill_skip k l (omega arith)

fill_short : (k : ℕ) (l : List ℕ) → length l < k → patterns_fill k l ≡ false
unfolding patterns_fill
fill_short zero l h = absurd (omega arith)
fill_short (suc k) [] h = refl
fill_short (suc k) (x ∷ l) h = fill_short k l (omega arith)

-- a first pattern of n bytes, with the bytes t after that number
patterns_first : (n : ℕ) (t : List ℕ) → packed_patterns (n ∷ t) ≡ take n t ∷ packed_patterns (drop n t)
unfolding patterns_after packed_patterns
patterns_first n t = rw (patterns_skip n t)

fill_first : (n : ℕ) (t : List ℕ) → patterns_fill 0 (n ∷ t) ≡ patterns_fill n t
unfolding patterns_fill
fill_first n t = refl

module _ (l : List ℕ) (at : ℕ) (h : at < length l) where
  abbrev size : ℕ
  size = get_or l at 0

  after : drop size (drop (suc at) l) ≡ drop (at + 1 + size) l
  after =
      let w : suc at + size ≡ at + 1 + size = omega arith in drop-drop size (suc at) l ∙ ap (λ (i : ℕ). drop i l) w

  patterns_there : packed_patterns (drop at l) ≡ take size (drop (suc at) l) ∷ packed_patterns (drop (at + 1 + size) l)
  patterns_there = ap packed_patterns (drop-cons l at 0 h) ∙ patterns_first size (drop (suc at) l) ∙ rw after

  fill_there : patterns_fill 0 (drop at l) ≡ patterns_fill size (drop (suc at) l)
  fill_there = ap (λ (x : List ℕ). patterns_fill 0 x) (drop-cons l at 0 h) ∙ fill_first size (drop (suc at) l)

  -- as many bytes as the list has there
  part_cut : (z : ℕ) → z ≡ min (at + 1 + size) (length l) → take (z - (at + 1)) (drop (at + 1) l) ≡ take size (drop (suc at) l)
  part_cut z e =
      let w : at + 1 ≡ suc at = omega arith in
      rw w (elim (dec_le (suc at + size) (length l)) [
        | yes g ↦ let f : z - suc at ≡ size = omega arith in rw f
        | no g ↦
            take_all (z - suc at) (drop (suc at) l) (omega (arith, length-drop (suc at) l))
            ∙ sym (take_all size (drop (suc at) l) (omega (arith, length-drop (suc at) l)))
      ])

  -- what the code reads at a place is the pattern there
  pub pattern_here : (z n : ℕ) → z ≡ min n (length l) → n ≡ at + 1 + get_or l at 0 → PatternAt l at (record { start = at + 1; end = z; next = n })
  pattern_here z n e f =
      record {
        ordered = omega arith;
        inside = omega arith;
        onward = f;
        first = patterns_there ∙ rw (part_cut z (omega arith), f);
      }

-- after the end there is no pattern
pub patterns_end : (l : List ℕ) (at : ℕ) → length l ≤ at → packed_patterns (drop at l) ≡ []
unfolding patterns_after packed_patterns
patterns_end l at h = rw (drop_of_length-le l h)

pub fill_end : (l : List ℕ) (at : ℕ) → length l ≤ at → patterns_fill 0 (drop at l) ≡ true
unfolding patterns_fill
fill_end l at h = rw (drop_of_length-le l h)

-- a pattern that lies in the list leaves the rest to be filled, and one that runs past the end fills nothing exactly
module _ {l : List ℕ} {at : ℕ} {p : Pattern} (h : at < length l) (f : PatternAt l at p) where
  pub fill_next : p.next ≤ length l → patterns_fill 0 (drop at l) ≡ patterns_fill 0 (drop p.next l)
  fill_next g =
      fill_there l at h
      ∙ fill_skip (get_or l at 0) (drop (suc at) l) (omega (arith, f.onward, length-drop (suc at) l))
      ∙ ap (λ (x : List ℕ). patterns_fill 0 x) (after l at h ∙ ap (λ (i : ℕ). drop i l) (sym f.onward))

  pub fill_past : length l < p.next → patterns_fill 0 (drop at l) ≡ false
  fill_past g = fill_there l at h ∙ fill_short (get_or l at 0) (drop (suc at) l) (omega (arith, f.onward, length-drop (suc at) l))

-- a test on every pattern, in a loop that leaves at the first that does not pass
module _ (t : List ℕ → Bool) {l : List ℕ} {at : ℕ} {p : Pattern} (f : PatternAt l at p) where
  pub every_next : t (pattern_bytes l p) ≡ true → every t (packed_patterns (drop at l)) ≡ every t (packed_patterns (drop p.next l))
  unfolding every
  every_next e = rw (f.first, e)

  pub every_stop : t (pattern_bytes l p) ≡ false → every t (packed_patterns (drop at l)) ≡ false
  unfolding every
  every_stop e = rw (f.first, e)

pub every_end : (t : List ℕ → Bool) (l : List ℕ) (at : ℕ) → length l ≤ at → every t (packed_patterns (drop at l)) ≡ true
unfolding every
every_end t l at h = rw (patterns_end l at h)

-- each canonical pattern is short exactly if each pattern is empty or short after the reference
pub canonical_short : (r : List ℕ) (ps : List (List ℕ)) → every short (canonical r ps) ≡ every (short_after r) ps
unfolding every canonical short_after
canonical_short r [] = refl
canonical_short r (p ∷ ps) = go (is_empty p) (canonical_short r ps)
  where
    go : (o : Bool) → every short (canonical r ps) ≡ every (short_after r) ps
        → every short (cond o (canonical r ps) ((r ++ p) ∷ canonical r ps)) ≡ ((o || short (r ++ p)) && every (short_after r) ps)
    go true e = e
    go false e = rw e

-- the code's test of one
pub short_test : (r p : List ℕ) (n : ℕ) → n ≡ min (length r + length p) (2 ^ 64 - 1) → (eqb (length p) 0 || leb n 255) ≡ short_after r p
unfolding short_after
short_test r p n e = rw (empty_is p, same_test)
  where
    same_test : leb n 255 ≡ short (r ++ p)
    same_test = elim (dec_le n 255) [
      | yes h ↦ le-leb n 255 h ∙ sym (le-leb (length (r ++ p)) 255 (omega (arith, length-append r p)))
      | no h ↦ lt-leb n 255 (omega arith) ∙ sym (lt-leb (length (r ++ p)) 255 (omega (arith, length-append r p)))
    ]
