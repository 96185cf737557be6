-- The shape of a name, as the loops over its bytes see it: slashes and levels, and the parts of a lawful name one by one. Rests on
-- nothing.
use Rattle.listing_rules.proofs.Prelude.{◌≡◌, ap, refl, Bool, ◌&&◌, and_assoc, and-false, cond, false, not, true, List, [], ◌∷◌, ◌+◌, ◌-◌, ◌<◌, ◌≤◌}
use Rattle.listing_rules.proofs.Prelude.{suc, zero, ℕ, add-one, arith, eqb, lit≤, drop, drop_of_length-le, get_or, length, length-drop, drop-cons}
use Rattle.listing_rules.proofs.Prelude.{eq-eqb, le-leb, lt-leb, ne_eqb}
use mir.Val.{bool_byte}
use Rattle.listing_rules.specs.Bytes.{slash, within, all}
use Rattle.listing_rules.specs.Lists.{every, on_first}
use Rattle.listing_rules.specs.Names.{levels, is_full, inbox_spelled, lawful_name, name_byte}
use Rattle.names.specs.Slashes.{slash_count, no_pair}

pub digit_small : (b : Bool) → bool_byte b ≤ 1
digit_small true = lit≤ tt
digit_small false = lit≤ tt

-- slashes: one byte more
module _ (s : List ℕ) (i : ℕ) where
  pub slash_more : i < length s → slash_count (drop i s) ≡ bool_byte (eqb (get_or s i 0) 47) + slash_count (drop (i + 1) s)
  unfolding slash_count slash
  slash_more h = rw (add-one, drop-cons s i 0 h) (go (eqb (get_or s i 0) 47))
    where
      go : (o : Bool) → cond o (suc (slash_count (drop (suc i) s))) (slash_count (drop (suc i) s)) ≡ bool_byte o + slash_count (drop (suc i) s)
      go true = omega arith
      go false = omega arith

  pub slash_end : length s ≤ i → slash_count (drop i s) ≡ 0
  unfolding slash_count
  slash_end h = rw (drop_of_length-le s h)

-- pairs of neighbours, up to the place i
pair_step : (s : List ℕ) (j : ℕ) → suc j < length s → no_pair (drop j s) ≡ (not (eqb (get_or s j 0) 47 && eqb (get_or s (suc j) 0) 47) && no_pair (drop (suc j) s))
unfolding no_pair slash
pair_step s j h = rw (drop-cons s j 0 (omega arith), drop-cons s (suc j) 0 h)

short_pair : (s : List ℕ) → length s ≤ 1 → no_pair s ≡ true
unfolding no_pair
short_pair [] h = refl
short_pair (b ∷ []) h = refl
short_pair (b ∷ c ∷ s) h = absurd (omega arith)

pub pair_more : (s : List ℕ) (ok : Bool) (i : ℕ) → 1 ≤ i → i < length s
    → ((ok && not (eqb (get_or s (i - 1) 0) 47 && eqb (get_or s i 0) 47)) && no_pair (drop (i + 1 - 1) s)) ≡ (ok && no_pair (drop (i - 1) s))
pair_more s ok zero h g = absurd (omega arith)
pair_more s ok (suc j) h g =
    let e : suc j - 1 ≡ j = omega arith in
    let d : suc j + 1 - 1 ≡ suc j = omega arith in
    rw (e, d, pair_step s j g) (and_assoc ok (not (eqb (get_or s j 0) 47 && eqb (get_or s (suc j) 0) 47)) (no_pair (drop (suc j) s)))

pub pair_end : (s : List ℕ) (i : ℕ) → 1 ≤ i → length s ≤ i → no_pair (drop (i - 1) s) ≡ true
pair_end s i h g = short_pair (drop (i - 1) s) (omega (arith, length-drop (i - 1) s))

-- there is one level more than there are slashes
on_first_length : (b : ℕ) (ls : List (List ℕ)) (n : ℕ) → length ls ≡ suc n → length (on_first b ls) ≡ suc n
unfolding on_first
on_first_length b [] n e = absurd (omega arith)
on_first_length b (l ∷ ls) n e = e

levels_count : (s : List ℕ) → length (levels s) ≡ suc (slash_count s)
unfolding levels slash_count slash
levels_count [] = refl
levels_count (b ∷ t) = go (eqb b 47) (levels_count t)
  where
    go : (o : Bool) → length (levels t) ≡ suc (slash_count t) → length (cond o ([] ∷ levels t) (on_first b (levels t))) ≡ suc (cond o (suc (slash_count t)) (slash_count t))
    go true ih = ap suc ih
    go false ih = on_first_length b (levels t) (slash_count t) ih

-- the levels behind the first
abbrev behind : List (List ℕ) → List (List ℕ)
behind [] = []
behind (l ∷ ls) = ls

full_first : (b : ℕ) (ls : List (List ℕ)) → every is_full (on_first b ls) ≡ every is_full (behind ls)
unfolding every is_full on_first
full_first b [] = refl
full_first b (l ∷ ls) = refl

behind_first : (b : ℕ) (ls : List (List ℕ)) → behind (on_first b ls) ≡ behind ls
unfolding on_first
behind_first b [] = refl
behind_first b (l ∷ ls) = refl

-- a slash makes an empty level, a byte goes to the first
at_slash : (b : ℕ) (t : List ℕ) → eqb b 47 ≡ true → levels (b ∷ t) ≡ [] ∷ levels t
unfolding levels slash
at_slash b t e = rw e

at_byte : (b : ℕ) (t : List ℕ) → eqb b 47 ≡ false → levels (b ∷ t) ≡ on_first b (levels t)
unfolding levels slash
at_byte b t e = rw e

pair_cons : (b c : ℕ) (t : List ℕ) → no_pair (b ∷ c ∷ t) ≡ (not (eqb b 47 && eqb c 47) && no_pair (c ∷ t))
unfolding no_pair slash
pair_cons b c t = refl

pair_one : (b : ℕ) → no_pair (b ∷ []) ≡ true
unfolding no_pair
pair_one b = refl

full_none : (ls : List (List ℕ)) → every is_full ([] ∷ ls) ≡ false
unfolding every is_full
full_none ls = refl

full_end : every is_full (behind (levels [])) ≡ true
unfolding levels every
full_end = refl

full_last : (c : ℕ) → every is_full (behind (levels (c ∷ []))) ≡ not (eqb c 47)
unfolding levels slash every is_full on_first
full_last c = go (eqb c 47)
  where
    go : (o : Bool) → every is_full (behind (cond o ([] ∷ [] ∷ []) ((c ∷ []) ∷ []))) ≡ not o
    go true = refl
    go false = refl

-- behind a byte that is no slash: the levels that follow are full exactly if no slash stands behind another nor at the end
full_behind : (b : ℕ) (t : List ℕ) → eqb b 47 ≡ false → every is_full (behind (levels t)) ≡ (no_pair (b ∷ t) && not (eqb (get_or (b ∷ t) (length t) 0) 47))
full_behind b [] h = rw (pair_one b, h) full_end
full_behind b (c ∷ []) h = rw (pair_cons b c [], pair_one c, h) (full_last c)
full_behind b (c ∷ d ∷ t) h = go (eqb c 47) (eqb d 47) refl refl (full_behind c (d ∷ t)) (full_behind d t)
  where
    last : Bool
    last = not (eqb (get_or (d ∷ t) (length t) 0) 47)

    go : (o u : Bool) → eqb c 47 ≡ o → eqb d 47 ≡ u
        → (eqb c 47 ≡ false → every is_full (behind (levels (d ∷ t))) ≡ (no_pair (c ∷ d ∷ t) && last))
        → (eqb d 47 ≡ false → every is_full (behind (levels t)) ≡ (no_pair (d ∷ t) && last))
        → every is_full (behind (levels (c ∷ d ∷ t))) ≡ (no_pair (b ∷ c ∷ d ∷ t) && last)
    go false u e k ih jh = rw (pair_cons b c (d ∷ t), h, at_byte c (d ∷ t) e, behind_first c (levels (d ∷ t))) (ih e)
    go true true e k ih jh = rw (pair_cons b c (d ∷ t), pair_cons c d t, h, at_slash c (d ∷ t) e, at_slash d t k, full_none (levels t), e, k)
    go true false e k ih jh = rw (pair_cons b c (d ∷ t), pair_cons c d t, h, at_slash c (d ∷ t) e, at_byte d t k, full_first d (levels t), e, k) (jh k)

-- no level is empty exactly if no slash stands first, last or behind another
levels_full : (s : List ℕ) → 1 ≤ length s → every is_full (levels s) ≡ (not (eqb (get_or s 0 0) 47) && (no_pair s && not (eqb (get_or s (length s - 1) 0) 47)))
levels_full [] h = absurd (omega arith)
levels_full (b ∷ t) h = rw place (go (eqb b 47) refl)
  where
    place : suc (length t) - 1 ≡ length t
    place = omega arith

    go : (o : Bool) → eqb b 47 ≡ o → every is_full (levels (b ∷ t)) ≡ (not o && (no_pair (b ∷ t) && not (eqb (get_or (b ∷ t) (length t) 0) 47)))
    go true e = rw (at_slash b t e) (full_none (levels t))
    go false e = rw (at_byte b t e, full_first b (levels t)) (full_behind b t e)

-- the parts of a lawful name, one by one as they are tested
module _ (s : List ℕ) where
  pub not_none : length s ≡ 0 → lawful_name s ≡ false
  unfolding lawful_name within
  not_none e = rw (lt-leb 1 (length s) (omega arith))

  pub not_long : 200 < length s → lawful_name s ≡ false
  unfolding lawful_name within
  not_long h = simp (lt-leb (length s) 200 h, and-false)

  pub not_bytes : all name_byte s ≡ false → lawful_name s ≡ false
  unfolding lawful_name
  not_bytes e = simp (e, and-false)

  pub not_few : 16 ≤ slash_count s → lawful_name s ≡ false
  unfolding lawful_name
  not_few h = simp (lt-leb (length (levels s)) 16 (omega (arith, levels_count s)), and-false)

  not_full : every is_full (levels s) ≡ false → lawful_name s ≡ false
  unfolding lawful_name
  not_full e = simp (e, and-false)

  module _ (h : 1 ≤ length s) where
    pub not_first : get_or s 0 0 ≡ 47 → lawful_name s ≡ false
    not_first e = not_full (rw (levels_full s h, eq-eqb (get_or s 0 0) 47 e))

    pub not_last : get_or s (length s - 1) 0 ≡ 47 → lawful_name s ≡ false
    not_last e = not_full (simp (levels_full s h, eq-eqb (get_or s (length s - 1) 0) 47 e, and-false))

    pub not_pair : no_pair s ≡ false → lawful_name s ≡ false
    not_pair e = not_full (simp (levels_full s h, e, and-false))

    -- all but the rule for INBOX hold
    pub all_but_inbox : length s ≤ 200 → all name_byte s ≡ true → slash_count s < 16 → (get_or s 0 0 ≡ 47 → ⊥) → (get_or s (length s - 1) 0 ≡ 47 → ⊥) → no_pair s ≡ true
        → lawful_name s ≡ inbox_spelled (levels s)
    unfolding lawful_name within
    all_but_inbox l b f p q e =
        simp (
          le-leb 1 (length s) h,
          le-leb (length s) 200 l,
          b,
          le-leb (length (levels s)) 16 (omega (arith, levels_count s)),
          levels_full s h,
          ne_eqb (get_or s 0 0) 47 p,
          ne_eqb (get_or s (length s - 1) 0) 47 q,
          e,
        )
