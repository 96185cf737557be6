-- INBOX in any case of letters as the first level of a name: what the first five bytes and the next tell, the one lawful spelling, and a
-- name spelled so. Rests on octets' laws of comparing and writing.
use Rattle.listing_rules.proofs.Prelude.{◌∙◌, ◌≡◌, ap, refl, sym, Bool, ◌&&◌, ◌||◌, and_assoc, and-true, cond, false, not, true, List, [], ◌++◌, ◌∷◌}
use Rattle.listing_rules.proofs.Prelude.{map, ◌<◌, ◌≤◌, suc, ℕ, arith, eqb, drop, drop_of_length-le, get_or, length, length-take, take, drop-cons, sets}
use Rattle.listing_rules.proofs.Prelude.{eqb-false, eqb-true, ne_eqb}
use Rattle.listing_rules.specs.Bytes.{slash, same, raise, raised, spells}
use Rattle.listing_rules.specs.Lists.{on_first}
use Rattle.listing_rules.specs.Names.{levels, inbox, inbox_spelled}
use Rattle.listing_rules.specs.Subscriptions.{spelled, spelled_as}
use Rattle.listing_rules.proofs.Keys.{open_bytes}
use Rattle.listing_rules.proofs.Bools.{and_l, and_r}
use Rattle.listing_rules.proofs.ListLaws.{same_true}
use Rattle.octets.proofs.Same.{raised_length, spells_lengths}
use Rattle.octets.proofs.Puts.{front}
use Rattle.names.specs.Slashes.{slash_count}
use Rattle.names.specs.Inbox.{ends_here, inbox_first}

-- the first level
unfoldable first_level : List ℕ → List ℕ
first_level [] = []
first_level (b ∷ t) = let r = first_level t in cond (eqb b 47) [] (b ∷ r)

levels_first : (s : List ℕ) → (ls : List (List ℕ)) × (levels s ≡ first_level s ∷ ls)
unfolding levels slash first_level on_first
levels_first [] = ([], refl)
levels_first (b ∷ t) = go (eqb b 47) (levels_first t)
  where
    go : (o : Bool) → (ls : List (List ℕ)) × (levels t ≡ first_level t ∷ ls) → (ls : List (List ℕ)) × (cond o ([] ∷ levels t) (on_first b (levels t)) ≡ cond o [] (b ∷ first_level t) ∷ ls)
    go true w = (levels t, refl)
    go false w = (w.0, rw w.1)

raised_map : (s : List ℕ) → raised s ≡ map raise s
unfolding raised
raised_map [] = refl
raised_map (b ∷ t) = ap (λ (l : List ℕ). raise b ∷ l) (raised_map t)

map_id : (s : List ℕ) → map (λ b. b) s ≡ s
map_id [] = refl
map_id (b ∷ t) = ap (λ (l : List ℕ). b ∷ l) (map_id t)

-- a word without a slash is the first level exactly if the name begins with it and the level ends there
first_is_lem : (f : ℕ → ℕ) → f 47 ≡ 47 → (word s : List ℕ) → slash_count word ≡ 0 → same (map f (first_level s)) word ≡ (same (map f (take (length word) s)) word && ends_here (drop (length word) s))
unfolding same first_level ends_here slash_count slash
first_is_lem f h [] [] g = refl
first_is_lem f h [] (b ∷ t) g = go (eqb b 47)
  where
    go : (o : Bool) → same (map f (cond o [] (b ∷ first_level t))) [] ≡ o
    go true = refl
    go false = refl
first_is_lem f h (w ∷ ws) [] g = refl
first_is_lem f h (w ∷ ws) (b ∷ t) g = go (eqb w 47) (eqb b 47) refl refl g (first_is_lem f h ws t)
  where
    go : (u o : Bool) → eqb w 47 ≡ u → eqb b 47 ≡ o → cond u (suc (slash_count ws)) (slash_count ws) ≡ 0
        → (slash_count ws ≡ 0 → same (map f (first_level t)) ws ≡ (same (map f (take (length ws) t)) ws && ends_here (drop (length ws) t)))
        → same (map f (cond o [] (b ∷ first_level t))) (w ∷ ws) ≡ (same (map f (b ∷ take (length ws) t)) (w ∷ ws) && ends_here (drop (length ws) t))
    go true o d e z ih = absurd (omega arith)
    go false false d e z ih = rw (ih z) (sym (and_assoc (eqb (f b) w) (same (map f (take (length ws) t)) ws) (ends_here (drop (length ws) t))))
    go false true d e z ih = rw (differ e d)
      where
        differ : eqb b 47 ≡ true → eqb w 47 ≡ false → eqb (f b) w ≡ false
        differ p q = ne_eqb (f b) w (λ k. eqb-false w 47 q (sym k ∙ ap f (eqb-true b 47 p) ∙ h))

slash_raised : raise 47 ≡ 47
unfolding open_bytes
slash_raised = refl

inbox_slashes : slash_count inbox ≡ 0
unfolding open_bytes slash_count inbox
inbox_slashes = refl

inbox_length : length inbox ≡ 5
unfolding open_bytes inbox
inbox_length = refl

-- so the first level is INBOX in any case of letters, or in its own spelling
first_spells : (s : List ℕ) → spells (first_level s) inbox ≡ inbox_first s
unfolding spells inbox_first
first_spells s =
    rw (raised_map (first_level s), raised_map (take 5 s), first_is_lem raise slash_raised inbox s inbox_slashes, inbox_length)

first_same : (s : List ℕ) → same (first_level s) inbox ≡ (same (take 5 s) inbox && ends_here (drop 5 s))
first_same s =
    ap (λ (l : List ℕ). same l inbox) (sym (map_id (first_level s))) ∙ first_is_lem (λ b. b) refl inbox s inbox_slashes ∙ rw (inbox_length, map_id (take 5 s))

spells_length : (s w : List ℕ) → spells s w ≡ true → length s ≡ length w
unfolding spells
spells_length s w e = sym (raised_length s) ∙ ap length (same_true (raised s) w e)

-- ---- the first five bytes and what stands behind them, as they are tested

pub ends_at : (s : List ℕ) (i : ℕ) → i < length s → ends_here (drop i s) ≡ eqb (get_or s i 0) 47
unfolding ends_here slash
ends_at s i h = rw (drop-cons s i 0 h)

pub ends_behind : (s : List ℕ) (i : ℕ) → length s ≤ i → ends_here (drop i s) ≡ true
unfolding ends_here
ends_behind s i h = rw (drop_of_length-le s h)

module _ (s : List ℕ) where
  pub first_other : spells (take 5 s) inbox ≡ false → inbox_first s ≡ false
  unfolding inbox_first
  first_other e = rw e

  -- fewer bytes spell no INBOX
  pub first_short_lem : length s < 5 → inbox_first s ≡ false
  first_short_lem h = first_other (spells_lengths (take 5 s) inbox (λ e. omega (arith, inbox_length, length-take 5 s)))

  pub first_begins : spells (take 5 s) inbox ≡ true → inbox_first s ≡ ends_here (drop 5 s)
  unfolding inbox_first
  first_begins e = rw e

  module _ (first : inbox_first s ≡ true) where
    level_length : length (first_level s) ≡ 5
    level_length = spells_length (first_level s) inbox (first_spells s ∙ first) ∙ inbox_length

    -- a name of this kind has five bytes
    pub first_long : 5 ≤ length s
    unfolding inbox_first
    first_long = omega (arith, length-take 5 s, spells_length (take 5 s) inbox (and_l (spells (take 5 s) inbox) (ends_here (drop 5 s)) first), inbox_length)

    -- and the level ends after them
    level_ends : ends_here (drop 5 s) ≡ true
    unfolding inbox_first
    level_ends = and_r (spells (take 5 s) inbox) (ends_here (drop 5 s)) first

-- ---- INBOX's one lawful spelling

inbox_first_lem : (l : List ℕ) (ls : List (List ℕ)) → inbox_spelled (l ∷ ls) ≡ (not (spells l inbox) || same l inbox)
unfolding inbox_spelled
inbox_first_lem l ls = refl

inbox_five : (s : List ℕ) → inbox_spelled (levels s) ≡ (not (inbox_first s) || (same (take 5 s) inbox && ends_here (drop 5 s)))
inbox_five s =
    let w = levels_first s in
    rw (w.1, inbox_first_lem (first_level s) w.0, first_spells s, first_same s)

module _ (s : List ℕ) where
  -- another first level
  pub inbox_other : inbox_first s ≡ false → inbox_spelled (levels s) ≡ true
  inbox_other e = rw (inbox_five s, e)

  pub inbox_same : inbox_first s ≡ true → inbox_spelled (levels s) ≡ same (take 5 s) inbox
  inbox_same e = rw (inbox_five s, e, level_ends s e) (and-true (same (take 5 s) inbox))

-- ---- a name spelled

spelled_as_lem : (l : List ℕ) (ls : List (List ℕ)) (s : List ℕ) → spelled_as (l ∷ ls) s ≡ cond (spells l inbox) (inbox ++ drop (length l) s) s
unfolding spelled_as
spelled_as_lem l ls s = refl

spelled_is : (s : List ℕ) → spelled s ≡ cond (inbox_first s) (inbox ++ drop (length (first_level s)) s) s
unfolding spelled
spelled_is s =
    let w = levels_first s in
    rw (w.1, spelled_as_lem (first_level s) w.0 s, first_spells s)

module _ (s : List ℕ) where
  pub spelled_other : inbox_first s ≡ false → spelled s ≡ s
  spelled_other e = spelled_is s ∙ rw e

  -- INBOX is written over the first five bytes
  pub spelled_first : inbox_first s ≡ true → sets s 0 inbox ≡ spelled s
  spelled_first e = front s inbox (omega (arith, inbox_length, first_long s e)) ∙ rw (inbox_length) (sym (spelled_is s ∙ rw (e, level_length s e)))
