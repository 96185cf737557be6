-- What a command of the collector matches, and that a line is a find exactly if its name meets the criteria. Rests on Percent and Passes.
use Rattle.listing_rules.proofs.Prelude.{◌∙◌, ◌≡◌, ap, refl, subst, sym, Bool, ◌&&◌, ◌||◌, and_comm, and-false, and-true, cond, false}
use Rattle.listing_rules.proofs.Prelude.{false≢true, not, or_assoc, or-false, or-true, true, ◌↔◌, List, [], ◌++◌, ◌∷◌, append_assoc, ◌-◌, ◌≤◌}
use Rattle.listing_rules.proofs.Prelude.{ℕ, arith, eqb, leb, le-leb, leb-true, ne_eqb}
use Rattle.listing_rules.specs.Bytes.{slash, all, same, raise, raised, within, bit}
use Rattle.listing_rules.specs.Lists.{any_of}
use Rattle.listing_rules.specs.Names.{name_byte, inbox}
use Rattle.listing_rules.proofs.Keys.{open_bytes, open_names}
use Rattle.listing_rules.specs.Flags.{exists, subscribed, remote, uses, has_use}
use Rattle.listing_rules.specs.Table.{Table, Row, rows, passes, flags_of}
use Rattle.listing_rules.specs.Options.{no_criteria, is_none, criteria}
use Rattle.listing_rules.specs.Match.{wild_match, matches, matches_any}
use Rattle.listing_rules.specs.Listing.{meets_criteria, candidate_meets, meets_below, meets_unmatched_below, child_info, unselective, level_above}
use Rattle.listing_rules.specs.Listing.{listed, attributes, attributes_for, in_order}
use Rattle.listing_rules.specs.Walk.{wants_remote, wants_special, drops_subscribed, lawful_byte, is_find, attr, use_attr}
use Rattle.listing_rules.specs.Demand3.{walk_options}
use Rattle.listing_rules.proofs.Bools.{and_l, and_r, and_i}
use Rattle.listing_rules.proofs.ListLaws.{same_true, all_right}
use Rattle.listing_rules.proofs.Percent.{one_level, takes_percent, takes_below}
use Rattle.listing_rules.proofs.Levels.{child, ChildOf}
use Rattle.listing_rules.proofs.Passes.{use_exists}

-- one of the seven uses, as `hasUse` asks it of flags, and as `isFind` asks it of attributes where s says that uses are shown
abbrev used : Bool → Bool → Bool → Bool → Bool → Bool → Bool → Bool
used b₈ b₉ b₁₀ b₁₁ b₁₂ b₁₃ b₁₄ = b₈ || (b₉ || (b₁₀ || (b₁₁ || (b₁₂ || (b₁₃ || (b₁₄ || false))))))

abbrev shown : Bool → Bool → Bool → Bool → Bool → Bool → Bool → Bool → Bool
shown s b₈ b₉ b₁₀ b₁₁ b₁₂ b₁₃ b₁₄ = (((((b₈ && s || b₉ && s) || b₁₀ && s) || b₁₁ && s) || b₁₂ && s) || b₁₃ && s) || b₁₄ && s

-- "A line is a find if ..": exactly if the name meets the criteria
find_bools : (S s x e b₈ b₉ b₁₀ b₁₁ b₁₂ b₁₃ b₁₄ : Bool)
    → (((s && true) && x) && (not S || shown (S || false) b₈ b₉ b₁₀ b₁₁ b₁₂ b₁₃ b₁₄))
    ≡ ((((e || true) && x) && s) && (not S || used b₈ b₉ b₁₀ b₁₁ b₁₂ b₁₃ b₁₄))
find_bools true s x e b₈ b₉ b₁₀ b₁₁ b₁₂ b₁₃ b₁₄ = simp (and-true, or-true, or-false, or_assoc) (ap (λ (y : Bool). y && (b₈ || (b₉ || (b₁₀ || (b₁₁ || (b₁₂ || (b₁₃ || b₁₄))))))) (and_comm s x))
find_bools false s x e b₈ b₉ b₁₀ b₁₁ b₁₂ b₁₃ b₁₄ = simp (and-true, or-true) (and_comm s x)

-- without SUBSCRIBED: what has a use exists
find_dropped : (x e u : Bool) → (u ≡ true → e ≡ true) → (x && u) ≡ ((((e || false) && x) && true) && u)
find_dropped x e true h = rw (h refl) (sym (and-true (x && true)))
find_dropped x e false h = and-false x ∙ sym (and-false (((e || false) && x) && true))

find_uses : (x e b₈ b₉ b₁₀ b₁₁ b₁₂ b₁₃ b₁₄ : Bool) → (used b₈ b₉ b₁₀ b₁₁ b₁₂ b₁₃ b₁₄ ≡ true → e ≡ true)
    → (x && shown true b₈ b₉ b₁₀ b₁₁ b₁₂ b₁₃ b₁₄) ≡ ((((e || false) && x) && true) && used b₈ b₉ b₁₀ b₁₁ b₁₂ b₁₃ b₁₄)
find_uses x e b₈ b₉ b₁₀ b₁₁ b₁₂ b₁₃ b₁₄ h = ap (λ (u : Bool). x && u) (simp (and-true, or-false, or_assoc)) ∙ find_dropped x e (used b₈ b₉ b₁₀ b₁₁ b₁₂ b₁₃ b₁₄) h

-- a table that passes is walked with a lawful option byte
abbrev pub Walks : Table → ℕ → Type 0
Walks t o = (passes t ≡ true) × (lawful_byte o ≡ true)

beside : (o : ℕ) → lawful_byte o ≡ true → (not (drops_subscribed o) || wants_special o) ≡ true
unfolding lawful_byte
beside o h = and_r (leb o 7) (not (drops_subscribed o) || wants_special o) h

pub find_met : (t : Table) (o : ℕ) → Walks t o → (ps : List (List ℕ)) (n : List ℕ) → is_find o (attributes (rows t) (walk_options o) ps n) ≡ candidate_meets (rows t) (walk_options o) n
unfolding is_find attr use_attr attributes attributes_for in_order walk_options candidate_meets meets_criteria has_use uses any_of
find_met t o w ps n = go (drops_subscribed o) (wants_special o) (beside o w.1) (use_exists t w.0 n)
  where
    f : ℕ
    f = flags_of (rows t) n

    x : Bool
    x = not (remote f) || wants_remote o

    any_use : Bool
    any_use = used (bit 8 f) (bit 9 f) (bit 10 f) (bit 11 f) (bit 12 f) (bit 13 f) (bit 14 f)

    use_shown : Bool → Bool
    use_shown s = shown s (bit 8 f) (bit 9 f) (bit 10 f) (bit 11 f) (bit 12 f) (bit 13 f) (bit 14 f)

    go : (D S : Bool) → (not D || S) ≡ true → (any_use ≡ true → exists f ≡ true)
        → (((D || (subscribed f && (not D || false))) && x) && (not S || use_shown (S || false)))
        ≡ ((((exists f || not D) && x) && (not (not D) || subscribed f)) && (not S || any_use))
    go false S l u = find_bools S (subscribed f) x (exists f) (bit 8 f) (bit 9 f) (bit 10 f) (bit 11 f) (bit 12 f) (bit 13 f) (bit 14 f)
    go true true l u = find_uses x (exists f) (bit 8 f) (bit 9 f) (bit 10 f) (bit 11 f) (bit 12 f) (bit 13 f) (bit 14 f) u
    go true false l u = absurd (false≢true l)

-- a name has CHILDINFO exactly if something below it meets the criteria: one at least is selected
pub walk_asks : (rs : List Row) (o : ℕ) → lawful_byte o ≡ true → (n : List ℕ) → not (is_none (child_info rs (walk_options o) n)) ≡ meets_below rs (walk_options o) n
unfolding child_info criteria no_criteria is_none walk_options
walk_asks rs o h n = go (meets_below rs (walk_options o) n)
  where
    go : (b : Bool) → not (is_none (cond (true && b) (record { subscribed = not (drops_subscribed o); special = wants_special o }) no_criteria)) ≡ b
    go true = rw (beside o h)
    go false = refl

-- a walk selects RECURSIVEMATCH, so no level is listed for a final "%" alone
pub walk_listed : (rs : List Row) (o : ℕ) (ps : List (List ℕ)) (n : List ℕ)
    → listed rs (walk_options o) ps n ≡ (matches_any ps n && (candidate_meets rs (walk_options o) n || meets_unmatched_below rs (walk_options o) ps n))
unfolding listed level_above unselective walk_options
walk_listed rs o ps n = or-false _

-- the pattern % alone, and below a name
one_level_inbox : one_level inbox ≡ true
unfolding open_names open_bytes
one_level_inbox = refl

not_child : (a x : List ℕ) → one_level (child a x) ≡ true → ⊥
unfolding open_bytes
not_child a x h = false≢true (all_right (λ b. not (eqb b slash)) a (slash ∷ x) h)

pub matches_top : (n : List ℕ) → matches_any ((37 ∷ []) ∷ []) n ≡ one_level n
unfolding matches_any matches any_of open_bytes
matches_top n = or-false _ ∙ pick (same n inbox)
  where
    pick : (o : Bool) → wild_match (cond o (37 ∷ []) (37 ∷ [])) n ≡ one_level n
    pick true = takes_percent n
    pick false = takes_percent n

-- raised names keep their bytes' shape
raise_name : (b : ℕ) → name_byte b ≡ true → name_byte (raise b) ≡ true
unfolding raise
raise_name b h = pick (within 97 122 b) refl
  where
    small : within 97 122 b ≡ true → name_byte (b - 32) ≡ true
    small e = upper (b - 32) (omega (arith, lo, hi)) (omega (arith, lo, hi))
      where
        lo : 97 ≤ b
        lo = unfold within in leb-true 97 b (and_l (leb 97 b) (leb b 122) e)

        hi : b ≤ 122
        hi = unfold within in leb-true b 122 (and_r (leb 97 b) (leb b 122) e)

        upper : (c : ℕ) → 65 ≤ c → c ≤ 90 → name_byte c ≡ true
        upper c l u = unfold name_byte within in simp (le-leb 32 c (omega arith), le-leb c 126 (omega arith), ne_eqb c 37 (λ e. omega arith), ne_eqb c 42 (λ e. omega arith))

    pick : (o : Bool) → within 97 122 b ≡ o → name_byte (cond o (b - 32) b) ≡ true
    pick true e = small e
    pick false e = h

raised_append : (a b : List ℕ) → raised (a ++ b) ≡ raised a ++ raised b
unfolding raised
raised_append [] b = refl
raised_append (x ∷ a) b = ap (λ (y : List ℕ). raise x ∷ y) (raised_append a b)

raised_name : (a : List ℕ) → all name_byte a ≡ true → all name_byte (raised a) ≡ true
unfolding raised all
raised_name [] h = refl
raised_name (b ∷ a) h = and_i (name_byte (raise b)) (all name_byte (raised a)) (raise_name b (and_l (name_byte b) (all name_byte a) h)) (raised_name a (and_r (name_byte b) (all name_byte a) h))

pub matches_below : (a n : List ℕ) → all name_byte a ≡ true → (matches_any (((a ++ (slash ∷ [])) ++ (37 ∷ [])) ∷ []) n ≡ true) ↔ ChildOf a n
unfolding matches_any matches any_of
matches_below a n h = (to, from)
  where
    p : List ℕ
    p = (a ++ (slash ∷ [])) ++ (37 ∷ [])

    is : p ≡ a ++ (slash ∷ 37 ∷ [])
    is = append_assoc a (slash ∷ []) (37 ∷ [])

    up : raised p ≡ raised a ++ (slash ∷ 37 ∷ [])
    up = ap raised is ∙ raised_append a (slash ∷ 37 ∷ []) ∙ (unfold open_bytes in refl)

    to : (wild_match (cond (same n inbox) (raised p) p) n || false) ≡ true → ChildOf a n
    to e = pick (same n inbox) refl (sym (or-false _) ∙ e)
      where
        pick : (o : Bool) → same n inbox ≡ o → wild_match (cond o (raised p) p) n ≡ true → ChildOf a n
        pick true q t =
            let w = (takes_below (raised a) n (raised_name a h)).0 (subst (λ (x : List ℕ). wild_match x n ≡ true) up t) in
            absurd (not_child (raised a) w.0 (ap one_level (sym w.1 ∙ same_true n inbox q) ∙ one_level_inbox))
        pick false q t = (takes_below a n h).0 (subst (λ (x : List ℕ). wild_match x n ≡ true) is t)

    from : ChildOf a n → (wild_match (cond (same n inbox) (raised p) p) n || false) ≡ true
    from w = or-false _ ∙ pick (same n inbox) refl
      where
        pick : (o : Bool) → same n inbox ≡ o → wild_match (cond o (raised p) p) n ≡ true
        pick true q = absurd (not_child a w.0 (ap one_level (sym w.1 ∙ same_true n inbox q) ∙ one_level_inbox))
        pick false q = subst (λ (x : List ℕ). wild_match x n ≡ true) (sym is) ((takes_below a n h).1 w)
