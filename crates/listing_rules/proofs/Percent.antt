-- Which names the collector's patterns match: "%" those of one level, "P/%" those that are P, a slash and one level more. Rests on Bools.
use Rattle.listing_rules.proofs.Prelude.{◌∙◌, ◌≡◌, ap, refl, sym, Bool, ◌&&◌, false≢true, not, true, ◌↔◌, List, [], ◌++◌, ◌∷◌, ℕ, eqb, eq-eqb}
use Rattle.listing_rules.proofs.Prelude.{eqb-true, not-true}
use Rattle.listing_rules.specs.Bytes.{slash, all, within}
use Rattle.listing_rules.specs.Names.{name_byte}
use Rattle.listing_rules.specs.Match.{wild_match, head_then}
use Rattle.listing_rules.proofs.Keys.{open_bytes, open_match}
use Rattle.listing_rules.proofs.Bools.{and_l, and_r}

-- no slash
abbrev pub one_level : List ℕ → Bool
one_level l = all (λ b. not (eqb b slash)) l

pub takes_percent : (n : List ℕ) → wild_match (37 ∷ []) n ≡ one_level n
unfolding open_bytes open_match
takes_percent [] = refl
takes_percent (c ∷ n) = ap (λ (r : Bool). not (eqb c slash) && r) (takes_percent n)

-- a byte of a name is no wildcard
plain : (p : ℕ) (ps n : List ℕ) → name_byte p ≡ true → wild_match (p ∷ ps) n ≡ head_then p (wild_match ps) n
unfolding name_byte wild_match
plain p ps n h =
    let not37 = not-true (eqb p 37) (and_r (within 0x20 0x7E p) (not (eqb p 37)) (and_l (within 0x20 0x7E p && not (eqb p 37)) (not (eqb p 42)) h)) in
    let not42 = not-true (eqb p 42) (and_r (within 0x20 0x7E p && not (eqb p 37)) (not (eqb p 42)) h) in
    rw (not42, not37)

takes_prefix : (a q m : List ℕ) → all name_byte a ≡ true → wild_match (a ++ q) (a ++ m) ≡ wild_match q m
unfolding open_bytes open_match
takes_prefix [] q m h = refl
takes_prefix (p ∷ a) q m h =
    plain p (a ++ q) (p ∷ (a ++ m)) (and_l (name_byte p) (all name_byte a) h)
    ∙ rw (eq-eqb p p refl) (takes_prefix a q m (and_r (name_byte p) (all name_byte a) h))

takes_split : (a q n : List ℕ) → all name_byte a ≡ true → wild_match (a ++ q) n ≡ true → (m : List ℕ) × (n ≡ a ++ m) × (wild_match q m ≡ true)
unfolding open_bytes open_match
takes_split [] q n h t = (n, refl, t)
takes_split (p ∷ a) q [] h t = absurd (false≢true (sym (plain p (a ++ q) [] (and_l (name_byte p) (all name_byte a) h)) ∙ t))
takes_split (p ∷ a) q (c ∷ n) h t =
    let u = sym (plain p (a ++ q) (c ∷ n) (and_l (name_byte p) (all name_byte a) h)) ∙ t in
    let w = takes_split a q n (and_r (name_byte p) (all name_byte a) h) (and_r (eqb p c) (wild_match (a ++ q) n) u) in
    let head : p ≡ c = eqb-true p c (and_l (eqb p c) (wild_match (a ++ q) n) u) in
    let tail : n ≡ a ++ w.0 = w.1 in
    (w.0, cc, w.2)

-- the pattern that the collector sends below P
pub takes_below : (a n : List ℕ) → all name_byte a ≡ true → (wild_match (a ++ (slash ∷ 37 ∷ [])) n ≡ true) ↔ ((l : List ℕ) × (n ≡ a ++ (slash ∷ l)) × (one_level l ≡ true))
unfolding open_bytes open_match
takes_below a n h = (to, from)
  where
    tail : (m : List ℕ) → n ≡ a ++ m → wild_match (slash ∷ 37 ∷ []) m ≡ true → (l : List ℕ) × (n ≡ a ++ (slash ∷ l)) × (one_level l ≡ true)
    tail [] e t = absurd (false≢true t)
    tail (c ∷ l) e t =
        (l, e ∙ rw (eqb-true slash c (and_l (eqb slash c) (wild_match (37 ∷ []) l) t)) refl, sym (takes_percent l) ∙ and_r (eqb slash c) (wild_match (37 ∷ []) l) t)

    to : wild_match (a ++ (slash ∷ 37 ∷ [])) n ≡ true → (l : List ℕ) × (n ≡ a ++ (slash ∷ l)) × (one_level l ≡ true)
    to t = let w = takes_split a (slash ∷ 37 ∷ []) n h t in tail w.0 w.1 w.2

    from : (l : List ℕ) × (n ≡ a ++ (slash ∷ l)) × (one_level l ≡ true) → wild_match (a ++ (slash ∷ 37 ∷ [])) n ≡ true
    from w = rw w.1 (takes_prefix a (slash ∷ 37 ∷ []) (slash ∷ w.0) h ∙ takes_percent w.0 ∙ w.2)
