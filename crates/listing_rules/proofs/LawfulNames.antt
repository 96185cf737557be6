-- A proper ancestor of a lawful name is lawful. Rests on Levels and ListLaws.
use Rattle.listing_rules.proofs.Prelude.{◌≡◌, ap, subst, ◌&&◌, false≢true, not, true, List, [], ◌++◌, ◌∷◌, ◌≤◌, ℕ, arith, eqb, leb, length}
use Rattle.listing_rules.proofs.Prelude.{length-append, eqb-true, le-leb, leb-true}
use Rattle.listing_rules.specs.Bytes.{slash, all, within}
use Rattle.listing_rules.specs.Lists.{every}
use Rattle.listing_rules.specs.Names.{levels, below, lawful_name, name_byte, is_full, inbox_spelled}
use Rattle.listing_rules.proofs.Bools.{and_l, and_r}
use Rattle.listing_rules.proofs.ListLaws.{all_left, every_left}
use Rattle.listing_rules.proofs.Levels.{levels_cons, levels_append}

pub below_split : (a n : List ℕ) → below a n ≡ true → (m : List ℕ) × (n ≡ a ++ (slash ∷ m))
unfolding below
below_split [] [] e = absurd (false≢true e)
below_split [] (c ∷ n) e = (n, ap (λ (x : ℕ). x ∷ n) (eqb-true c slash e))
below_split (b ∷ a) [] e = absurd (false≢true e)
below_split (b ∷ a) (c ∷ n) e =
    let w = below_split a n (and_r (eqb b c) (below a n) e) in
    let h : b ≡ c = eqb-true b c (and_l (eqb b c) (below a n) e) in
    let t : n ≡ a ++ (slash ∷ w.0) = w.1 in
    (w.0, cc)

-- the bytes of a name
pub name_range : (b : ℕ) → name_byte b ≡ true → (32 ≤ b) × (b ≤ 126)
unfolding name_byte within
name_range b h =
    let w = and_l (within 0x20 0x7E b) (not (eqb b 37)) (and_l (within 0x20 0x7E b && not (eqb b 37)) (not (eqb b 42)) h) in
    (leb-true 32 b (and_l (leb 32 b) (leb b 126) w), leb-true b 126 (and_r (leb 32 b) (leb b 126) w))

-- the parts of the test
pub record GoodParts (n : List ℕ) : Type 0 where
  pub least : 1 ≤ length n
  pub most : length n ≤ 200
  pub bytes : all name_byte n ≡ true
  pub few : length (levels n) ≤ 16
  pub full : every is_full (levels n) ≡ true
  pub inbox_ok : inbox_spelled (levels n) ≡ true

pub good_parts : (n : List ℕ) → lawful_name n ≡ true → GoodParts n
unfolding lawful_name within
good_parts n h =
    let i = within 1 200 (length n) in
    let h₄ = and_l (i && all name_byte n && leb (length (levels n)) 16 && every is_full (levels n)) (inbox_spelled (levels n)) h in
    let h₃ = and_l (i && all name_byte n && leb (length (levels n)) 16) (every is_full (levels n)) h₄ in
    let h₂ = and_l (i && all name_byte n) (leb (length (levels n)) 16) h₃ in
    let h₁ = and_l i (all name_byte n) h₂ in
    record {
      least = leb-true 1 (length n) (and_l (leb 1 (length n)) (leb (length n) 200) h₁);
      most = leb-true (length n) 200 (and_r (leb 1 (length n)) (leb (length n) 200) h₁);
      bytes = and_r i (all name_byte n) h₂;
      few = leb-true (length (levels n)) 16 (and_r (i && all name_byte n) (leb (length (levels n)) 16) h₃);
      full = and_r (i && all name_byte n && leb (length (levels n)) 16) (every is_full (levels n)) h₄;
      inbox_ok = and_r (i && all name_byte n && leb (length (levels n)) 16 && every is_full (levels n)) (inbox_spelled (levels n)) h;
    }

pub parts_good : (n : List ℕ) → GoodParts n → lawful_name n ≡ true
unfolding lawful_name within
parts_good n g = simp (le-leb 1 (length n) g.least, le-leb (length n) 200 g.most, g.bytes, le-leb (length (levels n)) 16 g.few, g.full, g.inbox_ok)

inbox_head : (ls ms : List (List ℕ)) → (l : List ℕ) × (ks : List (List ℕ)) × (ls ≡ l ∷ ks) → inbox_spelled (ls ++ ms) ≡ true → inbox_spelled ls ≡ true
unfolding inbox_spelled
inbox_head ls ms w h = rw w.2 (rw w.2 at h)

good_ancestor : (a m : List ℕ) → lawful_name (a ++ (slash ∷ m)) ≡ true → lawful_name a ≡ true
good_ancestor a m h =
    parts_good a
    (record {
      least = nonempty a (every_left is_full (levels a) (levels m) full);
      most = omega (arith, g.most, length-append a (slash ∷ m));
      bytes = all_left name_byte a (slash ∷ m) g.bytes;
      few = omega (arith, g.few, ap length (levels_append a m), length-append (levels a) (levels m));
      full = every_left is_full (levels a) (levels m) full;
      inbox_ok = inbox_head (levels a) (levels m) (levels_cons a) (subst (λ (x : List (List ℕ)). inbox_spelled x ≡ true) (levels_append a m) g.inbox_ok);
    })
  where
    g : GoodParts (a ++ (slash ∷ m))
    g = good_parts (a ++ (slash ∷ m)) h

    full : every is_full (levels a ++ levels m) ≡ true
    full = subst (λ (x : List (List ℕ)). every is_full x ≡ true) (levels_append a m) g.full

    nonempty : (a : List ℕ) → every is_full (levels a) ≡ true → 1 ≤ length a
    nonempty [] e = absurd (false≢true (unfold levels every is_full in e))
    nonempty (b ∷ a) e = omega arith

pub good_below : (a n : List ℕ) → lawful_name n ≡ true → below a n ≡ true → lawful_name a ≡ true
good_below a n h b = let w = below_split a n b in good_ancestor a w.0 (subst (λ (x : List ℕ). lawful_name x ≡ true) w.1 h)
