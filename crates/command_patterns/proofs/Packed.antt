-- Canonical patterns in a buffer: one pattern more; and what they are, and how many bytes, where each is at most 255 bytes long. Rests on octets' Puts.
use Rattle.listing_rules.proofs.Prelude.{◌∙◌, ◌≡◌, ap, refl, subst, sym, true, List, [], ◌++◌, ◌∷◌, append_assoc, append-nil, map, ◌%◌, ◌*◌, ◌+◌, ◌<◌}
use Rattle.listing_rules.proofs.Prelude.{◌^◌, ◌≤◌, ℕ, mod-eq_of_lt, arith, leb, length, length-append, leb-true}
use Rattle.listing_rules.specs.Lists.{every, joined}
use Rattle.listing_rules.specs.Walk.{packed}
use Rattle.listing_rules.proofs.Bools.{and_l, and_r}
use Rattle.octets.specs.Put.{Put}
use Rattle.octets.proofs.Puts.{put_none, put_then}
use Rattle.command_patterns.specs.Canonical.{short, packed_one, packed_bytes}

-- the buffer `e` holds the first of all patterns, up to the place `to`, and the rest is to come
pub record Packing (d e : List ℕ) (to : ℕ) (rest all : List (List ℕ)) : Type 0 where
  pub bytes : List ℕ
  pub put : Put d e 0 bytes to
  pub whole : bytes ++ packed_bytes rest ≡ packed_bytes all

pub packing_none : (d : List ℕ) (all : List (List ℕ)) → length d + 1 < 2 ^ 64 → Packing d d 0 all all
packing_none d all h = record { bytes = []; put = put_none d 0 h (omega arith); whole = refl }

module _ (d e : List ℕ) (to : ℕ) (rest all : List (List ℕ)) (w : Packing d e to rest all) where
  pub packing_same : {rest' : List (List ℕ)} → rest ≡ rest' → Packing d e to rest' all
  packing_same q = subst (λ (x : List (List ℕ)). Packing d e to x all) q w

  -- one pattern more
  pub packing_more : (p : List ℕ) (rest' : List (List ℕ)) {e' : List ℕ} {to' : ℕ} → rest ≡ p ∷ rest' → Put e e' to (packed_one p) to' → Packing d e' to' rest' all
  unfolding packed_bytes joined
  packing_more p rest' q h =
      record {
        bytes = w.bytes ++ packed_one p;
        put = put_then w.put h;
        whole = append_assoc w.bytes (packed_one p) (joined (map packed_one rest')) ∙ ap (λ (x : List (List ℕ)). w.bytes ++ joined (map packed_one x)) (sym q) ∙ w.whole;
      }

  pub packing_all : rest ≡ [] → Put d e 0 (packed_bytes all) to
  unfolding packed_bytes joined
  packing_all q = subst (λ (x : List ℕ). Put d e 0 x to) (sym (append-nil w.bytes) ∙ ap (λ (x : List (List ℕ)). w.bytes ++ joined (map packed_one x)) (sym q) ∙ w.whole) w.put

-- patterns of at most 255 bytes are packed as document 01 has it
pub packed_short : (ps : List (List ℕ)) → every short ps ≡ true → packed_bytes ps ≡ packed ps
unfolding packed_bytes packed joined every
packed_short [] h = refl
packed_short (p ∷ ps) h =
    let one : length p % 256 ≡ length p = mod-eq_of_lt (omega (arith, leb-true (length p) 255 (and_l (short p) (every short ps) h))) in
    let rest : joined (map packed_one ps) ≡ joined (map (λ n. length n ∷ n) ps) = packed_short ps (and_r (short p) (every short ps) h) in
    rw (one, rest)

-- eight patterns with their length bytes take 2,048 bytes at most
pub packed_few : (ps : List (List ℕ)) → every short ps ≡ true → length (packed ps) ≤ 256 * length ps
unfolding packed joined every
packed_few [] e = omega arith
packed_few (p ∷ ps) e =
    omega (
      arith,
      length-append p (packed ps),
      leb-true (length p) 255 (and_l (leb (length p) 255) (every (λ q. leb (length q) 255) ps) e),
      packed_few ps (and_r (leb (length p) 255) (every (λ q. leb (length q) 255) ps) e),
    )
