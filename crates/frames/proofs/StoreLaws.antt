-- Laws of stored bytes: added after the others, or not for want of room. Rests on the library alone.
use Rattle.std.specs.Prelude.{Option, Some, None}
use Rattle.listing_rules.proofs.Prelude.{◌∙◌, ◌≡◌, ap, refl, Bool, and-false, cond, false, true, List, ◌++◌, ◌+◌, ◌<◌, ◌≤◌, ℕ, arith, leb, drop}
use Rattle.listing_rules.proofs.Prelude.{length, length-append, take, length-sets, length-take-le, sets, sets-eq, take_at, le-leb, leb-true, lt-leb}
use Rattle.listing_rules.proofs.Bools.{and_l, and_r}
use Rattle.frames.specs.Storing.{has_place, Stores}

-- bytes written behind the first ones
written_behind : (d bs : List ℕ) (used : ℕ) → used + length bs ≤ length d → take (used + length bs) (sets d used bs) ≡ take used d ++ bs
written_behind d bs used h =
    ap (take (used + length bs)) (sets-eq bs d used h) ∙ take_at (take used d ++ bs) (drop (used + length bs) d) (used + length bs)
    (omega (arith, length-append (take used d) bs, length-take-le used d (omega arith)))

module _ (d e : List ℕ) (used limit : ℕ) (bs : List ℕ) (r : Option ℕ) where
  -- the answer and the bytes are all that storing promises
  stores : r ≡ cond (has_place (length d) used limit (length bs)) (Some (used + length bs)) None → e ≡ cond (has_place (length d) used limit (length bs)) (sets d used bs) d → Stores d e used limit bs r
  unfolding has_place
  stores a b =
      record {
        answer = a;
        front =
            λ h. ap (take (used + length bs)) (b ∙ rw h) ∙ written_behind d bs used
            (omega (
              arith,
              leb-true limit (length d) (and_l (leb limit (length d)) (leb (used + length bs) limit) h),
              leb-true (used + length bs) limit (and_r (leb limit (length d)) (leb (used + length bs) limit) h),
            ));
        bytes = b;
        kept = ap length b ∙ same (has_place (length d) used limit (length bs));
      }
    where
      same : (o : Bool) → length (cond o (sets d used bs) d) ≡ length d
      same true = length-sets d used bs
      same false = refl

  pub stores_now : limit ≤ length d → used + length bs ≤ limit → r ≡ Some (used + length bs) → e ≡ sets d used bs → Stores d e used limit bs r
  unfolding has_place
  stores_now h g a b = stores (a ∙ rw (le-leb limit (length d) h, le-leb (used + length bs) limit g)) (b ∙ rw (le-leb limit (length d) h, le-leb (used + length bs) limit g))

-- there is no room: the limit does not lie in the area, or the bytes do not stay in it
module _ (d : List ℕ) (used limit : ℕ) (bs : List ℕ) where
  pub stores_outside : length d < limit → Stores d d used limit bs None
  unfolding has_place
  stores_outside h = stores d d used limit bs None (rw (lt-leb limit (length d) h)) (rw (lt-leb limit (length d) h))

  pub stores_over : limit < used + length bs → Stores d d used limit bs None
  unfolding has_place
  stores_over h = stores d d used limit bs None (rw (lt-leb (used + length bs) limit h, and-false)) (rw (lt-leb (used + length bs) limit h, and-false))

-- what an answer says: the bytes are stored behind the others
pub stored_now : {d e : List ℕ} {used limit : ℕ} {bs : List ℕ} {r : Option ℕ} {u : ℕ} → Stores d e used limit bs r → r ≡ Some u →
    (leb (used + length bs) limit ≡ true) × (u ≡ used + length bs) × (take u e ≡ take used d ++ bs)
unfolding has_place
stored_now {d} {e} {used} {limit} {bs} {r} {u} s a = go (has_place (length d) used limit (length bs)) refl
  where
    go : (o : Bool) → has_place (length d) used limit (length bs) ≡ o → (leb (used + length bs) limit ≡ true) × (u ≡ used + length bs) × (take u e ≡ take used d ++ bs)
    go true q =
        let t : r ≡ Some (used + length bs) = s.answer ∙ rw q in
        let w : u ≡ used + length bs = cc in
        (and_r (leb limit (length d)) (leb (used + length bs) limit) q, w, rw w (s.front q))
    go false q =
        let t : r ≡ None = s.answer ∙ rw q in
        let z : ◌≡◌ {A = ℕ} 0 1 = cc in
        absurd (omega arith)

-- or they do not fit, and nothing changed
pub stored_full : {d e : List ℕ} {used limit : ℕ} {bs : List ℕ} {r : Option ℕ} → Stores d e used limit bs r → r ≡ None → limit ≤ length d → (leb (used + length bs) limit ≡ false) × (e ≡ d)
unfolding has_place
stored_full {d} {e} {used} {limit} {bs} {r} s a h = go (leb (used + length bs) limit) refl
  where
    go : (o : Bool) → leb (used + length bs) limit ≡ o → (leb (used + length bs) limit ≡ false) × (e ≡ d)
    go true q =
        let t : r ≡ Some (used + length bs) = s.answer ∙ rw (le-leb limit (length d) h, q) in
        let z : ◌≡◌ {A = ℕ} 0 1 = cc in
        absurd (omega arith)
    go false q = (q, s.bytes ∙ rw (le-leb limit (length d) h, q))
