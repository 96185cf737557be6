-- Names in a buffer: none, one more, and what stands at a place. Rests on the laws of writes.
use Rattle.listing_rules.proofs.Prelude.{◌∙◌, ◌≡◌, ap, refl, sym, List, [], ◌++◌, ◌∷◌, append-nil, ◌+◌, ◌-◌, ◌<◌, ◌≤◌, ℕ, sub-zero, arith, length}
use Rattle.listing_rules.proofs.Prelude.{length-append, length-replicate, replicate, drop-append-add, sets, sets-eq, take_at, le-leb, lt-leb}
use Rattle.listing_rules.specs.Lists.{joined}
use Rattle.listing_rules.specs.Walk.{stop, go, packed, fits, zero_behind}
use Rattle.listing_rules.proofs.Asked.{packed_append}
use Rattle.octets.specs.Put.{Put}
use Rattle.octets.proofs.Clearing.{drop_zeros}
use Rattle.octets.proofs.Puts.{put_length}
use Rattle.collector.specs.Names.{Packs}

zero_length : (room : ℕ) (bs : List ℕ) → length bs ≤ room → length (zero_behind room bs) ≡ room
unfolding zero_behind
zero_length room bs h = omega (arith, length-append bs (replicate (room - length bs) 0), length-replicate {A = ℕ} (room - length bs) 0)

-- a write after what lies in a buffer that is zero after it
sets_zeros : (bs vs : List ℕ) (room at : ℕ) → at ≡ length bs → at + length vs ≤ room → sets (zero_behind room bs) at vs ≡ zero_behind room (bs ++ vs)
unfolding zero_behind
sets_zeros bs vs room at e h =
    sets-eq vs (bs ++ zeros) at (omega (arith, zero_length room bs (omega arith)))
    ∙ rw (take_at bs zeros at (sym e), e, drop-append-add bs zeros (length vs), drop_zeros (room - length bs) (length vs))
    (ap (λ (k : ℕ). (bs ++ vs) ++ replicate k 0) left)
  where
    zeros : List ℕ
    zeros = replicate (room - length bs) 0

    left : room - length bs - length vs ≡ room - length (bs ++ vs)
    left = omega (arith, length-append bs vs)

pub packed_none : packed [] ≡ []
unfolding packed joined
packed_none = refl

packed_one_lem : (n : List ℕ) → packed (n ∷ []) ≡ length n ∷ n
unfolding packed joined
packed_one_lem n = append-nil (length n ∷ n)

pub packed_more : (ns : List (List ℕ)) (n : List ℕ) → packed (ns ++ (n ∷ [])) ≡ packed ns ++ (length n ∷ n)
packed_more ns n = packed_append ns (n ∷ []) ∙ ap (λ (x : List ℕ). packed ns ++ x) (packed_one_lem n)

-- a buffer of zeros holds no name
pub packs_none : (buf : List ℕ) → buf ≡ replicate (length buf) 0 → Packs buf 0 []
unfolding zero_behind
packs_none buf e = record { counted = rw packed_none; room = omega arith; bytes = rw packed_none (e ∙ rw sub-zero) }

-- a buffer that was cleared
pub cleared : (d : List ℕ) {e : List ℕ} {n : ℕ} → length d ≡ n → e ≡ replicate (length d) 0 → e ≡ replicate n 0
cleared d l z = z ∙ ap (λ (k : ℕ). replicate k 0) l

-- one name more
module _ {d : List ℕ} {at : ℕ} {ns : List (List ℕ)} (n : List ℕ) where
  pub packs_more : {e : List ℕ} {r : ℕ} → Packs d at ns → Put d e at (length n ∷ n) r → length n < length d - at → Packs e r (ns ++ (n ∷ []))
  packs_more p w h =
      record {
        counted = rw (packed_more ns n) (omega (arith, w.place, w.fits, p.counted, length-append (packed ns) (length n ∷ n)));
        room = omega (arith, w.place, w.fits, put_length w);
        bytes =
            w.bytes ∙ ap (λ (x : List ℕ). sets x at (length n ∷ n)) p.bytes ∙ sets_zeros (packed ns) (length n ∷ n) (length d) at p.counted
            (omega arith) ∙ rw (packed_more ns n, put_length w);
      }

  pub packs_full : Packs d at ns → length d - at ≤ length n → length d < length (packed (ns ++ (n ∷ [])))
  packs_full p h = rw (packed_more ns n) (omega (arith, p.counted, p.room, length-append (packed ns) (length n ∷ n)))

-- what `fits` says
pub fits_go : (k room : ℕ) (ns : List (List ℕ)) → length (packed ns) ≤ room → fits k room ns ≡ go ns
unfolding fits
fits_go k room ns h = rw (le-leb (length (packed ns)) room h)

pub fits_stop : (k room : ℕ) (ns : List (List ℕ)) → room < length (packed ns) → fits k room ns ≡ stop k
unfolding fits
fits_stop k room ns h = rw (lt-leb (length (packed ns)) room h)
