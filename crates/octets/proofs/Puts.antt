-- Laws of writes: a run of them is one write of the bytes joined, in a loop too, and a write at the front that fits is the bytes and what
-- lay after them. Rests on the library's laws of `sets`.
use Rattle.listing_rules.proofs.Prelude.{◌∙◌, ◌≡◌, ap, refl, sym, ◌⊎◌, inl, inr, ⊎_elim, List, [], ◌++◌, ◌∷◌, append_assoc, append-nil, ◌+◌, ◌-◌, ◌<◌}
use Rattle.listing_rules.proofs.Prelude.{◌^◌, ◌≤◌, min, suc, ℕ, add-suc, add-zero, suc-add, zero-add, add-one, dec_le, arith, drop, get_or, length}
use Rattle.listing_rules.proofs.Prelude.{length-append, set, take, take-append-drop, length-sets, length-take-le, set_out, sets, sets-eq, take_all}
use Rattle.listing_rules.proofs.Prelude.{take-suc}
use Rattle.octets.specs.Put.{Put}

pub either : (a b : ℕ) → (a ≤ b) ⊎ (b < a)
either a b = elim (dec_le a b) [ yes h ↦ inl h | no h ↦ inr (omega arith) ]

pub sets_append : (d : List ℕ) (at : ℕ) (xs ys : List ℕ) → sets d at (xs ++ ys) ≡ sets (sets d at xs) (at + length xs) ys
sets_append d at [] ys = rw add-zero
sets_append d at (a ∷ xs) ys = sets_append (set d at a) (suc at) xs ys ∙ rw (add-suc, suc-add)

-- a write behind the end stores nothing
sets_out : (d : List ℕ) (k : ℕ) (ys : List ℕ) → length d ≤ k → sets d k ys ≡ d
sets_out d k [] h = refl
sets_out d k (y ∷ ys) h = rw (set_out d k y h) (sets_out d (suc k) ys (omega arith))

-- one byte more
pub sets_more : (d s : List ℕ) (at i : ℕ) → i < length s → set (sets d at (take i s)) (at + i) (get_or s i 0) ≡ sets d at (take (i + 1) s)
sets_more d s at i h =
    rw (add-one, take-suc s i 0 h, sets_append d at (take i s) (get_or s i 0 ∷ [])) (ap (λ (k : ℕ). set (sets d at (take i s)) k (get_or s i 0)) (omega (arith, taken)))
  where
    taken : length (take i s) ≡ i
    taken = length-take-le i s (omega arith)

-- what does not fit is not stored
pub sets_part : (d s : List ℕ) (at n : ℕ) → n ≡ min (length s) (length d - at) → sets d at (take n s) ≡ sets d at s
sets_part d s at n e = ⊎_elim whole part (either (length s) (length d - at))
  where
    whole : length s ≤ length d - at → sets d at (take n s) ≡ sets d at s
    whole h = rw (take_all n s (omega arith))

    part : length d - at < length s → sets d at (take n s) ≡ sets d at s
    part h =
        sym
        (ap (λ (x : List ℕ). sets d at x) (sym (take-append-drop n s))
        ∙ sets_append d at (take n s) (drop n s)
        ∙ sets_out (sets d at (take n s)) (at + length (take n s)) (drop n s) (omega (arith, length-sets d at (take n s), length-take-le n s (omega arith))))

module _ {d e : List ℕ} {at : ℕ} {xs : List ℕ} {r : ℕ} where
  -- a write keeps the buffer's length
  pub put_length : Put d e at xs r → length e ≡ length d
  put_length p = ap length p.bytes ∙ length-sets d at xs

  -- two writes, one behind the other
  pub put_then : {f : List ℕ} {ys : List ℕ} {q : ℕ} → Put d e at xs r → Put e f r ys q → Put d f at (xs ++ ys) q
  put_then {f} {ys} {q} p p' =
      record {
        fits = p.fits;
        place = omega (arith, length-append xs ys, p.place, p'.place);
        bytes = p'.bytes ∙ rw p.bytes (⊎_elim near far (either (at + length xs) (2 ^ 64 - 1)) ∙ sym (sets_append d at xs ys));
      }
    where
      near : at + length xs ≤ 2 ^ 64 - 1 → sets (sets d at xs) r ys ≡ sets (sets d at xs) (at + length xs) ys
      near h = let w : r ≡ at + length xs = omega arith in rw w

      far : 2 ^ 64 - 1 < at + length xs → sets (sets d at xs) r ys ≡ sets (sets d at xs) (at + length xs) ys
      far h =
          sets_out (sets d at xs) r ys (omega (arith, length-sets d at xs)) ∙ sym (sets_out (sets d at xs) (at + length xs) ys (omega (arith, length-sets d at xs)))

-- nothing written yet
pub put_none : (d : List ℕ) (at : ℕ) → length d + 1 < 2 ^ 64 → at < 2 ^ 64 → Put d d at [] at
put_none d at h g = record { fits = h; place = omega arith; bytes = refl }

-- A loop that writes the whole piece by piece: some of it is written, and `rest` is left.
pub record Putting (d e : List ℕ) (at : ℕ) (whole rest : List ℕ) (to : ℕ) : Type 0 where
  pub written : List ℕ
  pub put : Put d e at written to
  pub joined : written ++ rest ≡ whole

pub putting_none : (d : List ℕ) (at : ℕ) (whole : List ℕ) → length d + 1 < 2 ^ 64 → at < 2 ^ 64 → Putting d d at whole whole at
putting_none d at whole h g = record { written = []; put = put_none d at h g; joined = refl }

module _ {d e : List ℕ} {at : ℕ} {whole rest : List ℕ} {to : ℕ} (p : Putting d e at whole rest to) where
  pub putting_more : {f piece more : List ℕ} {r : ℕ} → rest ≡ piece ++ more → Put e f to piece r → Putting d f at whole more r
  putting_more {f} {piece} {more} q w =
      record {
        written = p.written ++ piece;
        put = put_then p.put w;
        joined = append_assoc p.written piece more ∙ ap (λ (x : List ℕ). p.written ++ x) (sym q) ∙ p.joined;
      }

  -- what is left, told in another way
  pub putting_on : {more : List ℕ} → rest ≡ more → Putting d e at whole more to
  putting_on q = record { written = p.written; put = p.put; joined = ap (λ (x : List ℕ). p.written ++ x) (sym q) ∙ p.joined }

  pub putting_all : rest ≡ [] → Put d e at whole to
  putting_all q = rw (← p.joined, q, append-nil p.written) p.put

-- a write at the front that fits
pub front : (d vs : List ℕ) → length vs ≤ length d → sets d 0 vs ≡ vs ++ drop (length vs) d
front d vs h = sets-eq vs d 0 (omega arith) ∙ rw zero-add
