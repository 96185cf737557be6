-- A member of a set by its place: `contains`, `union` and `touches` in terms of `bit`. Rests on the library's laws of bits.
use Rattle.listing_rules.proofs.Prelude.{◌∙◌, ◌≡◌, ap, ap₂, refl, sym, Bool, ◌||◌, false, not, true, List, [], ◌∷◌, ◌%◌, ◌*◌, ◌+◌, ◌-◌, ◌/◌, ◌<◌, ◌^◌}
use Rattle.listing_rules.proofs.Prelude.{max, min, suc, zero, ℕ, mod-lt, one-mul, pow-suc, zero-lt-suc, arith, eqb, eq-eqb, eqb-false, eqb-true}
use Rattle.listing_rules.proofs.Prelude.{ne_eqb}
use lib.Bits.{bit_and, bit_or, and_high, and_step, or_step, and_shr, and_mod, or_shr, or_mod, and_zero_r, and_le_l, and_le_r, or_add_and}
use lib.Arith.{bin_ind}
use lib.Pow.{pow_pos}
use Rattle.listing_rules.specs.Bytes.{bit}
use Rattle.listing_rules.specs.Lists.{any_of}
use Rattle.octets.specs.Sets.{contains, union, touches, set_with}

one_digit : (d p : ℕ) → d < 2 → zero < p → eqb (d * p) p ≡ eqb d 1
one_digit zero p h g = ne_eqb (zero * p) p (λ e. omega arith)
one_digit (suc zero) p h g = eq-eqb (suc zero * p) p (one-mul p)
one_digit (suc (suc d)) p h g = absurd (omega arith)

-- what a set shares with member k
share : (k s : ℕ) → bit_and s (2 ^ k) ≡ (s / 2 ^ k % 2) * 2 ^ k
share k s = ap (bit_and s) (sym power) ∙ and_high s 1 k
  where
    power : 2 ^ (1 + k) - 2 ^ k ≡ 2 ^ k
    power = omega (arith, pow-suc 2 k, ap (λ (x : ℕ). 2 ^ x) one_more)
      where
        one_more : 1 + k ≡ suc k
        one_more = omega arith

-- the set has member k exactly if bit k is set
pub contains_bit : (k s : ℕ) → contains s (2 ^ k) ≡ bit k s
unfolding bit
contains_bit k s = ap (λ (x : ℕ). eqb x (2 ^ k)) (share k s) ∙ one_digit (s / 2 ^ k % 2) (2 ^ k) (mod-lt (s / 2 ^ k) (zero-lt-suc 1)) (pow_pos k)

-- a member is in a union exactly if it is in one of the two
pub union_bit : (k s t : ℕ) → bit k (union s t) ≡ (bit k s || bit k t)
unfolding bit
union_bit k s t =
    let a = s / 2 ^ k in
    let b = t / 2 ^ k in
    ap (λ (x : ℕ). eqb (x % 2) 1) (or_shr s t k)
    ∙ ap (λ (x : ℕ). eqb x 1) (or_mod a b 1)
    ∙ digits (a % 2) (b % 2) (mod-lt a (zero-lt-suc 1)) (mod-lt b (zero-lt-suc 1))
  where
    digits : (a b : ℕ) → a < 2 → b < 2 → eqb (bit_or a b) 1 ≡ (eqb a 1 || eqb b 1)
    digits zero zero h g = refl
    digits zero (suc zero) h g = refl
    digits (suc zero) zero h g = refl
    digits (suc zero) (suc zero) h g = refl
    digits zero (suc (suc b)) h g = absurd (omega arith)
    digits (suc zero) (suc (suc b)) h g = absurd (omega arith)
    digits (suc (suc a)) b h g = absurd (omega arith)

-- what a set shares with a union is what it shares with either
digits_share : (a b c : ℕ) → a < 2 → b < 2 → c < 2 → min a (bit_or b c) ≡ max (bit_and a b) (bit_and a c)
digits_share zero b c h g f = omega arith
digits_share (suc zero) zero zero h g f = refl
digits_share (suc zero) zero (suc zero) h g f = refl
digits_share (suc zero) zero (suc (suc c)) h g f = absurd (omega arith)
digits_share (suc zero) (suc zero) zero h g f = refl
digits_share (suc zero) (suc zero) (suc zero) h g f = refl
digits_share (suc zero) (suc zero) (suc (suc c)) h g f = absurd (omega arith)
digits_share (suc zero) (suc (suc b)) c h g f = absurd (omega arith)
digits_share (suc (suc a)) b c h g f = absurd (omega arith)

share_union : (s a b : ℕ) → bit_and s (bit_or a b) ≡ bit_or (bit_and s a) (bit_and s b)
share_union = bin_ind (λ (s : ℕ). (a b : ℕ) → bit_and s (bit_or a b) ≡ bit_or (bit_and s a) (bit_and s b)) (λ a b. refl) step
  where
    step : (s : ℕ) → ((a b : ℕ) → bit_and (s / 2) (bit_or a b) ≡ bit_or (bit_and (s / 2) a) (bit_and (s / 2) b)) → (a b : ℕ) → bit_and s (bit_or a b) ≡ bit_or (bit_and s a) (bit_and s b)
    step s ih a b =
        and_step s (bit_or a b)
        ∙ ap₂ (λ (x y : ℕ). bit_and (s / 2) x * 2 + min (s % 2) y) (or_shr a b 1) (or_mod a b 1)
        ∙ ap₂ (λ (x y : ℕ). x * 2 + y) (ih (a / 2) (b / 2)) (digits_share (s % 2) (a % 2) (b % 2) (mod-lt s (zero-lt-suc 1)) (mod-lt a (zero-lt-suc 1)) (mod-lt b (zero-lt-suc 1)))
        ∙ sym (or_step (bit_and s a) (bit_and s b) ∙ ap₂ (λ (x y : ℕ). x * 2 + y) (ap₂ bit_or (and_shr s a 1) (and_shr s b 1)) (ap₂ max (and_mod s a 1) (and_mod s b 1)))

some_digit : (d p : ℕ) → d < 2 → zero < p → not (eqb (d * p) 0) ≡ eqb d 1
some_digit zero p h g = rw (eq-eqb (zero * p) 0 (omega arith))
some_digit (suc zero) p h g = rw (ne_eqb (suc zero * p) 0 (λ e. omega (arith, one-mul p)))
some_digit (suc (suc d)) p h g = absurd (omega arith)

touches_bit : (k s : ℕ) → touches s (2 ^ k) ≡ bit k s
unfolding bit
touches_bit k s = ap (λ (x : ℕ). not (eqb x 0)) (share k s) ∙ some_digit (s / 2 ^ k % 2) (2 ^ k) (mod-lt (s / 2 ^ k) (zero-lt-suc 1)) (pow_pos k)

-- a union is empty exactly if both sets are
some_either : (a b : ℕ) → not (eqb (bit_or a b) 0) ≡ (not (eqb a 0) || not (eqb b 0))
some_either a b = go (eqb a 0) (eqb b 0) refl refl
  where
    go : (o u : Bool) → eqb a 0 ≡ o → eqb b 0 ≡ u → not (eqb (bit_or a b) 0) ≡ (not o || not u)
    go true true e f = rw (eqb-true a 0 e, eqb-true b 0 f)
    go true false e f = rw (eqb-true a 0 e, f)
    go false u e f = rw (ne_eqb (bit_or a b) 0 (λ z. eqb-false a 0 e (omega (arith, or_add_and a b, and_le_l a b, and_le_r a b))))

-- a set has some of the members with these places exactly if one of their bits is set
pub touches_bits : (s : ℕ) (ks : List ℕ) → touches s (set_with ks) ≡ any_of (λ k. bit k s) ks
unfolding any_of set_with
touches_bits s [] = rw (and_zero_r s)
touches_bits s (k ∷ ks) =
    ap (λ (x : ℕ). not (eqb x 0)) (share_union s (2 ^ k) (set_with ks))
    ∙ some_either (bit_and s (2 ^ k)) (bit_and s (set_with ks))
    ∙ ap₂ ◌||◌ (touches_bit k s) (touches_bits s ks)
