-- The number of a set and its sixteen members decide each other.
use Rattle.listing_rules.proofs.Prelude.{◌∙◌, ◌≡◌, ap, refl, sym, Bool, ◌&&◌, cond, false, true, List, [], ◌++◌, ◌∷◌, ◌%◌, ◌*◌, ◌+◌, ◌/◌, ◌<◌, ◌^◌}
use Rattle.listing_rules.proofs.Prelude.{◌≤◌, suc, zero, ℕ, add-suc, add-zero, div-div-eq-div-mul, div-one, pow-suc, pow-succ', suc-add, zero-add}
use Rattle.listing_rules.proofs.Prelude.{zero-div, add-one, arith, eqb, get_or, length, length-take, take, take-suc, eq-eqb}
use Rattle.listing_rules.proofs.Prelude.{eqb-true, ne_eqb}
use lib.Pow.{pow_mono}
use Rattle.listing_rules.specs.Bytes.{bit, is_empty}
use Rattle.listing_rules.specs.Options.{Criteria, is_none}
use Rattle.listing_rules.specs.LineReader.{same_bools, root_attributes, root_parts}
use Rattle.listing_rules.proofs.RoundTrip.{same_bools_true}
use Rattle.octets.specs.Sets.{contains}
use Rattle.octets.proofs.Sets.{contains_bit}
use Rattle.list_line.specs.Members.{members, set_of}

-- the last n digits of a number in base 2, the lowest first
unfoldable pub digits : ℕ → ℕ → List Bool
digits zero a = []
digits (suc n) a = eqb (a % 2) 1 ∷ digits n (a / 2)

-- members k to k + n - 1
bits_from : ℕ → ℕ → ℕ → List Bool
bits_from zero k a = []
bits_from (suc n) k a = bit k a ∷ bits_from n (suc k) a

half : (a k : ℕ) → a / 2 ^ k / 2 ≡ a / 2 ^ suc k
half a k = div-div-eq-div-mul a (2 ^ k) 2 ∙ rw pow-suc

bits_digits : (n k a : ℕ) → bits_from n k a ≡ digits n (a / 2 ^ k)
unfolding digits bit bits_from
bits_digits zero k a = refl
bits_digits (suc n) k a = ap (◌∷◌ (bit k a)) (bits_digits n (suc k) a ∙ ap (digits n) (sym (half a k)))

pub members_digits : (a : ℕ) → members a ≡ digits 16 a
unfolding members bits_from
members_digits a = bits_digits 16 0 a ∙ ap (digits 16) (div-one a)

parity : (d : ℕ) → d < 2 → cond (eqb d 1) 1 0 ≡ d
parity zero h = refl
parity (suc zero) h = refl
parity (suc (suc d)) h = absurd (omega arith)

set_of_digits : (n a : ℕ) → a < 2 ^ n → set_of (digits n a) ≡ a
unfolding set_of digits
set_of_digits zero a h = omega arith
set_of_digits (suc n) a h = omega (arith, set_of_digits n (a / 2) (omega (arith, pow-suc 2 n)), parity (a % 2) (omega arith))

digits_set_of : (bs : List Bool) → digits (length bs) (set_of bs) ≡ bs
unfolding set_of digits
digits_set_of [] = refl
digits_set_of (true ∷ bs) =
    let h : eqb ((1 + 2 * set_of bs) % 2) 1 ≡ true = eq-eqb ((1 + 2 * set_of bs) % 2) 1 (omega arith) in
    let t : (1 + 2 * set_of bs) / 2 ≡ set_of bs = omega arith in
    rw (h, t, digits_set_of bs)
digits_set_of (false ∷ bs) =
    let h : eqb ((0 + 2 * set_of bs) % 2) 1 ≡ false = ne_eqb ((0 + 2 * set_of bs) % 2) 1 (λ e. omega arith) in
    let t : (0 + 2 * set_of bs) / 2 ≡ set_of bs = omega arith in
    rw (h, t, digits_set_of bs)

-- sixteen members are those of their set
pub members_set_of : (bs : List Bool) → length bs ≡ 16 → members (set_of bs) ≡ bs
members_set_of bs h = members_digits (set_of bs) ∙ rw (← h) (digits_set_of bs)

-- a set is that of its members
pub set_of_members : (a : ℕ) → a < 65536 → set_of (members a) ≡ a
set_of_members a h = ap set_of (members_digits a) ∙ set_of_digits 16 a h

get_d_bits : (n j a k : ℕ) → k < n → get_or (bits_from n j a) k false ≡ bit (j + k) a
unfolding bits_from
get_d_bits zero j a k h = absurd (omega arith)
get_d_bits (suc n) j a zero h = rw add-zero
get_d_bits (suc n) j a (suc k) h = get_d_bits n (suc j) a k (omega arith) ∙ rw (add-suc, suc-add)

-- member k
pub get_or_members : (k a : ℕ) → k < 16 → get_or (members a) k false ≡ bit k a
unfolding members bits_from
get_or_members k a h = get_d_bits 16 0 a k h ∙ rw zero-add

pub length_members : (a : ℕ) → length (members a) ≡ 16
unfolding members
length_members a = refl

-- sixteen members make a number of 16 bits
pub set_of_below : (bs : List Bool) → set_of bs < 2 ^ length bs
unfolding set_of
set_of_below [] = omega arith
set_of_below (true ∷ bs) = omega (arith, set_of_below bs, pow-suc 2 (length bs))
set_of_below (false ∷ bs) = omega (arith, set_of_below bs, pow-suc 2 (length bs))

-- one bit of sixteen, as the code shifts it
pub one_bit : (k : ℕ) → k < 16 → (1 * 2 ^ k % 65536 ≡ 2 ^ k) × (2 ^ k ≤ 32768)
one_bit k h = let p : 2 ^ k ≤ 32768 = pow_mono {i = k} {j = 15} (omega arith) in (omega arith, p)

-- one member more
pub set_of_in : (bs : List Bool) → set_of (bs ++ (true ∷ [])) ≡ set_of bs + 2 ^ length bs
unfolding set_of
set_of_in [] = refl
set_of_in (b ∷ bs) = omega (arith, set_of_in bs, pow-suc 2 (length bs))

pub set_of_out : (bs : List Bool) → set_of (bs ++ (false ∷ [])) ≡ set_of bs
unfolding set_of
set_of_out [] = refl
set_of_out (b ∷ bs) = omega (arith, set_of_out bs)

-- the members before a place, and the one there
module _ (bs : List Bool) (k : ℕ) (h : k < length bs) where
  before : length (take k bs) ≡ k
  before = omega (arith, length-take k bs)

  pub set_of_before : set_of (take k bs) < 2 ^ k
  set_of_before = rw before at (set_of_below (take k bs))

  pub set_of_here : get_or bs k false ≡ true → set_of (take k bs) + 2 ^ k ≡ set_of (take (k + 1) bs)
  set_of_here e = sym (rw (add-one k, take-suc bs k false h, e, set_of_in, before))

  pub set_of_not_here : get_or bs k false ≡ false → set_of (take k bs) ≡ set_of (take (k + 1) bs)
  set_of_not_here e = sym (rw (add-one k, take-suc bs k false h, e, set_of_out))

shifted : (x k : ℕ) → x / 2 ^ suc k ≡ x / 2 / 2 ^ k
shifted x k = rw pow-succ' (sym (div-div-eq-div-mul x 2 (2 ^ k)))

-- member k of a set that was made of its members
bit_set_of : (k : ℕ) (bs : List Bool) → bit k (set_of bs) ≡ get_or bs k false
unfolding set_of bit
bit_set_of k [] = ne_eqb (0 / 2 ^ k % 2) 1 (λ e. omega (arith, zero-div (2 ^ k)))
bit_set_of zero (true ∷ bs) = eq-eqb ((1 + 2 * set_of bs) / 1 % 2) 1 (omega (arith, div-one (1 + 2 * set_of bs)))
bit_set_of zero (false ∷ bs) = ne_eqb ((0 + 2 * set_of bs) / 1 % 2) 1 (λ e. omega (arith, div-one (0 + 2 * set_of bs)))
bit_set_of (suc k) (b ∷ bs) =
    ap (λ (x : ℕ). eqb (x % 2) 1) (shifted (cond b 1 0 + 2 * set_of bs) k ∙ ap (λ (x : ℕ). x / 2 ^ k) (lower b)) ∙ bit_set_of k bs
  where
    lower : (c : Bool) → (cond c 1 0 + 2 * set_of bs) / 2 ≡ set_of bs
    lower true = omega arith
    lower false = omega arith

-- what `Attributes::has` answers of it
pub contains_set_of : (k : ℕ) (bs : List Bool) → contains (set_of bs) (2 ^ k) ≡ get_or bs k false
contains_set_of k bs = contains_bit k (set_of bs) ∙ bit_set_of k bs

-- the root line's attributes are the set 4, \Noselect
root_members : (a : ℕ) → a < 65536 → same_bools (members a) root_attributes ≡ eqb a 4
unfolding same_bools root_attributes members bit set_of
root_members a h = go (eqb a 4) refl (same_bools (members a) root_attributes) refl
  where
    go : (o : Bool) → eqb a 4 ≡ o → (p : Bool) → same_bools (members a) root_attributes ≡ p → p ≡ o
    go true e p f = sym f ∙ rw (eqb-true a 4 e)
    go false e true f =
        let w : a ≡ 4 = sym (set_of_members a h) ∙ ap set_of (same_bools_true (members a) root_attributes f) in
        sym (eq-eqb a 4 w) ∙ e
    go false e false f = refl

is_empty_lem : (n : List ℕ) → is_empty n ≡ eqb (length n) 0
unfolding is_empty
is_empty_lem [] = refl
is_empty_lem (x ∷ xs) = sym (ne_eqb (suc (length xs)) 0 (λ e. omega arith))

-- the parts of the root line, as the code tests them
pub root_parts_lem : (a : ℕ) (n : List ℕ) (c : Criteria) → a < 65536 → (eqb a 4 && eqb (length n) 0 && is_none c) ≡ root_parts (members a) n c
unfolding root_parts
root_parts_lem a n c h = rw (root_members a h, is_empty_lem n)
