-- Bools: `&&` and `||` taken apart and put together; two tests that imply each other are equal. Rests on the library alone.
use Rattle.listing_rules.proofs.Prelude.{◌≡◌, refl, Bool, ◌&&◌, ◌||◌, false, true, ◌⊎◌, inl, inr}

pub and_l : (a b : Bool) → (a && b) ≡ true → a ≡ true
and_l true b e = refl
and_l false b e = e

pub and_r : (a b : Bool) → (a && b) ≡ true → b ≡ true
and_r true b e = e
and_r false b e = cc

pub and_i : (a b : Bool) → a ≡ true → b ≡ true → (a && b) ≡ true
and_i a b p q = rw p q

pub and_assoc : (a b c : Bool) → ((a && b) && c) ≡ (a && (b && c))
and_assoc true b c = refl
and_assoc false b c = refl

pub or_cases : (a b : Bool) → (a || b) ≡ true → (a ≡ true) ⊎ (b ≡ true)
or_cases true b e = inl refl
or_cases false b e = inr e

pub or_l : (a b : Bool) → a ≡ true → (a || b) ≡ true
or_l a b e = rw e

pub or_r : (a b : Bool) → b ≡ true → (a || b) ≡ true
or_r true b e = refl
or_r false b e = e

-- a test that is not passed
pub or_none_l : (a b : Bool) → (a || b) ≡ false → a ≡ false
or_none_l true b e = e
or_none_l false b e = refl

pub or_none_r : (a b : Bool) → (a || b) ≡ false → b ≡ false
or_none_r true b e = cc
or_none_r false b e = e

-- two tests of which each passes where the other does
pub bools_equal : (a b : Bool) → (a ≡ true → b ≡ true) → (b ≡ true → a ≡ true) → a ≡ b
bools_equal true true f g = refl
bools_equal true false f g = cc (f refl)
bools_equal false true f g = cc (g refl)
bools_equal false false f g = refl
