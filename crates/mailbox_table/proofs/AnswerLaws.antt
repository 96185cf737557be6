-- An answer that goes by a test tells the test. Rests on the library alone.
use Rattle.std.specs.Prelude.{Some, None}
use Rattle.listing_rules.proofs.Prelude.{◌≡◌, refl, Bool, cond, false, true, ℕ, arith}

pub rows_decided : (b : Bool) (k n : ℕ) → Some n ≡ cond b (Some k) None → (b ≡ true) × (n ≡ k)
rows_decided true k n e = (refl, cc)
rows_decided false k n e = absurd (let z : ◌≡◌ {A = ℕ} 0 1 = cc in omega arith)

pub fails_decided : (b : Bool) (k : ℕ) → None ≡ cond b (Some k) None → b ≡ false
fails_decided true k e = cc
fails_decided false k e = refl
