-- What is left of zeros. Rests on the library alone.
use Rattle.listing_rules.proofs.Prelude.{◌∙◌, ◌≡◌, ◌-◌, suc, zero, ℕ, sub-zero, suc-sub-suc, zero-sub}
use Rattle.listing_rules.proofs.Prelude.{drop, replicate}

pub drop_zeros : (n k : ℕ) → drop {A = ℕ} k (replicate n 0) ≡ replicate (n - k) 0
drop_zeros n zero = rw sub-zero
drop_zeros zero (suc k) = rw zero-sub
drop_zeros (suc n) (suc k) = drop_zeros n k ∙ rw suc-sub-suc
