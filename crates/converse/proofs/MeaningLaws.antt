-- A number that no refusal has means nothing.
use Rattle.listing_rules.proofs.Prelude.{◌≡◌, refl, List, [], ℕ, ◌≤◌, ◌+◌, ◌-◌, arith, length, list_get_or_eq_default, zero-le}
use Rattle.listing_rules.proofs.Prelude.{subst}
use Rattle.octets.specs.Put.{Put}
use Rattle.conversation.specs.Texts.{meaning, meanings}

-- the sixteen
sixteen : length meanings ≡ 16
unfolding meanings
sixteen = refl

high : (k n : ℕ) → n ≤ k → (k ≡ n → ⊥) → n + 1 ≤ k
high k n h f = omega (arith, f)

pub no_meaning : (k : ℕ) → (((((((((((((((((Unit {0} × (k ≡ 0 → ⊥)) × (k ≡ 1 → ⊥)) × (k ≡ 2 → ⊥)) × (k ≡ 3 → ⊥)) × (k ≡ 4 → ⊥)) × (k ≡ 5 → ⊥)) ×
    (k ≡ 6 → ⊥)) × (k ≡ 7 → ⊥)) × (k ≡ 8 → ⊥)) × (k ≡ 9 → ⊥)) × (k ≡ 10 → ⊥)) × (k ≡ 11 → ⊥)) × (k ≡ 12 → ⊥)) × (k ≡ 13 → ⊥)) × (k ≡ 14 → ⊥)) ×
    (k ≡ 15 → ⊥)) × (k ≡ 16 → ⊥)) → meaning k ≡ []
unfolding meaning
no_meaning k other = let q : length meanings ≤ k - 1 = omega (arith, sixteen, above) in list_get_or_eq_default meanings [] q
  where
    above : 17 ≤ k
    above =
        (high k 16 (high k 15 (high k 14 (high k 13 (high k 12
        (high k 11 (high k 10 (high k 9 (high k 8 (high k 7 (high k 6
        (high k 5 (high k 4 (high k 3 (high k 2 (high k 1 (high k 0 zero-le other.0.0.0.0.0.0.0.0.0.0.0.0.0.0.0.0.1)
        other.0.0.0.0.0.0.0.0.0.0.0.0.0.0.0.1) other.0.0.0.0.0.0.0.0.0.0.0.0.0.0.1)
        other.0.0.0.0.0.0.0.0.0.0.0.0.0.1) other.0.0.0.0.0.0.0.0.0.0.0.0.1)
        other.0.0.0.0.0.0.0.0.0.0.0.1) other.0.0.0.0.0.0.0.0.0.0.1) other.0.0.0.0.0.0.0.0.0.1)
        other.0.0.0.0.0.0.0.0.1) other.0.0.0.0.0.0.0.1) other.0.0.0.0.0.0.1) other.0.0.0.0.0.1)
        other.0.0.0.0.1) other.0.0.0.1) other.0.0.1) other.0.1) other.1)

-- a write of other bytes that are the same
pub put_as : {d e : List ℕ} {at : ℕ} {bs cs : List ℕ} {r : ℕ} → bs ≡ cs → Put d e at bs r → Put d e at cs r
put_as {d} {e} {at} {bs} {cs} {r} q p = subst (λ (m : List ℕ). Put d e at m r) q p
