-- Special uses, and the bits that no member has, by the places of their bits. Rests on octets' law `touches-bits`.
use Rattle.listing_rules.proofs.Prelude.{◌∙◌, ◌≡◌, ap, refl, Bool, ◌&&◌, ◌||◌, false, not, true, [], ◌∷◌, ℕ}
use Rattle.listing_rules.specs.Bytes.{bit}
use Rattle.listing_rules.specs.Lists.{any_of}
use Rattle.listing_rules.specs.Flags.{uses, has_use}
use Rattle.mailbox_table.specs.declared.flags.TheConstants.Flags.{NONE}
use Rattle.octets.specs.Sets.{touches, set_with}
use Rattle.octets.proofs.Sets.{touches_bits}

-- the empty set has no member
pub none_is : NONE ≡ record { bits = 0 }
none_is = refl

-- bits 8 to 14
pub some_use : (f : ℕ) → touches f 32512 ≡ has_use f
unfolding set_with any_of uses has_use
some_use f = touches_bits f (8 ∷ 9 ∷ 10 ∷ 11 ∷ 12 ∷ 13 ∷ 14 ∷ [])

neither : (a b : Bool) → not (a || (b || false)) ≡ (not a && not b)
neither true b = refl
neither false true = refl
neither false false = refl

-- bits 7 and 15
pub none_unnamed : (f : ℕ) → not (touches f 32896) ≡ (not (bit 7 f) && not (bit 15 f))
unfolding set_with any_of
none_unnamed f = ap not (touches_bits f (7 ∷ 15 ∷ [])) ∙ neither (bit 7 f) (bit 15 f)
