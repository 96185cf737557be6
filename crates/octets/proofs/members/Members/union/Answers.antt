-- `octets::members::Members::union` meets its contract: a union has no other digits than its parts, so all of it is kept.
use Rattle.listing_rules.proofs.Prelude.{◌∙◌, ap₂}
use lib.Bits.{bit_or}
use Rattle.std.proofs.lemmas.Nat.{or_lt}
use Rattle.std.proofs.Math.Nat.{mod-eq_of_lt}
use Rattle.octets.proofs.members.Members.union.Goals as goal

pub returns : goal.returns
returns g c =
    let a = c.number.ensures in
    let b = c.number-2.ensures in
    c.of_number.ensures ∙ mod-eq_of_lt (or_lt _ _ _ a.below b.below) ∙ ap₂ bit_or a.value b.value
