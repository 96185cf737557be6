-- `Attributes::of`: the bits so far are the set of the members so far. Rests on Members.
use Rattle.listing_rules.proofs.Prelude.{◌∙◌, ◌≡◌, ap, refl, ◌+◌, ◌<◌, ◌^◌, ℕ, arith, length, rules}
use Rattle.list_line.specs.Members.{set_of}
use Rattle.list_line.proofs.Members.{one_bit, set_of_before, set_of_here, set_of_not_here}
use Rattle.list_line.proofs.attributes.Attributes.of.Goals as goal
use Rattle.list_line.proofs.attributes.Attributes.of.Goals.{then-is_in, else-is_in}

pub loop-k-init : goal.loop-k-init
unfolding set_of
loop-k-init c = refl

pub overflow_add-bits : goal.overflow_add-bits
overflow_add-bits c =
    let sixteen : length c.args.shown ≡ 16 = search rules in
    omega (arith, set_of_before c.args.shown c.loop-k.k (omega arith), one_bit c.loop-k.k (omega arith), c.loop-k.invariant)

pub loop-k-preserved : goal.loop-k-preserved
loop-k-preserved c =
    let sixteen : length c.args.shown ≡ 16 = search rules in
    let inside : c.loop-k.k < length c.args.shown = omega arith in
    elim c.if-is_in.branch [
      | then-is_in w ↦
          let one = one_bit c.loop-k.k (omega arith) in
          w.bits-is ∙ ap (λ (n : ℕ). c.loop-k.bits + n) one.0 ∙ ap (λ (n : ℕ). n + 2 ^ c.loop-k.k) c.loop-k.invariant ∙ set_of_here c.args.shown c.loop-k.k inside w.if-is_in.true
      | else-is_in w ↦ w.bits-is ∙ c.loop-k.invariant ∙ set_of_not_here c.args.shown c.loop-k.k inside w.if-is_in.false
    ]
