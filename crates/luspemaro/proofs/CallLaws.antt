-- Laws of the calls of the system: what is left of what a write has left.
use Rattle.listing_rules.proofs.Prelude.{◌∙◌, ap, List, ℕ, ◌+◌, arith, drop, drop-drop, length, length-drop}
use Rattle.luspemaro.specs.Calling.{Leaves}

pub leaves_less : {a b left : List ℕ} → Leaves a b → Leaves b left → Leaves a left
leaves_less {a} x y = (
  x.0 + y.0,
  (
    omega (arith, x.1.0, y.1.0, ap length x.1.1, length-drop x.0 a),
    y.1.1 ∙ ap (drop y.0) x.1.1 ∙ drop-drop y.0 x.0 a,
  ),
)
