-- `number`: the digits so far and those that are left come to the whole number, cut at 1,025. Rests on Numbers.
use Rattle.listing_rules.proofs.Prelude.{◌∙◌, sym, arith}
use Rattle.command_tokens.proofs.Numbers.{number_step, number_out}
use Rattle.command_tokens.proofs.literals.number.Goals as goal

pub loop-digit-preserved : goal.loop-digit-preserved
loop-digit-preserved c =
    (omega (arith, c.with_digit-n.ensures), rw c.with_digit-n.ensures (sym (number_step _ _ _ c.loop-digit-test.true) ∙ c.loop-digit.invariant.1))

pub returns : goal.returns
returns c =
    omega (arith, c.loop-digit.invariant.0, c.loop-digit.invariant.1, number_out c.args.digits.now _ c.loop-digit.n c.loop-digit-test.false)
