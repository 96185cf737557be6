-- `is_one_command`: the line from the loop's place on is one command exactly if the whole line is. Rests on Shapes.
use Rattle.listing_rules.proofs.Prelude.{◌∙◌, sym}
use Rattle.command_shape.proofs.Shapes.{shaped_first, shaped_out, shaped_bad, shaped_last, shaped_on}
use Rattle.command_shape.proofs.is_one_command.Goals as goal

pub loop-i-init : goal.loop-i-init
loop-i-init c = shaped_first _

pub returns-in-Bad : goal.returns-in-Bad
returns-in-Bad c =
    shaped_bad _ _ _ c.loop-i.invariant c.loop-i-test.true (sym c.shapes.ensures ∙ c.in-Bad.is)

pub returns-in-Last : goal.returns-in-Last
returns-in-Last c =
    shaped_last _ _ _ c.loop-i.invariant c.loop-i-test.true (sym c.shapes.ensures ∙ c.in-Last.is)

pub loop-i-preserved : goal.loop-i-preserved
loop-i-preserved c =
    shaped_on _ _ _ c.loop-i.invariant c.loop-i-test.true _ (sym c.shapes.ensures ∙ c.in-Further.is)

pub returns : goal.returns
returns c =
    shaped_out _ _ _ c.loop-i.invariant c.loop-i-test.false
